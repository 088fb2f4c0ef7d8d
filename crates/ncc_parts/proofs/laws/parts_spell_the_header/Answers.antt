use Rattle.ncc_parts.proofs.Spelling.{header_spells}
use Rattle.ncc_parts.proofs.laws.parts_spell_the_header.Goals as goal

pub returns : goal.returns
returns c = header_spells
