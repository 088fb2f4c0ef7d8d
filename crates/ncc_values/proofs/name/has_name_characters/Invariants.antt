use Rattle.ncc_values.proofs.NameLemmas.{Left}
use Rattle.ncc_values.proofs.name.has_name_characters.Given as goal

abbrev pub invariant-loop-character : goal.invariant-loop-character
invariant-loop-character l = Left l.text l.first l.last l.character-iterator.rest.now
