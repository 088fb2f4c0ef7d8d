use Rattle.ncc_parts.specs.Parts.{parts_of}
use Rattle.ncc_explain.proofs.objects.part_with.Goals as goal

pub returns : goal.returns
returns c = c.part_of.ensures (parts_of c.args.header.now.schema) c.requires
