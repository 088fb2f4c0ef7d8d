use Rattle.std.proofs.Common.{ap, ◌∙◌}
use Rattle.ncc_values.specs.Values.{no_values}
use Rattle.ncc_values.specs.XType.{size_of}
use Rattle.ncc_check.specs.Files.{store_of}
use Rattle.ncc_slab.specs.SlabParts.{parts_left, parts_type}
use Rattle.ncc_csv.proofs.PartRows.{added_to_none}
use Rattle.ncc_csv.proofs.parts.next_values.Goals as goal

pub returns-in-Ok-clause-values : goal.returns-in-Ok-clause-values
returns-in-Ok-clause-values g c = λ told.
    let t = parts_type c.args.parts.now in
    added_to_none (g.S.Store.bytes (store_of c.args.file.now)) (size_of t) (parts_left c.args.parts.now) t c.in-Ok.field-0 c.new-values.result c.next_part.new.values
    (c.new-values.ensures ∙ ap no_values c.xtype.ensures) c.in-Ok.ensures.counted (c.in-Ok.ensures.values told)
