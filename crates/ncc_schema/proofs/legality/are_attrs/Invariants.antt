use Rattle.std.proofs.Common.{◌↔◌, drop}
use Rattle.std.specs.List.{AllByRecursion}
use Rattle.ncc_schema.specs.Schema.{LegalAttr}
use Rattle.ncc_schema.proofs.legality.are_attrs.Given as goal

abbrev pub invariant-loop-attr : goal.invariant-loop-attr
invariant-loop-attr l = AllByRecursion (LegalAttr l.version) (drop l.attr-index l.attrs) ↔ AllByRecursion (LegalAttr l.version) l.attrs
