use Rattle.std.proofs.Common.{◌≡◌, length, take}
use Rattle.std.specs.List.{flat_map}
use Rattle.ncc_schema.specs.Header.{canon_attr}
use Rattle.ncc_schema.specs.Names.{capped}
use Rattle.ncc_schema.proofs.rules.attr.attrs_size.Given as goal

abbrev pub invariant-loop-attr : goal.invariant-loop-attr
invariant-loop-attr l = l.size ≡ capped (length (flat_map (canon_attr l.version) (take l.attr-index l.attrs)))
