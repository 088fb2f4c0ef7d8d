use Rattle.std.proofs.Common.{◌≡◌, ◌++◌, drop}
use Rattle.std.specs.List.{flat_map}
use Rattle.ncc_listed.specs.Members.{attr_object}
use Rattle.ncc_listed.proofs.attributes.put_each.Given as goal

abbrev pub invariant-loop-attr : goal.invariant-loop-attr
invariant-loop-attr l =
    (l.out.tokens ++ flat_map (attr_object l.style) (drop l.attr-index l.attrs) ≡ l.fn.out.tokens ++ flat_map (attr_object l.style) l.attrs)
    × (l.out.before ≡ l.fn.out.before)
