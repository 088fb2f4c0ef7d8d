use Rattle.std.proofs.Common.{◌≡◌, map, take}
use Rattle.ncc_c.specs.Describing.{attr_by}
use Rattle.ncc_c.proofs.describing.attrs_of.Given as goal

abbrev pub invariant-loop-k : goal.invariant-loop-k
invariant-loop-k l = l.items.items ≡ map (attr_by l.text) (take l.k l.rows)
