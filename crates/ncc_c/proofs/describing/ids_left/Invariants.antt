use Rattle.std.proofs.Common.{◌≡◌, ◌+◌, drop}
use Rattle.ncc_c.specs.Describing.{ids_by}
use Rattle.ncc_c.proofs.describing.ids_left.Given as goal

abbrev pub invariant-loop-row : goal.invariant-loop-row
invariant-loop-row l = l.left + ids_by l.rows ≡ l.fn.ids + ids_by (drop l.row-index l.rows)
