use Rattle.std.proofs.Common.{◌≡◌, ◌+◌, drop}
use Rattle.ncc_c.specs.Describing.{attrs_by}
use Rattle.ncc_c.proofs.describing.globals_of.Given as goal

abbrev pub invariant-loop-row : goal.invariant-loop-row
invariant-loop-row l = l.left + attrs_by l.rows ≡ l.fn.attrs + attrs_by (drop l.row-index l.rows)
