use Rattle.std.proofs.Common.{◌≡◌, ◌++◌}
use Rattle.ncc_picture.specs.Bands.{divisions}
use Rattle.ncc_picture.proofs.bands.push_divisions.Given as goal

abbrev pub invariant-loop-number : goal.invariant-loop-number
invariant-loop-number l = l.out.items ≡ l.fn.out.items ++ divisions l.far l.begin l.size l.number
