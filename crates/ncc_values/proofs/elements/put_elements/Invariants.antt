use Rattle.std.proofs.Common.{◌≡◌, ◌*◌, take}
use Rattle.ncc_values.specs.Values.{bytes_by}
use Rattle.ncc_values.proofs.elements.put_elements.Given as goal

abbrev pub invariant-elements : goal.invariant-elements
invariant-elements g l = take (l.i * g.T.External.SIZE) l.out ≡ bytes_by g.T.External.number g.T.External.TYPE (take l.i l.items)
