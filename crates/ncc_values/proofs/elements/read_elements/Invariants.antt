use Rattle.std.proofs.Common.{◌≡◌, length, take}
use Rattle.ncc_values.specs.Values.{elements_from}
use Rattle.ncc_values.proofs.elements.read_elements.Given as goal

abbrev pub invariant-elements : goal.invariant-elements
invariant-elements g l = record {
  read : take l.i l.items ≡ elements_from g.T.External.element g.T.External.TYPE l.i l.bytes;
  same : length l.items ≡ length l.fn.items;
}
