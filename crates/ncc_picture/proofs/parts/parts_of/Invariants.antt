use Rattle.std.proofs.Common.{◌≡◌, ◌≤◌, ◌++◌, drop}
use Rattle.ncc_picture.specs.Parts.{parts_of}
use Rattle.ncc_picture.proofs.parts.parts_of.Given as goal

abbrev pub invariant-loop-extent : goal.invariant-loop-extent
invariant-loop-extent l = record {
  parts : l.parts.items ++ parts_of l.large l.past l.lines (drop l.extent-index l.extents) ≡ parts_of l.large l.header_length 0 l.extents;
  few : l.lines ≤ l.extent-index;
}
