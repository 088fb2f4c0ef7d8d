use Rattle.std.proofs.Common.{◌≡◌, ◌≤◌, ◌+◌, ◌*◌, ◌^◌, drop}
use Rattle.ncc_picture.specs.Parts.{other_bytes}
use Rattle.ncc_picture.proofs.parts.other_bytes.Given as goal

abbrev pub invariant-loop-part : goal.invariant-loop-part
invariant-loop-part l = record {
  value : l.bytes + other_bytes (drop l.part-index l.parts) ≡ other_bytes l.parts;
  small : l.bytes ≤ l.part-index * 2 ^ 64;
}
