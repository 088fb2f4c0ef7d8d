use Rattle.std.proofs.Common.{◌≡◌, drop}
use Rattle.std.specs.List.{position_from}
use Rattle.ncc_slab.specs.Refusals.{along, is_outside}
use Rattle.ncc_slab.proofs.refusing.first_outside.Given as goal

abbrev pub invariant-loop-k : goal.invariant-loop-k
invariant-loop-k l =
    position_from is_outside l.k (along (drop l.k l.lengths) (drop l.k l.start) (drop l.k l.count) (drop l.k l.stride))
    ≡ position_from is_outside 0 (along l.lengths l.start l.count l.stride)
