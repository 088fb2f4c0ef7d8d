use Rattle.std.proofs.Common.{◌≡◌, drop, map}
use Rattle.ncc_layout.specs.Extents.{records_of}
use Rattle.ncc_layout.specs.Bounds.{first_begin, first_begin_from}
use Rattle.ncc_layout.proofs.records.first_begin_of.Given as goal

abbrev pub invariant-loop-var : goal.invariant-loop-var
invariant-loop-var l =
    first_begin_from l.first (records_of (map (λ x. x.extent) (drop l.var-index l.vars))) ≡ first_begin (records_of (map (λ x. x.extent) l.vars))
