use Rattle.std.proofs.Common.{◌≡◌, take}
use Rattle.ncc_schema.specs.Names.{capped}
use Rattle.ncc_layout.specs.Plans.{fixed_end}
use Rattle.ncc_layout.proofs.planning.fitting.records_begin.Given as goal

abbrev pub invariant-loop-number : goal.invariant-loop-number
invariant-loop-number l = l.begin ≡ capped (fixed_end l.schema (take l.number l.vars))
