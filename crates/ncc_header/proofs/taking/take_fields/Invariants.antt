use Rattle.ncc_header.specs.Reading.{Went, effort_of}
use Rattle.ncc_header.proofs.taking.take_fields.Given as goal

abbrev pub invariant-loop-n : goal.invariant-loop-n
invariant-loop-n l = Went l.fn.reading l.reading l.piece l.used

abbrev pub decreases-loop-n : goal.decreases-loop-n
decreases-loop-n l = effort_of l.reading
