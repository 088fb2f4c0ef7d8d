use Rattle.std.proofs.Common.{subst}
use Rattle.std.proofs.lemmas.List.Sorted.{IsPermutation-refl}
use Rattle.ncc_layout.specs.Rules.Overlap.{Overlaps}
use Rattle.ncc_layout.proofs.FirstFaults as found
use Rattle.ncc_layout.proofs.judging.first_fault.Goals as goal

pub returns-in-Some-clause-judged : goal.returns-in-Some-clause-judged
returns-in-Some-clause-judged c = found.in_header c.args.frame.header_length c.args.frame.file_length c.args.frame.record_size c.args.frame.records c.args.extents.now c.in-Some.variable c.in-Some.ensures

pub returns-in-Some-clause-moved : goal.returns-in-Some-clause-moved
returns-in-Some-clause-moved c = IsPermutation-refl c.args.extents.now

pub returns-in-Some-overlap-clause-judged : goal.returns-in-Some-overlap-clause-judged
returns-in-Some-overlap-clause-judged c = found.overlapping c.args.frame.header_length c.args.frame.file_length c.args.frame.record_size c.args.frame.records c.args.extents.now c.in_default.ensures _ c.in-Some-overlap.variable c.overlap.ensures.found c.in-Some-overlap.is

pub returns-in-None-clause-judged : goal.returns-in-None-clause-judged
returns-in-None-clause-judged c =
    found.by_later c.args.frame.header_length c.args.frame.file_length c.args.frame.record_size c.args.frame.records c.args.extents.now
    c.in_default.ensures (subst (Overlaps c.args.extents.now) c.in-None.is c.overlap.ensures.found) c.later_fault-later.result c.later_fault-later.ensures
