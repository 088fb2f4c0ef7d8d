use Rattle.std.proofs.Common.{sym, subst}
use Rattle.ncc_layout.specs.Bounds.{RecordsJudged, JudgedLater}
use Rattle.ncc_layout.proofs.FirstFaults.{from_records, cut, none_cut}
use Rattle.ncc_layout.proofs.judging.later_fault.Goals as goal

pub returns-in-Some : goal.returns-in-Some
returns-in-Some c =
    from_records c.args.frame.file_length c.args.frame.record_size c.args.frame.records c.args.extents.now c.in-Some.fault.0 c.in-Some.fault.1
    (subst (RecordsJudged c.args.frame.record_size c.args.extents.now) c.in-Some.is c.records_fault.ensures)

pub returns-in_err-variable : goal.returns-in_err-variable
returns-in_err-variable c =
    subst (JudgedLater c.args.frame.file_length c.args.frame.record_size c.args.frame.records c.args.extents.now) (sym c.from_residual.ensures)
    (none_cut c.args.frame.file_length c.args.frame.record_size c.args.frame.records c.args.extents.now
    (subst (RecordsJudged c.args.frame.record_size c.args.extents.now) c.in_default.is c.records_fault.ensures) c.in_err-variable.ensures)

pub returns : goal.returns
returns c =
    cut c.args.frame.file_length c.args.frame.record_size c.args.frame.records c.args.extents.now
    (subst (RecordsJudged c.args.frame.record_size c.args.extents.now) c.in_default.is c.records_fault.ensures) c.in_ok-variable.variable c.in_ok-variable.ensures
