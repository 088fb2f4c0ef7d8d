use Rattle.std.proofs.Common.{◌+◌, None, Some, sym, subst}
use Rattle.ncc_layout.specs.Rules.RecordWindow.{InRecordWindow}
use Rattle.ncc_layout.specs.Rules.FixedAfterRecords.{NotFixedAfterRecords}
use Rattle.ncc_layout.specs.Rules.RecordWindow.{is_past_record_window}
use Rattle.ncc_layout.specs.Rules.FixedAfterRecords.{is_fixed_after_records}
use Rattle.ncc_layout.specs.Bounds.{RecordsJudged}
use Rattle.ncc_layout.proofs.Searching.{finds}
use Rattle.ncc_layout.proofs.TestsOfRules.{tells_record_window, tells_fixed_after_records}
use Rattle.ncc_layout.proofs.judging.records_fault.Goals as goal

pub returns-in-Some : goal.returns-in-Some
returns-in-Some c =
    let es = c.args.extents.now in
    let r = c.args.record_size in
    let b = c.in_ok-begin.field-0 in
    finds (InRecordWindow r es) (is_past_record_window (b + r)) (tells_record_window es b c.in_ok-begin.ensures r) es (Some c.in-Some.variable) c.in-Some.ensures

pub returns-in_err-variable : goal.returns-in_err-variable
returns-in_err-variable c =
    let es = c.args.extents.now in
    let r = c.args.record_size in
    let b = c.in_ok-begin.field-0 in
    subst (RecordsJudged r es) (sym c.from_residual-in_err-variable.ensures) (
      finds (InRecordWindow r es) (is_past_record_window (b + r)) (tells_record_window es b c.in_ok-begin.ensures r) es None c.in_default.ensures,
      finds (NotFixedAfterRecords es) (is_fixed_after_records b) (tells_fixed_after_records es b c.in_ok-begin.ensures) es None c.in_err-variable.ensures,
    )

pub returns : goal.returns
returns c =
    let es = c.args.extents.now in
    let r = c.args.record_size in
    let b = c.in_ok-begin.field-0 in (
      finds (InRecordWindow r es) (is_past_record_window (b + r)) (tells_record_window es b c.in_ok-begin.ensures r) es None c.in_default.ensures,
      finds (NotFixedAfterRecords es) (is_fixed_after_records b) (tells_fixed_after_records es b c.in_ok-begin.ensures) es (Some c.in_ok-variable.variable) c.in_ok-variable.ensures,
    )
