use Rattle.std.proofs.Common.{Option, rules, sym, subst}
use Rattle.ncc_lines.specs.Sends.{PutsFront}
use Rattle.ncc_slab.specs.declared.fault.SlabFault.{SlabFault}
use Rattle.ncc_csv.specs.Sheets.{sheet_or_line}
use Rattle.ncc_csv.proofs.SheetTexts.{cause_of, fails_sheet}
use Rattle.ncc_csv.proofs.sheet.refuse.Goals as goal

pub returns-in_err-send_refusal-in_default : goal.returns-in_err-send_refusal-in_default
returns-in_err-send_refusal-in_default g c = record {
  sent = λ cause sheet is.
      fails_sheet cause _ _ sheet _ c.from_residual.ensures.0
      (subst (λ (o : Option SlabFault). PutsFront (g.W.Sink.put c.args.sink.now) (g.W.Sink.put c.send_refusal.new.sink) (sheet_or_line o sheet))
      (sym (cause_of cause c.args.fault is c.in_default.not-Memory)) c.in_err-send_refusal-in_default.ensures.sent);
  answer = λ cause is. search rules;
  count = search rules;
  memory = search rules;
}
