use Rattle.std.proofs.Common.{◌≡◌, Option, None, [], refl, subst, sym}
use Rattle.ncc_layout.specs.Placed.{vars_of}
use Rattle.ncc_layout.specs.declared.placed_file.Placed.{Placed}
use Rattle.ncc_check.specs.Files.{store_of, schema_of, placed_of}
use Rattle.ncc_lines.specs.Sends.{PutsFront}
use Rattle.ncc_slab.specs.Refusals.{slab_fault}
use Rattle.ncc_slab.specs.declared.fault.SlabFault.{SlabFault}
use Rattle.ncc_csv.specs.Sheets.{IsCause, SendsSheet, sheet_text, sheet_or_line}
use Rattle.ncc_csv.proofs.SheetTexts.{fails_sheet, not_memory}
use Rattle.ncc_csv.proofs.sheet.send_sheet.Goals as goal

pub returns-in-Err-clause-sent : goal.returns-in-Err-clause-sent
returns-in-Err-clause-sent g c = λ told.
    let file = c.args.file.now in
    let sheet = sheet_text c.args.style c.args.texts (g.S.Store.bytes (store_of file)) (schema_of file) (placed_of file) c.args.var c.args.slab.now in
    let cause : IsCause (slab_fault (vars_of (placed_of file)) c.args.var c.args.slab.now) c.in-Err.fault =
    subst (λ (p : Placed). IsCause (slab_fault (vars_of p) c.args.var c.args.slab.now) c.in-Err.fault) c.placed.ensures c.in-Err.ensures in
    c.refuse.ensures.sent (slab_fault (vars_of (placed_of file)) c.args.var c.args.slab.now) sheet cause

pub returns-in_err-send_printed-clause-sent : goal.returns-in_err-send_printed-clause-sent
returns-in_err-send_printed-clause-sent g c = λ told.
    let file = c.args.file.now in
    let sheet = sheet_text c.args.style c.args.texts (g.S.Store.bytes (store_of file)) (schema_of file) (placed_of file) c.args.var c.args.slab.now in
    let none : slab_fault (vars_of (placed_of file)) c.args.var c.args.slab.now ≡ None =
    subst (λ (p : Placed). slab_fault (vars_of p) c.args.var c.args.slab.now ≡ None) c.placed.ensures c.in-Ok.ensures.0 in
    fails_sheet _ _ _ sheet _ c.from_residual.ensures.0
    (subst (λ (o : Option SlabFault). PutsFront (g.W.Sink.put c.args.sink.now) (g.W.Sink.put c.send_printed.new.sink) (sheet_or_line o sheet)) (sym none) (c.in_err-send_printed.ensures.sent told))

pub returns-in-Err-clause-refused : goal.returns-in-Err-clause-refused
returns-in-Err-clause-refused g c = λ fault is.
    let file = c.args.file.now in
    let found = slab_fault (vars_of (placed_of file)) c.args.var c.args.slab.now in
    let cause : IsCause found c.in-Err.fault =
    subst (λ (p : Placed). IsCause (slab_fault (vars_of p) c.args.var c.args.slab.now) c.in-Err.fault) c.placed.ensures c.in-Err.ensures in (
      subst (λ (o : Option SlabFault). SendsSheet o (g.W.Sink.put c.args.sink.now) (g.W.Sink.put c.refuse.new.sink) [] c.refuse.result) is (c.refuse.ensures.sent found [] cause),
      refl,
      λ is_memory. not_memory found c.in-Err.fault fault cause is (c.refuse.ensures.memory is_memory).0,
    )
