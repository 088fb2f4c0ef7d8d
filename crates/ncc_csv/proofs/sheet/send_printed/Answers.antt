use Rattle.std.proofs.Common.{◌≡◌, List, ℕ, true, false, get_or, sym, ap, subst, ◌∙◌}
use Rattle.std.specs.Prelude.{◌&&◌}
use Rattle.ncc_layout.specs.Elements.{var_at}
use Rattle.ncc_layout.specs.Placed.{record_size_of_file, vars_of}
use Rattle.ncc_layout.specs.declared.placed_file.Placed.{Placed}
use Rattle.ncc_check.specs.Files.{store_of, schema_of, placed_of}
use Rattle.ncc_lines.specs.Sends.{SendsAll}
use Rattle.ncc_csv.specs.Named.{no_var}
use Rattle.ncc_csv.specs.Texts.{has_texts}
use Rattle.ncc_csv.proofs.SheetTexts.{printed_texts, printed_elements}
use Rattle.ncc_csv.proofs.sheet.send_printed.Goals as goal

pub returns-then-prints_texts-clause-sent : goal.returns-then-prints_texts-clause-sent
returns-then-prints_texts-clause-sent g c = λ told.
    let file = c.args.file.now in
    let x = var_at (vars_of (placed_of file)) c.args.var in
    let test : (c.args.texts && has_texts x.xtype x.shape) ≡ true =
    sym (c.prints_texts.ensures ∙ ap (λ (p : Placed). c.args.texts && has_texts (var_at (vars_of p) c.args.var).xtype (var_at (vars_of p) c.args.var).shape) c.placed.ensures) ∙ c.if-prints_texts.true in
    subst (λ (t : List ℕ). SendsAll (g.W.Sink.put c.args.sink.now) (g.W.Sink.put c.send_selected_texts.new.sink) t c.send_selected_texts.result)
    (printed_texts c.args.style c.args.texts (schema_of file).dims (get_or (schema_of file).vars c.args.var no_var) (g.S.Store.bytes (store_of file)) (record_size_of_file (placed_of file)) x c.args.slab.now test)
    (c.send_selected_texts.ensures.sent told)

pub returns-clause-sent : goal.returns-clause-sent
returns-clause-sent g c = λ told.
    let file = c.args.file.now in
    let x = var_at (vars_of (placed_of file)) c.args.var in
    let test : (c.args.texts && has_texts x.xtype x.shape) ≡ false =
    sym (c.prints_texts.ensures ∙ ap (λ (p : Placed). c.args.texts && has_texts (var_at (vars_of p) c.args.var).xtype (var_at (vars_of p) c.args.var).shape) c.placed.ensures) ∙ c.if-prints_texts.false in
    subst (λ (t : List ℕ). SendsAll (g.W.Sink.put c.args.sink.now) (g.W.Sink.put c.send_selected.new.sink) t c.send_selected.result)
    (printed_elements c.args.style c.args.texts (schema_of file).dims (get_or (schema_of file).vars c.args.var no_var) (g.S.Store.bytes (store_of file)) (record_size_of_file (placed_of file)) x c.args.slab.now test)
    (c.send_selected.ensures.sent told)
