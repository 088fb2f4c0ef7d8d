use Rattle.std.proofs.Common.{◌≡◌, ℕ, ◌<◌, ◌≤◌, ◌+◌, List, Bool, Option, Some, Result, Ok, Err, IfOk, length, refl, ap, subst, sym, ◌∙◌, arith, rules}
use Rattle.std.specs.Prelude.{is_none}
use Rattle.ncc_schema.specs.declared.schema.Schema.{Schema}
use Rattle.ncc_schema.specs.declared.schema.Var.{Var}
use Rattle.ncc_layout.specs.Elements.{var_at}
use Rattle.ncc_layout.specs.declared.placed_file.Placed.{Placed}
use Rattle.ncc_values.specs.XType.{size_of}
use Rattle.ncc_layout.specs.Placed.{record_size_of_file, vars_of}
use Rattle.ncc_check.specs.Files.{store_of, schema_of, placed_of}
use Rattle.ncc_lines.specs.declared.send_error.SendError.{SendError}
use Rattle.ncc_slab.specs.Refusals.{slab_fault}
use Rattle.ncc_slab.specs.Selected.{places_of}
use Rattle.ncc_slab.specs.Stretches.{all_stretches}
use Rattle.ncc_slab.specs.declared.slab.Slab.{Slab}
use Rattle.ncc_csv.specs.Named.{IsFirstNamed}
use Rattle.ncc_csv.specs.Picks.{picked, PicksAs}
use Rattle.ncc_csv.specs.Sheets.{SendsSheet, sheet_text}
use Rattle.ncc_engines.specs.Selecting.{contents_in, refusal, value_calls, IsSelection}
use Rattle.ncc_engines.proofs.Picked.{pick_refused}
use Rattle.ncc_answers.proofs.Sent.{nothing}
use Rattle.ncc_engines.proofs.SentTable.{fault_of, not_memory, one_number, sent_refusal, sent_sheet}
use Rattle.ncc_engines.proofs.selecting.select.Goals as goal

pub shape-requires : goal.shape-requires
shape-requires g c =
    let f = c.args.file.now in
    let as_many = c.open_file_places_all.ensures in
    let below = c.in-Some.ensures.0 in
    let vars = ap length c.as_slice.ensures in
    let schema = ap (λ (s : Schema). length s.vars) c.schema.ensures in
    let placed = ap (λ (p : Placed). length (vars_of p)) c.placed.ensures in
    omega (arith, below, vars, schema, placed, as_many)

pub returns-then-eq-clause-selects : goal.returns-then-eq-clause-selects
returns-then-eq-clause-selects g c = λ told.
    let f = c.args.file.now in
    nothing (IsSelection (contents_in (g.S.Store.bytes (store_of f)) (schema_of f) (placed_of f)) c.args.name.now c.args.pick c.args.style c.args.texts) (g.W.Sink.put c.args.sink.now)

pub returns-else-eq-clause-selects : goal.returns-else-eq-clause-selects
returns-else-eq-clause-selects g c = λ told.
    let f = c.args.file.now in
    let vars = vars_of (placed_of f) in
    let var = c.in-Some.var in
    let as_many = c.open_file_places_all.ensures in
    let named : IsFirstNamed (schema_of f).vars c.args.name.now (Some var) =
    subst (λ (l : List Var). IsFirstNamed l c.args.name.now (Some var)) (c.as_slice.ensures ∙ ap (λ (s : Schema). s.vars) c.schema.ensures) c.in-Some.ensures in
    let there : var < length vars = omega (arith, named.0, as_many) in
    let picks : PicksAs (var_at vars var).shape c.args.pick (Err c.in-Err.fault) =
    subst (λ (l : List ℕ). PicksAs l c.args.pick (Err c.in-Err.fault)) (c.shape.ensures ∙ ap (λ (p : Placed). (var_at (vars_of p) var).shape) c.placed.ensures) c.in-Err.ensures in
    sent_refusal (contents_in (g.S.Store.bytes (store_of f)) (schema_of f) (placed_of f)) c.args.name.now c.args.pick c.args.style c.args.texts (g.W.Sink.put c.args.sink.now) (g.W.Sink.put c.send_refusal-in-Err.new.sink) (Some var) c.in-Err.fault
    c.answer_of_sent-in-Err.result c.send_refusal-in-Err.result named (pick_refused c.pick_fault_is_shape_fault.ensures vars var c.args.pick c.in-Err.fault there (search rules) picks) c.send_refusal-in-Err.ensures.sent c.answer_of_sent-in-Err.ensures

pub returns-in-Ok-clause-selects : goal.returns-in-Ok-clause-selects
returns-in-Ok-clause-selects g c = λ told.
    let f = c.args.file.now in
    let vars = vars_of (placed_of f) in
    let var = c.in-Some.var in
    let bytes = g.S.Store.bytes (store_of f) in
    let old = g.W.Sink.put c.args.sink.now in
    let new = g.W.Sink.put c.send_sheet.new.sink in
    let named : IsFirstNamed (schema_of f).vars c.args.name.now (Some var) =
    subst (λ (l : List Var). IsFirstNamed l c.args.name.now (Some var)) (c.as_slice.ensures ∙ ap (λ (s : Schema). s.vars) c.schema.ensures) c.in-Some.ensures in
    let shape : c.shape.result.now ≡ (var_at vars var).shape = c.shape.ensures ∙ ap (λ (p : Placed). (var_at (vars_of p) var).shape) c.placed.ensures in
    let slab : c.in-Ok.slab ≡ picked (var_at vars var).shape c.args.pick = c.in-Ok.ensures.1 ∙ ap (λ (l : List ℕ). picked l c.args.pick) shape in
    let sent = subst (λ (s : Slab). SendsSheet (slab_fault vars var s) old new (sheet_text c.args.style c.args.texts bytes (schema_of f) (placed_of f) var s) c.send_sheet.result) slab (c.send_sheet.ensures.sent told) in
    let answer = subst (λ (s : Slab). (b : Bool) → c.send_sheet.result ≡ Ok b → b ≡ is_none (slab_fault vars var s)) slab
    (λ b is. subst (λ (r : Result Bool SendError). IfOk r (λ (x : Bool). x ≡ is_none (slab_fault vars var c.in-Ok.slab))) is c.send_sheet.ensures.answer) in
    sent_sheet (contents_in bytes (schema_of f) (placed_of f)) c.args.name.now c.args.pick c.args.style c.args.texts old new (Some var) c.answer_of_sheet.result c.send_sheet.result named sent answer c.answer_of_sheet.ensures

pub returns-in-Ok-clause-calls : goal.returns-in-Ok-clause-calls
returns-in-Ok-clause-calls g c = λ number is.
    let f = c.args.file.now in
    let vars = vars_of (placed_of f) in
    let var = c.in-Some.var in
    let x = var_at vars var in
    let contents = contents_in (g.S.Store.bytes (store_of f)) (schema_of f) (placed_of f) in
    let old = g.S.Store.calls (store_of f) in
    let new = g.S.Store.calls (store_of c.send_sheet.new.file) in
    let named : IsFirstNamed (schema_of f).vars c.args.name.now (Some var) =
    subst (λ (l : List Var). IsFirstNamed l c.args.name.now (Some var)) (c.as_slice.ensures ∙ ap (λ (s : Schema). s.vars) c.schema.ensures) c.in-Some.ensures in
    let shape : c.shape.result.now ≡ x.shape = c.shape.ensures ∙ ap (λ (p : Placed). (var_at (vars_of p) var).shape) c.placed.ensures in
    let slab : c.in-Ok.slab ≡ picked x.shape c.args.pick = c.in-Ok.ensures.1 ∙ ap (λ (l : List ℕ). picked l c.args.pick) shape in
    let calls = subst (λ (s : Slab). new ≤ old + all_stretches (size_of x.xtype) (places_of (record_size_of_file (placed_of f)) x s)) slab (c.send_sheet.ensures.file.reads.calls refl) in
    subst (λ (n : Option ℕ). new ≤ old + value_calls contents c.args.pick n) (one_number (schema_of f).vars c.args.name.now (Some var) number named is) calls

pub returns-in-Ok-clause-memory : goal.returns-in-Ok-clause-memory
returns-in-Ok-clause-memory g c = λ text is memory.
    let f = c.args.file.now in
    let vars = vars_of (placed_of f) in
    let var = c.in-Some.var in
    let contents = contents_in (g.S.Store.bytes (store_of f)) (schema_of f) (placed_of f) in
    let named : IsFirstNamed (schema_of f).vars c.args.name.now (Some var) =
    subst (λ (l : List Var). IsFirstNamed l c.args.name.now (Some var)) (c.as_slice.ensures ∙ ap (λ (s : Schema). s.vars) c.schema.ensures) c.in-Some.ensures in
    let shape : c.shape.result.now ≡ (var_at vars var).shape = c.shape.ensures ∙ ap (λ (p : Placed). (var_at (vars_of p) var).shape) c.placed.ensures in
    let slab : c.in-Ok.slab ≡ picked (var_at vars var).shape c.args.pick = c.in-Ok.ensures.1 ∙ ap (λ (l : List ℕ). picked l c.args.pick) shape in
    let cause = fault_of (refusal contents c.args.pick is.number) is.answer_is in
    let number = one_number (schema_of f).vars c.args.name.now is.number (Some var) is.named named in
    let refused = subst (λ (n : Option ℕ). refusal contents c.args.pick n ≡ Some cause.0) number cause.1 in
    let picked_so = subst (λ (s : Slab). slab_fault vars var s ≡ Some cause.0) (sym slab) refused in
    absurd (not_memory c.send_sheet.result (c.send_sheet.ensures.refused cause.0 picked_so).2 (sym c.answer_of_sheet.ensures ∙ memory))

pub returns-in-Ok-clause-refused : goal.returns-in-Ok-clause-refused
returns-in-Ok-clause-refused g c = λ number is fault refused.
    let f = c.args.file.now in
    let vars = vars_of (placed_of f) in
    let var = c.in-Some.var in
    let contents = contents_in (g.S.Store.bytes (store_of f)) (schema_of f) (placed_of f) in
    let named : IsFirstNamed (schema_of f).vars c.args.name.now (Some var) =
    subst (λ (l : List Var). IsFirstNamed l c.args.name.now (Some var)) (c.as_slice.ensures ∙ ap (λ (s : Schema). s.vars) c.schema.ensures) c.in-Some.ensures in
    let shape : c.shape.result.now ≡ (var_at vars var).shape = c.shape.ensures ∙ ap (λ (p : Placed). (var_at (vars_of p) var).shape) c.placed.ensures in
    let slab : c.in-Ok.slab ≡ picked (var_at vars var).shape c.args.pick = c.in-Ok.ensures.1 ∙ ap (λ (l : List ℕ). picked l c.args.pick) shape in
    let here : slab_fault vars var (picked (var_at vars var).shape c.args.pick) ≡ Some fault =
    subst (λ (n : Option ℕ). refusal contents c.args.pick n ≡ Some fault)
    (sym (one_number (schema_of f).vars c.args.name.now (Some var) number named is)) refused in
    let there : slab_fault vars var c.in-Ok.slab ≡ Some fault =
    subst (λ (s : Slab). slab_fault vars var s ≡ Some fault) (sym slab) here in
    (c.send_sheet.ensures.refused fault there).1
