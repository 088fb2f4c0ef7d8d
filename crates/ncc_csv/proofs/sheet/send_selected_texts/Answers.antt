use Rattle.std.proofs.Common.{List, ℕ, ◌<◌, length, get_or, refl, subst, ◌∙◌, arith}
use Rattle.ncc_schema.specs.Device.{Puts}
use Rattle.ncc_layout.specs.Elements.{var_at}
use Rattle.ncc_layout.specs.Placed.{record_size_of_file, vars_of}
use Rattle.ncc_check.specs.Files.{store_of, schema_of, placed_of}
use Rattle.ncc_lines.specs.Sends.{PutsFront}
use Rattle.ncc_csv.specs.Named.{no_var}
use Rattle.ncc_csv.specs.Texts.{text_names, texts_text}
use Rattle.ncc_csv.proofs.PartRows.{front_of_more}
use Rattle.ncc_csv.proofs.PartTexts.{fails}
use Rattle.ncc_csv.proofs.SheetTexts.{in_vars, shape_fits, texts_are, text_names_in_schema, sends_behind}
use Rattle.ncc_csv.proofs.sheet.send_selected_texts.Goals as goal

pub var_of-requires : goal.var_of-requires
var_of-requires g c =
    let placed = in_vars (vars_of (placed_of c.args.file.now)) c.args.var c.args.slab.now c.requires.selected in
    let there : c.args.var < length (schema_of c.args.file.now).vars = omega (arith, placed, c.open_file_places_all.ensures) in
    rw c.schema-schema.ensures there

pub returns-in_err-send_text_names-clause-sent : goal.returns-in_err-send_text_names-clause-sent
returns-in_err-send_text_names-clause-sent g c = λ told.
    let schema = schema_of c.args.file.now in
    let x = get_or schema.vars c.args.var no_var in
    let rows = texts_text (g.S.Store.bytes (store_of c.args.file.now)) (record_size_of_file (placed_of c.args.file.now)) (var_at (vars_of (placed_of c.args.file.now)) c.args.var) c.args.slab.now in
    let names = text_names_in_schema c.as_slice.result.now c.var_of.result.now c.schema-schema.result.now schema c.args.var c.as_slice.ensures c.var_of.ensures c.schema-schema.ensures in
    fails _ _ _ _ c.from_residual.ensures.0 (front_of_more _ _ _ (text_names schema.dims x) rows refl
    (subst (λ (t : List ℕ). PutsFront (g.W.Sink.put c.args.sink.now) (g.W.Sink.put c.send_text_names.new.sink) t) names c.in_err-send_text_names.ensures.sent))

pub returns-clause-sent : goal.returns-clause-sent
returns-clause-sent g c = λ told.
    let schema = schema_of c.args.file.now in
    let x = get_or schema.vars c.args.var no_var in
    let rows = texts_text (g.S.Store.bytes (store_of c.args.file.now)) (record_size_of_file (placed_of c.args.file.now)) (var_at (vars_of (placed_of c.args.file.now)) c.args.var) c.args.slab.now in
    let names = text_names_in_schema c.as_slice.result.now c.var_of.result.now c.schema-schema.result.now schema c.args.var c.as_slice.ensures c.var_of.ensures c.schema-schema.ensures in
    sends_behind _ _ _ (text_names schema.dims x) rows _
    (subst (λ (t : List ℕ). Puts (g.W.Sink.put c.args.sink.now) (g.W.Sink.put c.send_text_names.new.sink) t) names c.in_ok-send_text_names.ensures.sent)
    (c.send_texts.ensures.sent told c.args.var c.requires.begins)

pub send_texts-requires-clause-typed : goal.send_texts-requires-clause-typed
send_texts-requires-clause-typed g c = c.requires.begins.type_is ∙ (texts_are _ _ c.requires.texts).0

pub send_texts-requires-clause-ranked : goal.send_texts-requires-clause-ranked
send_texts-requires-clause-ranked g c =
    let vars = vars_of (placed_of c.args.file.now) in
    let lengths = (var_at vars c.args.var).shape in
    let fits = (c.refused_unless_it_fits.ensures lengths c.args.slab.now).0 (shape_fits vars c.args.var c.args.slab.now c.requires.selected) in
    let some : 0 < length lengths = (texts_are (var_at vars c.args.var).xtype lengths c.requires.texts).1 in
    omega (arith, fits.counts, some)
