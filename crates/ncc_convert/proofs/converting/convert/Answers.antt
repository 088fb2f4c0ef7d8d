use Rattle.std.proofs.Common.{true, rules, ◌≡◌, ⊎_elim, inl, inr, ℕ, Err, refl, sym, ap, subst, ◌∙◌, arith}
use Rattle.std.proofs.Math.Logic.{∥∥₁_map}
use Rattle.ncc_values.specs.Failures.{Rose}
use Rattle.ncc_schema.specs.Device.{Puts}
use Rattle.ncc_schema.specs.declared.schema.Schema.{Schema}
use Rattle.ncc_build.specs.Builds.{schema_of as planned_schema}
use Rattle.ncc_build.specs.Dataset.{data_of}
use Rattle.ncc_build.specs.File.{header_of}
use Rattle.ncc_check.proofs.ReadFiles.{files_answered, files_bounded, files_still}
use Rattle.ncc_check.specs.Files.{store_of, schema_of, placed_of}
use Rattle.ncc_write.specs.Laws.{IsCompleted}
use Rattle.ncc_write.specs.Writer.{schema_in, sink_in}
use Rattle.ncc_write.specs.Writing.{starting}
use Rattle.ncc_convert.specs.Copying.{Copies, HasFront}
use Rattle.ncc_convert.specs.Converting.{ConvertCounts}
use Rattle.ncc_lines.specs.declared.send_error.SendError.{SendError}
use Rattle.ncc_lines.specs.declared.send_error.SendError.TheVariants.{Memory}
use Rattle.ncc_convert.specs.Found.{IsOf}
use Rattle.ncc_convert.proofs.Ending.{all_taken, is_the_file, not_unfinished, nothing_next, error_is, start_counts, start_failed, start_memory, reads_as}
use Rattle.ncc_convert.proofs.PiecesLeft.{at_start}
use Rattle.ncc_convert.proofs.converting.convert.Goals as goal

pub returns-in-Err-clause-converts : goal.returns-in-Err-clause-converts
returns-in-Err-clause-converts g c =
    let file = c.args.file.now in
    let s = schema_of file in
    let p = placed_of file in
    let bytes = g.S.Store.bytes (store_of file) in
    let tells = g.S.Store.tells_bytes in
    let t = planned_schema c.args.built in
    let start = g.W.Sink.put c.args.sink in
    (start_failed tells bytes p t start (g.W.Sink.put c.in-Err.sink) (g.W.Sink.failures c.args.sink) (g.W.Sink.failures c.in-Err.sink) c.in-Err.fault c.in-Err.ensures.refused)

pub returns-in-Err-clause-memory : goal.returns-in-Err-clause-memory
returns-in-Err-clause-memory g c =
    let file = c.args.file.now in
    let s = schema_of file in
    let p = placed_of file in
    let bytes = g.S.Store.bytes (store_of file) in
    let tells = g.S.Store.tells_bytes in
    let t = planned_schema c.args.built in
    let start = g.W.Sink.put c.args.sink in
    λ memory. (
      c.in-Err.ensures.untouched (start_memory start (g.W.Sink.put c.in-Err.sink) (g.W.Sink.failures c.args.sink) (g.W.Sink.failures c.in-Err.sink) (header_of t) c.in-Err.fault c.in-Err.ensures.refused
          (sym c.send_error_of.ensures ∙ error_is c.send_error_of.result Memory memory)),
      refl,
    )

pub returns-in-Err-clause-file : goal.returns-in-Err-clause-file
returns-in-Err-clause-file g c =
    let file = c.args.file.now in
    let s = schema_of file in
    let p = placed_of file in
    let bytes = g.S.Store.bytes (store_of file) in
    let tells = g.S.Store.tells_bytes in
    let t = planned_schema c.args.built in
    let start = g.W.Sink.put c.args.sink in
    files_answered file file (λ before after. after ≡ before) _ true _ _ (files_still file _ _)
    (subst (λ (f : SendError). ConvertCounts (g.S.Store.failures (store_of file)) (g.S.Store.failures (store_of file)) (g.W.Sink.failures c.args.sink) (g.W.Sink.failures c.in-Err.sink) (Err f)) (sym c.send_error_of.ensures)
    (start_counts start (g.W.Sink.put c.in-Err.sink) (g.S.Store.failures (store_of file)) (g.W.Sink.failures c.args.sink) (g.W.Sink.failures c.in-Err.sink) (header_of t) c.in-Err.fault c.in-Err.ensures.refused))

pub returns-in-Ok-finish-clause-converts : goal.returns-in-Ok-finish-clause-converts
returns-in-Ok-finish-clause-converts g c =
    let file = c.args.file.now in
    let s = schema_of file in
    let p = placed_of file in
    let bytes = g.S.Store.bytes (store_of file) in
    let tells = g.S.Store.tells_bytes in
    let t = planned_schema c.args.built in
    let start = g.W.Sink.put c.args.sink in
    let x = c.in-Ok-start.writer in
    let stands = c.in-Ok-start.ensures.stands in
    let first : Copies tells bytes p start (g.W.Sink.put (sink_in x)) x = record {
      state = starting t;
      stands = stands;
      goes = refl;
      front = λ told d is of. (data_of d, refl);
    } in
    let y = c.copy_all.new.writer in
    let last = c.in-Ok-copy_all.ensures.copies start first in
    let w = last.state in
    let schema_is : w.schema ≡ t = sym last.stands.schema ∙ c.copy_all.ensures.planned ∙ stands.schema in
    let none = nothing_next w last.goes (c.in-Ok-copy_all.ensures.all start w last.stands) in
    let went = c.in-Ok-finish.ensures.file start w last.stands in
    record {
      is = λ told d is of.
          let of_w = subst (λ (u : Schema). IsOf bytes p u d) (sym schema_is) of in
          let taken = all_taken d is w of_w.schema_is (last.front told d is of_w) c.complete_when_taken.ensures none in
          subst (Puts start (g.W.Sink.put c.in-Ok-finish.sink)) (is_the_file d is w of_w.schema_is taken c.dataset_told.ensures went.0 went.2) went.1;
    }

pub returns-in-Ok-finish-clause-whole : goal.returns-in-Ok-finish-clause-whole
returns-in-Ok-finish-clause-whole g c =
    let file = c.args.file.now in
    let s = schema_of file in
    let p = placed_of file in
    let bytes = g.S.Store.bytes (store_of file) in
    let tells = g.S.Store.tells_bytes in
    let t = planned_schema c.args.built in
    let start = g.W.Sink.put c.args.sink in
    let x = c.in-Ok-start.writer in
    let stands = c.in-Ok-start.ensures.stands in
    let first : Copies tells bytes p start (g.W.Sink.put (sink_in x)) x = record {
      state = starting t;
      stands = stands;
      goes = refl;
      front = λ told d is of. (data_of d, refl);
    } in
    let y = c.copy_all.new.writer in
    let last = c.in-Ok-copy_all.ensures.copies start first in
    let w = last.state in
    let schema_is : w.schema ≡ t = sym last.stands.schema ∙ c.copy_all.ensures.planned ∙ stands.schema in
    let none = nothing_next w last.goes (c.in-Ok-copy_all.ensures.all start w last.stands) in
    let went = c.in-Ok-finish.ensures.file start w last.stands in (
      went.0,
      went.1,
      ∥∥₁_map (subst (λ (u : Schema). ∥ IsCompleted u w.taken went.0 ∥₁) schema_is went.2)
          (λ completed. record { taken = w.taken; completed = completed }),
    )

pub returns-in-Ok-finish-clause-reads : goal.returns-in-Ok-finish-clause-reads
returns-in-Ok-finish-clause-reads g c =
    let file = c.args.file.now in
    let s = schema_of file in
    let p = placed_of file in
    let bytes = g.S.Store.bytes (store_of file) in
    let tells = g.S.Store.tells_bytes in
    let t = planned_schema c.args.built in
    let start = g.W.Sink.put c.args.sink in
    let x = c.in-Ok-start.writer in
    let stands = c.in-Ok-start.ensures.stands in
    let first : Copies tells bytes p start (g.W.Sink.put (sink_in x)) x = record {
      state = starting t;
      stands = stands;
      goes = refl;
      front = λ told d is of. (data_of d, refl);
    } in
    let y = c.copy_all.new.writer in
    let last = c.in-Ok-copy_all.ensures.copies start first in
    let w = last.state in
    let schema_is : w.schema ≡ t = sym last.stands.schema ∙ c.copy_all.ensures.planned ∙ stands.schema in
    let none = nothing_next w last.goes (c.in-Ok-copy_all.ensures.all start w last.stands) in
    let went = c.in-Ok-finish.ensures.file start w last.stands in
    let whole = subst (λ (u : Schema). ∥ IsCompleted u w.taken went.0 ∥₁) schema_is went.2 in
    λ limit enough. (
      went.0,
      went.1,
      reads_as tells bytes p t limit w.taken went.0 (c.headline.ensures.completed t w.taken went.0 limit whole enough)
          (λ told d is of.
          let of_w = subst (λ (u : Schema). IsOf bytes p u d) (sym schema_is) of in
          all_taken d is w of_w.schema_is (last.front told d is of_w) c.complete_when_taken.ensures none)
          c.dataset_told.ensures,
    )

pub unreachable-requires : goal.unreachable-requires
unreachable-requires g c =
    let file = c.args.file.now in
    let s = schema_of file in
    let p = placed_of file in
    let bytes = g.S.Store.bytes (store_of file) in
    let tells = g.S.Store.tells_bytes in
    let t = planned_schema c.args.built in
    let start = g.W.Sink.put c.args.sink in
    let x = c.in-Ok-start.writer in
    let stands = c.in-Ok-start.ensures.stands in
    let first : Copies tells bytes p start (g.W.Sink.put (sink_in x)) x = record {
      state = starting t;
      stands = stands;
      goes = refl;
      front = λ told d is of. (data_of d, refl);
    } in
    let y = c.copy_all.new.writer in
    let last = c.in-Ok-copy_all.ensures.copies start first in
    let w = last.state in
    let schema_is : w.schema ≡ t = sym last.stands.schema ∙ c.copy_all.ensures.planned ∙ stands.schema in
    let none = nothing_next w last.goes (c.in-Ok-copy_all.ensures.all start w last.stands) in
    not_unfinished _ w (λ e. e.1) c.in-Err-finish.field-0 last.goes none (c.in-Err-finish.ensures.answer start w last.stands)

pub returns-clause-converts : goal.returns-clause-converts
returns-clause-converts g c =
    let file = c.args.file.now in
    let s = schema_of file in
    let p = placed_of file in
    let bytes = g.S.Store.bytes (store_of file) in
    let tells = g.S.Store.tells_bytes in
    let t = planned_schema c.args.built in
    let start = g.W.Sink.put c.args.sink in
    let x = c.in-Ok-start.writer in
    let stands = c.in-Ok-start.ensures.stands in
    let first : Copies tells bytes p start (g.W.Sink.put (sink_in x)) x = record {
      state = starting t;
      stands = stands;
      goes = refl;
      front = λ told d is of. (data_of d, refl);
    } in
    let y = c.copy_all.new.writer in
    let planned : schema_in x ≡ t = stands.schema in
    subst (λ q. HasFront tells bytes p t start (g.W.Sink.put q)) (sym c.into_sink.ensures)
    (subst (λ (u : Schema). HasFront tells bytes p u start (g.W.Sink.put (sink_in y))) planned (c.in-Err-copy_all.ensures.stops start first))

pub returns-clause-file : goal.returns-clause-file
returns-clause-file g c =
    let file = c.args.file.now in
    let s = schema_of file in
    let p = placed_of file in
    let bytes = g.S.Store.bytes (store_of file) in
    let tells = g.S.Store.tells_bytes in
    let t = planned_schema c.args.built in
    let start = g.W.Sink.put c.args.sink in
    let sink : g.W.Sink.failures c.into_sink.result ≡ g.W.Sink.failures (sink_in c.copy_all.new.writer) = ap g.W.Sink.failures c.into_sink.ensures in
    let before : g.W.Sink.failures (sink_in c.in-Ok-start.writer) ≡ g.W.Sink.failures c.args.sink = c.in-Ok-start.ensures.count in
    let x = c.in-Ok-start.writer in
    let all = c.in-Err-copy_all.ensures.file in
    files_bounded file c.copy_all.new.file _ true _ _ _ (files_answered file c.copy_all.new.file _ _ true _ _ all
    (⊎_elim
    (λ store. inl (store.0, sink ∙ store.1 ∙ before))
    (λ other. inr (other.0, subst (λ (n : ℕ). Rose n (g.W.Sink.failures c.into_sink.result)) before (subst (Rose (g.W.Sink.failures (sink_in c.in-Ok-start.writer))) (sym sink) other.1)))
    c.in-Err-copy_all.ensures.file.reads.counted))
    (omega (arith, all.reads.calls refl, at_start start (g.W.Sink.put (sink_in x)) x t c.in-Ok-start.ensures.stands))

pub returns-in-Ok-finish-clause-file : goal.returns-in-Ok-finish-clause-file
returns-in-Ok-finish-clause-file g c =
    let x = c.in-Ok-start.writer in
    let t = planned_schema c.args.built in
    let all = c.in-Ok-copy_all.ensures.file in
    files_bounded c.args.file.now c.copy_all.new.file _ true _ _ _ (files_answered c.args.file.now c.copy_all.new.file _ _ true _ _ all (search rules))
    (omega (arith, all.reads.calls refl, at_start (g.W.Sink.put c.args.sink) (g.W.Sink.put (sink_in x)) x t c.in-Ok-start.ensures.stands))
