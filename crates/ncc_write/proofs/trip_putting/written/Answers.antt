use Rattle.std.proofs.Common.{◌≡◌, [], Some, Err, refl, sym, ap, subst, ◌∙◌, rules}
use Rattle.std.specs.Prelude.{List, ℕ}
use Rattle.ncc_build.specs.Builds.{schema_of}
use Rattle.ncc_write.specs.Laws.{IsCompleted}
use Rattle.ncc_write.specs.Writer.{sink_in}
use Rattle.ncc_write.specs.Writing.{starting, with_more}
use Rattle.ncc_write.proofs.TripPuts.{as_many, not_put, not_refused, went_all}
use Rattle.ncc_write.proofs.trip_putting.written.Goals as goal

pub returns-in_err-put_all : goal.returns-in_err-put_all
returns-in_err-put_all c =
    let s = schema_of c.args.built in
    let is : c.from_residual.result ≡ Err c.in_err-put_all.field-0.0 = search rules in
    not_put _ (Some c.new-sink.result.inner.items) (Some (sink_in c.put_all.new.writer).inner.items) c.put_all.new.writer s c.args.bytes.now c.in_err-put_all.field-0.0 _ is
    (c.in_err-put_all.ensures.puts (Some c.new-sink.result.inner.items) (starting s) c.in-Ok.ensures.stands refl)

pub returns-in-Ok-finish : goal.returns-in-Ok-finish
returns-in-Ok-finish c =
    let s = schema_of c.args.built in
    let bytes = c.args.bytes.now in
    let x = c.put_all.new.writer in
    let puts = c.in_ok-put_all.ensures.puts _ (starting s) c.in-Ok.ensures.stands refl in
    let first : c.new-sink.result.inner.items ≡ [] = ap (λ v. v.items) c.new-sink.ensures.writer ∙ c.new.ensures.items in (
      as_many s bytes x.slab x.left (puts.0.at refl) puts.1,
      subst (λ (l : List ℕ). ∥ IsCompleted s bytes l ∥₁) (sym (ap (λ v. v.items) c.into_inner.ensures))
          (went_all c.new-sink.result.inner.items c.in-Ok-finish.sink.inner.items (λ out. ∥ IsCompleted s bytes out ∥₁) first
          (c.in-Ok-finish.ensures.file _ (with_more (starting s) bytes) puts.0)),
    )

pub returns : goal.returns
returns c =
    let s = schema_of c.args.built in
    let puts = c.in_ok-put_all.ensures.puts _ (starting s) c.in-Ok.ensures.stands refl in
    let w = with_more (starting s) c.args.bytes.now in
    absurd (not_refused _ w (λ e. e.1) _ refl puts.1 (c.in-Err-finish.ensures.answer _ w puts.0))
