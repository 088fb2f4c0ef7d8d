use Rattle.std.proofs.Common.{◌≡◌, ◌+◌, ◌-◌, ◌*◌, ℕ, length, Ok, replicate, ap, sym, subst, ◌∙◌, arith}
use Rattle.std.proofs.Math.Nat.{add-mul}
use Rattle.std.specs.List.{concat}
use Rattle.ncc_write.specs.PagedSink.{Paged, sink_of, waiting}
use Rattle.ncc_write.specs.Streams.{Streams}
use Rattle.ncc_write.proofs.Pages.{length_copies}
use Rattle.ncc_write.proofs.Streaming.{next_fills, fills_fail_at}
use Rattle.ncc_write.proofs.paged_sink.PagedSink.put_many.Goals as goal

pub returns-in_err-fill_some-clause-streams : goal.returns-in_err-fill_some-clause-streams
returns-in_err-fill_some-clause-streams g c =
    fills_fail_at _ _ _ _ _ (waiting c.loop-left.self) _ c.args.fill.now (c.args.count - c.loop-left.left) c.min-more.result c.args.count _ c.in_err-fill_some.field-0.0 c.from_residual.ensures.1
    (omega (arith, c.loop-left.invariant.left, c.min-more.ensures)) c.loop-left.invariant.streams c.in_err-fill_some.ensures.streams

pub loop-left-preserved : goal.loop-left-preserved
loop-left-preserved g c =
    let at = c.loop-left.invariant in
    record {
      left = omega (arith, at.left);
      streams =
          let next = next_fills _ _ _ _ (waiting c.loop-left.self) _ c.args.fill.now (c.args.count - c.loop-left.left) c.min-more.result at.streams c.in_ok-fill_some.ensures.streams in
          let sum : c.args.count - c.loop-left.left + c.min-more.result ≡ c.args.count - (c.loop-left.left - c.min-more.result) = omega (arith, at.left, c.min-more.ensures) in
          subst (λ (k : ℕ). Streams (g.W.Sink.put (sink_of c.args.self.now)) (g.W.Sink.put (sink_of c.fill_some.new.self)) (waiting c.args.self.now) (waiting c.fill_some.new.self) (concat (replicate k c.args.fill.now)) (Ok tt)) sum next;
      pages = λ first n p.
          let size = length c.args.fill.now in
          let done = c.args.count - c.loop-left.left in
          let more : done + c.min-more.result ≡ c.args.count - (c.loop-left.left - c.min-more.result) = omega (arith, at.left, c.min-more.ensures) in
          let sum : n + done * size + c.min-more.result * size ≡ n + (c.args.count - (c.loop-left.left - c.min-more.result)) * size =
          (let both : n + done * size + c.min-more.result * size ≡ n + (done + c.min-more.result) * size = omega (arith, add-mul done c.min-more.result size) in both)
          ∙ ap (λ (k : ℕ). n + k * size) more in
          subst (λ (k : ℕ). Paged first k c.fill_some.new.self) sum (c.in_ok-fill_some.ensures.pages first _ (at.pages first n p));
      count = c.in_ok-fill_some.ensures.count ∙ at.count;
    }

pub returns-clause-pages : goal.returns-clause-pages
returns-clause-pages g c = λ first n p.
    let size = length c.args.fill.now in
    let all : c.args.count - c.loop-left.left ≡ c.args.count = omega (arith, c.loop-left-test.false) in
    let long : n + (c.args.count - c.loop-left.left) * size ≡ n + length (concat (replicate c.args.count c.args.fill.now)) =
    ap (λ (k : ℕ). n + k * size) all ∙ ap (λ (k : ℕ). n + k) (sym (length_copies c.args.count c.args.fill.now)) in
    subst (λ (k : ℕ). Paged first k c.loop-left.self) long (c.loop-left.invariant.pages first n p)
