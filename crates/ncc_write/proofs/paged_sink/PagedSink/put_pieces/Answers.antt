use Rattle.std.proofs.Common.{◌≡◌, ◌+◌, ◌-◌, ℕ, length, length-drop, take, drop, Ok, subst, ◌∙◌, arith}
use Rattle.std.proofs.lemmas.List.{length-take-le}
use Rattle.ncc_write.specs.PagedSink.{Paged, sink_of, waiting}
use Rattle.ncc_write.specs.Streams.{Streams}
use Rattle.ncc_write.proofs.Streaming.{bytes_fail_at, next_bytes}
use Rattle.ncc_write.proofs.paged_sink.PagedSink.put_pieces.Goals as goal

pub returns-in_err-put_piece-clause-streams : goal.returns-in_err-put_piece-clause-streams
returns-in_err-put_piece-clause-streams g c =
    bytes_fail_at _ _ _ _ _ (waiting c.loop-done.self) _ c.args.bytes.now c.loop-done.done
    (c.loop-done.done + c.min-more.result - c.loop-done.done) _ c.in_err-put_piece.field-0.0 c.from_residual.ensures.1
    c.loop-done.invariant.streams c.in_err-put_piece.ensures.streams

pub loop-done-preserved : goal.loop-done-preserved
loop-done-preserved g c =
    let at = c.loop-done.invariant in
    let more = c.loop-done.done + c.min-more.result - c.loop-done.done in
    let all : c.loop-done.done + more ≡ c.loop-done.done + c.min-more.result = omega arith in
    record {
      done = omega (arith, c.min-more.ensures);
      streams = subst (λ (k : ℕ). Streams (g.W.Sink.put (sink_of c.args.self.now)) (g.W.Sink.put (sink_of c.put_piece.new.self))
          (waiting c.args.self.now) (waiting c.put_piece.new.self) (take k c.args.bytes.now) (Ok tt)) all
          (next_bytes _ _ _ _ (waiting c.loop-done.self) _ c.args.bytes.now c.loop-done.done more at.streams c.in_ok-put_piece.ensures.streams);
      pages = λ first n p.
          let sum : n + c.loop-done.done + length (take more (drop c.loop-done.done c.args.bytes.now)) ≡ n + (c.loop-done.done + c.min-more.result) =
          omega (
            arith,
            all,
            c.min-more.ensures,
            length-take-le more (drop c.loop-done.done c.args.bytes.now)
                (omega (arith, c.min-more.ensures, length-drop c.loop-done.done c.args.bytes.now, c.loop-done-test.true)),
          ) in
          subst (λ (k : ℕ). Paged first k c.put_piece.new.self) sum (c.in_ok-put_piece.ensures.pages first _ (at.pages first n p));
      count = c.in_ok-put_piece.ensures.count ∙ at.count;
    }
