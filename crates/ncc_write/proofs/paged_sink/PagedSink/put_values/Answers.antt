use Rattle.std.proofs.Common.{◌≡◌, ℕ, ◌+◌, ◌*◌, ap, subst, sym, ◌∙◌, length, arith}
use Rattle.std.proofs.Math.Nat.{add-mul}
use Rattle.ncc_values.proofs.ValuesLemmas.{length-bytes_of}
use Rattle.ncc_values.specs.Values.{bytes_of, count_of, type_of}
use Rattle.ncc_values.specs.XType.{size_of}
use Rattle.ncc_write.specs.PagedSink.{Paged, waiting}
use Rattle.ncc_write.proofs.Streaming.{part_fails_at, next_part, all_parts}
use Rattle.ncc_write.proofs.paged_sink.PagedSink.put_values.Goals as goal

pub returns-in_err-put_values_from-clause-streams : goal.returns-in_err-put_values_from-clause-streams
returns-in_err-put_values_from-clause-streams g c =
    part_fails_at _ _ _ _ _ (waiting c.loop-done.self) _ (bytes_of c.args.values.now) c.loop-done.done c.min-count.result (size_of (type_of c.args.values.now)) _ c.in_err-put_values_from.field-0.0 c.from_residual.ensures.1
    c.loop-done.invariant.streams c.in_err-put_values_from.ensures.streams

pub loop-done-preserved : goal.loop-done-preserved
loop-done-preserved g c =
    let at = c.loop-done.invariant in
    record {
      done = omega (arith, c.min-count.ensures);
      streams = next_part _ _ _ _ (waiting c.loop-done.self) _ (bytes_of c.args.values.now) c.loop-done.done c.min-count.result (size_of (type_of c.args.values.now)) at.streams c.in_ok-put_values_from.ensures.streams;
      pages = λ first n p.
          let size = size_of (type_of c.args.values.now) in
          let sum : n + c.loop-done.done * size + c.min-count.result * size ≡ n + (c.loop-done.done + c.min-count.result) * size =
          omega (arith, add-mul c.loop-done.done c.min-count.result size) in
          subst (λ (k : ℕ). Paged first k c.put_values_from.new.self) sum (c.in_ok-put_values_from.ensures.pages first _ (at.pages first n p));
      count = c.in_ok-put_values_from.ensures.count ∙ at.count;
    }

pub returns-clause-streams : goal.returns-clause-streams
returns-clause-streams g c =
    all_parts _ _ _ _ (bytes_of c.args.values.now) c.loop-done.done (count_of c.args.values.now) (size_of (type_of c.args.values.now)) (omega (arith, c.loop-done-test.false, c.len.ensures))
    (length-bytes_of c.args.values.now) c.loop-done.invariant.streams

pub returns-clause-pages : goal.returns-clause-pages
returns-clause-pages g c = λ first n p.
    let size = size_of (type_of c.args.values.now) in
    let all : c.loop-done.done ≡ count_of c.args.values.now = omega (arith, c.loop-done.invariant.done, c.loop-done-test.false, c.len.ensures) in
    let long : n + c.loop-done.done * size ≡ n + length (bytes_of c.args.values.now) =
    ap (λ (k : ℕ). n + k * size) all ∙ ap (λ (k : ℕ). n + k) (sym (length-bytes_of c.args.values.now)) in
    subst (λ (k : ℕ). Paged first k c.loop-done.self) long (c.loop-done.invariant.pages first n p)
