use Rattle.std.proofs.Common.{List, ℕ, Option, Ok, Err, drop, ◌+◌, subst, ◌∙◌, arith}
use Rattle.ncc_batch.specs.Answered.{SendsOne}
use Rattle.ncc_batch.proofs.Batches.{answered_more, fails_batch, at_path, next_left, rose_more, quiet_more}
use Rattle.ncc_batch.proofs.batch.answer_all.Goals as goal

pub answer_one-requires : goal.answer_one-requires
answer_one-requires g c = λ tells.
    let p = c.path-item.result in (
      drop (c.loop-path.path-index + 1) c.args.paths.now,
      rw c.as_slice.ensures (at_path c.args.paths.now _ c.loop-path.path-index p c.loop-path-test.true c.path-item.is (c.loop-path.invariant.left tells)),
    )

pub returns-in_err-next-clause-batch : goal.returns-in_err-next-clause-batch
returns-in_err-next-clause-batch g c = λ tells.
    let at = c.loop-path.invariant in
    let p = c.path-item.result in
    let here : List ℕ → Option (List ℕ) = g.F.Shelf.file c.args.shelf.now in
    let one = subst (λ (f : List ℕ → Option (List ℕ)). SendsOne c.args.work c.args.form p (f p) (g.W.Sink.put c.loop-path.sink) (g.W.Sink.put c.answer_one.new.sink) (Err c.in_err-next.field-0.0)) at.file
    (rw c.as_slice.ensures at c.in_err-next.ensures.sends tells) in
    let rest = next_left c.args.paths.now _ _ c.loop-path.path-index (at.left tells) (c.in_err-next.ensures.left tells) in
    fails_batch _ here c.args.work c.args.form c.args.paths.now _ c.loop-path.path-index p c.loop-path.answer _ _ _ _ _ _ c.in_err-next.field-0.0 _ c.loop-path-test.true c.path-item.is
    rest c.in_err-next.ensures.grows (g.met.F.Shelf.at_most_last c.answer_one.new.shelf) c.from_residual.ensures.1 (at.so_far tells) one

pub loop-path-preserved : goal.loop-path-preserved
loop-path-preserved g c =
    let at = c.loop-path.invariant in
    let p = c.path-item.result in
    let most = g.met.F.Shelf.at_most_last c.answer_one.new.shelf in
    let one = c.in_ok-next.ensures in
    record {
      so_far = λ tells.
          let here : List ℕ → Option (List ℕ) = g.F.Shelf.file c.args.shelf.now in
          let sent = subst (λ (f : List ℕ → Option (List ℕ)). SendsOne c.args.work c.args.form p (f p) (g.W.Sink.put c.loop-path.sink) (g.W.Sink.put c.answer_one.new.sink) (Ok c.in_ok-next.next)) at.file
          (rw c.as_slice.ensures at one.sends tells) in
          answered_more here c.args.work c.args.form c.args.paths.now c.loop-path.path-index p c.loop-path.answer c.in_ok-next.next c.worse-answer.result _ _ _ _ _ _ c.loop-path-test.true c.path-item.is c.worse-answer.ensures
          one.device one.quiet one.grows most (at.so_far tells) sent;
      left = λ tells. next_left c.args.paths.now _ _ c.loop-path.path-index (at.left tells) (one.left tells);
      file = one.file ∙ at.file;
      grows = omega (arith, one.grows, at.grows);
      device = rose_more c.loop-path.answer c.in_ok-next.next c.worse-answer.result _ _ _ c.worse-answer.ensures at.device one.device at.grows one.grows most;
      quiet = quiet_more c.loop-path.answer c.in_ok-next.next c.worse-answer.result _ _ _ c.worse-answer.ensures at.quiet one.quiet;
      count = one.count ∙ at.count;
    }
