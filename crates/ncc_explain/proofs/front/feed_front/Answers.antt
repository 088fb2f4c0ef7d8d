use Rattle.std.proofs.Common.{◌≡◌, false, true, ◌++◌, Ok, length, take, subst, ◌∙◌, refl, arith}
use Rattle.std.proofs.lemmas.List.{length-take}
use Rattle.ncc_header.specs.State.{IsSettled}
use Rattle.ncc_check.proofs.FromStore.{more_taken, one_more_read, same_piece, still_whole}
use Rattle.ncc_explain.proofs.Fronts.{front_taken_on}
use Rattle.ncc_explain.proofs.front.feed_front.Goals as goal

pub returns-then-not-branch-clause-ok : goal.returns-then-not-branch-clause-ok
returns-then-not-branch-clause-ok g c =
    let old = g.S.Store.bytes c.args.store.now in
    let so_far = c.loop-at.invariant in
    let size = c.min-size.result in
    let piece = c.feed_piece.new.room in
    let room : length (take size c.loop-at.piece) ≡ size = omega (arith, length-take size c.loop-at.piece, c.min-size.ensures, c.min-size.array_long) in
    let no : c.feed_piece.result ≡ Ok false = cc in
    let done = c.feed_piece.ensures.settled no so_far.took.0 so_far.took.1 in (
      so_far.took.0 ++ take done.0 piece,
      done.2,
      λ told. front_taken_on old so_far.took.0 piece c.loop-at.at size done.0 c.args.end (so_far.took.2 told)
          (c.in_ok-feed_piece.ensures.told told ∙ same_piece _ size c.loop-at.at _ old room so_far.unmoved.same)
          done.1 (omega (arith, c.min-size.ensures, c.loop-at-test.true))
          (subst (IsSettled (so_far.took.0 ++ take done.0 piece)) so_far.limit done.3),
    )

pub loop-at-preserved : goal.loop-at-preserved
loop-at-preserved g c =
    let old = g.S.Store.bytes c.args.store.now in
    let so_far = c.loop-at.invariant in
    let piece = c.feed_piece.new.room in
    let size = c.min-size.result in
    let room : length (take size c.loop-at.piece) ≡ size = omega (arith, length-take size c.loop-at.piece, c.min-size.ensures, c.min-size.array_long) in
    let yes : c.feed_piece.result ≡ Ok true = cc in
    record {
      took = (
        so_far.took.0 ++ piece,
        c.feed_piece.ensures.more yes so_far.took.0 so_far.took.1,
        λ told. more_taken old so_far.took.0 piece c.loop-at.at size (so_far.took.2 told)
            (c.in_ok-feed_piece.ensures.told told ∙ same_piece _ size c.loop-at.at _ old room so_far.unmoved.same),
      );
      fresh = c.in_ok-feed_piece.ensures.fresh;
      limit = c.feed_piece.ensures.limit ∙ so_far.limit;
      within = omega (arith, c.min-size.ensures, c.loop-at-test.true);
      unmoved = c.unmoved_calls_join.ensures c.args.store.now c.loop-at.store c.feed_piece.new.store so_far.unmoved c.in_ok-feed_piece.ensures.store.unmoved;
      kept = λ image was. c.in_ok-feed_piece.ensures.store.kept image (so_far.kept image was);
      reach = omega (arith, so_far.reach, c.in_ok-feed_piece.ensures.store.reach, room, c.loop-at-test.true, c.min-size.ensures);
      calls = omega (arith, so_far.calls, c.in_ok-feed_piece.ensures.store.calls refl, one_more_read c.loop-at.at size c.args.end so_far.whole c.loop-at-test.true c.min-size.ensures);
      whole = still_whole c.loop-at.at size c.args.end so_far.whole c.loop-at-test.true c.min-size.ensures;
      count = c.in_ok-feed_piece.ensures.store.counted ∙ so_far.count;
    }
