use Rattle.std.proofs.Common.{◌≡◌, ℕ, ◌++◌, length, take, ap, refl, inr, ◌∙◌, arith, rules, Err}
use Rattle.std.proofs.lemmas.List.{length-take, length-append}
use Rattle.std.proofs.lemmas.Result.{err_from_is_err_and}
use Rattle.ncc_header.specs.Decoder.{limit_of}
use Rattle.ncc_check.specs.FromStore.{SettledBy}
use Rattle.ncc_check.proofs.FromStore.{reads_to_end, one_more_read, read_is_needed, reads_are_needed, goes_after, still_whole, same_piece, more_taken, took_all, took_some, whole_enough, all_enough, refused_piece}
use Rattle.ncc_check.specs.declared.fault.Refusal.TheVariants.{Memory}
use Rattle.ncc_check.proofs.reading.feed_front.Goals as goal

pub loop-at-preserved : goal.loop-at-preserved
loop-at-preserved g c =
    let old = g.S.Store.bytes c.args.store.now in
    let so_far = c.loop-at.invariant in
    let f = c.in_ok-feed_piece.ensures.ok in
    let piece = c.feed_piece.new.room in
    let size = c.min-size.result in
    let room : length (take size c.loop-at.piece) ≡ size = omega (arith, length-take size c.loop-at.piece, c.min-size.ensures, c.min-size.array_long) in
    record {
      took = (
        so_far.took.0 ++ piece,
        took_all c.loop-at.decoder c.feed_piece.new.decoder so_far.took.0 piece c.in_ok-feed_piece.field-0 c.in-More.is f so_far.took.1,
        λ told. more_taken old so_far.took.0 piece c.loop-at.at size (so_far.took.2 told)
            (c.in_ok-feed_piece.ensures.told told ∙ same_piece _ size c.loop-at.at _ old room so_far.unmoved.same),
        omega (arith, length-append so_far.took.0 piece, so_far.took.3, c.feed_piece.auto.room, room),
      );
      fresh = c.in_ok-feed_piece.ensures.fresh;
      limit = f.limit ∙ so_far.limit;
      within = omega (arith, c.min-size.ensures, c.loop-at-test.true);
      unmoved = c.unmoved_calls_join.ensures c.args.store.now c.loop-at.store c.feed_piece.new.store so_far.unmoved c.in_ok-feed_piece.ensures.store.unmoved;
      kept = λ image was. c.in_ok-feed_piece.ensures.store.kept image (so_far.kept image was);
      reach = omega (arith, so_far.reach, c.in_ok-feed_piece.ensures.store.reach, room, c.loop-at-test.true, c.min-size.ensures);
      calls = omega (arith, so_far.calls, c.in_ok-feed_piece.ensures.store.calls refl, one_more_read c.loop-at.at size c.args.end so_far.whole c.loop-at-test.true c.min-size.ensures);
      whole = still_whole c.loop-at.at size c.args.end so_far.whole c.loop-at-test.true c.min-size.ensures;
      count = c.in_ok-feed_piece.ensures.store.counted ∙ so_far.count;
      goes = λ told. inr (goes_after c.loop-at.decoder c.feed_piece.new.decoder old so_far.took.0 piece (limit_of c.args.decoder.now) c.loop-at.at size c.in_ok-feed_piece.field-0 c.in-More.is f so_far.took.1 so_far.limit
          (more_taken old so_far.took.0 piece c.loop-at.at size (so_far.took.2 told)
          (c.in_ok-feed_piece.ensures.told told ∙ same_piece _ size c.loop-at.at _ old room so_far.unmoved.same)));
    }

pub returns-in-Done-clause-ok : goal.returns-in-Done-clause-ok
returns-in-Done-clause-ok g c =
    let old = g.S.Store.bytes c.args.store.now in
    let so_far = c.loop-at.invariant in
    let f = c.in_ok-feed_piece.ensures.ok in
    let piece = c.feed_piece.new.room in
    let size = c.min-size.result in
    let used = c.in-Done.field-0 in
    let fed = c.in_ok-feed_piece.field-0 in
    let room : length (take size c.loop-at.piece) ≡ size = omega (arith, length-take size c.loop-at.piece, c.min-size.ensures, c.min-size.array_long) in (
      so_far.took.0 ++ take used piece,
      took_some c.loop-at.decoder c.feed_piece.new.decoder so_far.took.0 piece fed used c.in-Done.is f so_far.took.1,
      λ told. whole_enough c.loop-at.decoder c.feed_piece.new.decoder old so_far.took.0 piece (limit_of c.args.decoder.now) c.loop-at.at size used fed c.in-Done.is f so_far.took.1 so_far.limit
          (so_far.took.2 told) (c.in_ok-feed_piece.ensures.told told ∙ same_piece _ size c.loop-at.at _ old room so_far.unmoved.same),
    )

pub returns-clause-ok : goal.returns-clause-ok
returns-clause-ok g c =
    let old = g.S.Store.bytes c.args.store.now in
    let so_far = c.loop-at.invariant in
    let at_end : c.loop-at.at ≡ c.args.end = omega (arith, so_far.within, c.loop-at-test.false) in (
      so_far.took.0,
      so_far.took.1,
      λ told. all_enough old so_far.took.0 (limit_of c.args.decoder.now) c.args.end (c.requires.there told) (so_far.took.2 told ∙ ap (λ (n : ℕ). take n old) at_end) (c.requires.covers told),
    )

pub returns-in_err-feed_piece-clause-err : goal.returns-in_err-feed_piece-clause-err
returns-in_err-feed_piece-clause-err g c =
    let old = g.S.Store.bytes c.args.store.now in
    let so_far = c.loop-at.invariant in
    let limit = limit_of c.args.decoder.now in
    let size = c.min-size.result in
    let room : length (take size c.loop-at.piece) ≡ size = omega (arith, length-take size c.loop-at.piece, c.min-size.ensures, c.min-size.array_long) in
    let p = err_from_is_err_and c.from_residual.result c.from_residual.ensures.1 in
    rw (p.1, p.2) (λ told. refused_piece c.stop_stays.ensures c.loop-at.decoder old so_far.took.0 _ limit c.loop-at.at size c.in_err-feed_piece.field-0.0 g.S.Store.tells_bytes told
    (so_far.took.2 told) (same_piece _ size c.loop-at.at _ old room so_far.unmoved.same) so_far.took.1 so_far.limit c.in_err-feed_piece.ensures.err)

pub returns-in_err-feed_piece-clause-store : goal.returns-in_err-feed_piece-clause-store
returns-in_err-feed_piece-clause-store g c =
    let so_far = c.loop-at.invariant in
    let r = c.in_err-feed_piece.ensures.store in
    let size = c.min-size.result in
    let room : length (take size c.loop-at.piece) ≡ size = omega (arith, length-take size c.loop-at.piece, c.min-size.ensures, c.min-size.array_long) in
    let p = err_from_is_err_and c.from_residual.result c.from_residual.ensures.1 in
    rw (p.1, p.2) record {
      unmoved = c.unmoved_calls_join.ensures c.args.store.now c.loop-at.store c.feed_piece.new.store so_far.unmoved r.unmoved;
      kept = λ image was. r.kept image (so_far.kept image was);
      counted = search rules;
      calls = λ bounded. omega (arith, so_far.calls, r.calls refl, reads_to_end c.loop-at.at c.args.end so_far.whole c.loop-at-test.true);
      reach = omega (arith, so_far.reach, r.reach, room, c.loop-at-test.true, c.min-size.ensures);
    }

pub returns-in-Done-clause-store : goal.returns-in-Done-clause-store
returns-in-Done-clause-store g c =
    let so_far = c.loop-at.invariant in
    let r = c.in_ok-feed_piece.ensures.store in
    let size = c.min-size.result in
    let room : length (take size c.loop-at.piece) ≡ size = omega (arith, length-take size c.loop-at.piece, c.min-size.ensures, c.min-size.array_long) in
    record {
      unmoved = c.unmoved_calls_join.ensures c.args.store.now c.loop-at.store c.feed_piece.new.store so_far.unmoved r.unmoved;
      kept = λ image was. r.kept image (so_far.kept image was);
      counted = r.counted ∙ so_far.count;
      calls = λ bounded. omega (arith, so_far.calls, r.calls refl, reads_to_end c.loop-at.at c.args.end so_far.whole c.loop-at-test.true);
      reach = omega (arith, so_far.reach, r.reach, room, c.loop-at-test.true, c.min-size.ensures);
    }

pub returns-in_err-feed_piece-clause-settled : goal.returns-in_err-feed_piece-clause-settled
returns-in_err-feed_piece-clause-settled g c = λ told.
    let so_far = c.loop-at.invariant in
    let r = c.in_err-feed_piece.ensures.store in
    let size = c.min-size.result in
    let room : length (take size c.loop-at.piece) ≡ size = omega (arith, length-take size c.loop-at.piece, c.min-size.ensures, c.min-size.array_long) in
    let few = λ (n : ℕ). λ (settled : SettledBy (g.S.Store.bytes c.args.store.now) (limit_of c.args.decoder.now) n).
    read_is_needed c.stop_stays.ensures c.header_or_stop.ensures.apart c.header_or_stop.ensures.one_stop (g.S.Store.bytes c.args.store.now) (limit_of c.args.decoder.now) c.loop-at.at c.args.end n so_far.whole c.loop-at-test.true (so_far.goes told) settled in
    record {
      calls = λ n settled. omega (arith, so_far.calls, r.calls refl, (few n settled).0);
      reach = λ n settled. omega (arith, so_far.reach, r.reach, room, c.min-size.ensures, (few n settled).1);
    }

pub returns-in-Done-clause-settled : goal.returns-in-Done-clause-settled
returns-in-Done-clause-settled g c = λ told.
    let so_far = c.loop-at.invariant in
    let r = c.in_ok-feed_piece.ensures.store in
    let size = c.min-size.result in
    let room : length (take size c.loop-at.piece) ≡ size = omega (arith, length-take size c.loop-at.piece, c.min-size.ensures, c.min-size.array_long) in
    let few = λ (n : ℕ). λ (settled : SettledBy (g.S.Store.bytes c.args.store.now) (limit_of c.args.decoder.now) n).
    read_is_needed c.stop_stays.ensures c.header_or_stop.ensures.apart c.header_or_stop.ensures.one_stop (g.S.Store.bytes c.args.store.now) (limit_of c.args.decoder.now) c.loop-at.at c.args.end n so_far.whole c.loop-at-test.true (so_far.goes told) settled in
    record {
      calls = λ n settled. omega (arith, so_far.calls, r.calls refl, (few n settled).0);
      reach = λ n settled. omega (arith, so_far.reach, r.reach, room, c.min-size.ensures, (few n settled).1);
    }

pub returns-clause-settled : goal.returns-clause-settled
returns-clause-settled g c = λ told.
    let so_far = c.loop-at.invariant in
    let at_end : c.loop-at.at ≡ c.args.end = omega (arith, so_far.within, c.loop-at-test.false) in
    let few = λ (n : ℕ). λ (settled : SettledBy (g.S.Store.bytes c.args.store.now) (limit_of c.args.decoder.now) n).
    reads_are_needed c.stop_stays.ensures c.header_or_stop.ensures.apart c.header_or_stop.ensures.one_stop (g.S.Store.bytes c.args.store.now) (limit_of c.args.decoder.now) c.loop-at.at c.args.end n at_end (so_far.goes told) settled in
    record {
      calls = λ n settled. omega (arith, so_far.calls, at_end, (few n settled).0);
      reach = λ n settled. omega (arith, so_far.reach, at_end, (few n settled).1);
    }

pub returns-in_err-feed_piece-clause-memory : goal.returns-in_err-feed_piece-clause-memory
returns-in_err-feed_piece-clause-memory g c is =
    let so_far = c.loop-at.invariant in
    let size = c.min-size.result in
    let room : length (take size c.loop-at.piece) ≡ size = omega (arith, length-take size c.loop-at.piece, c.min-size.ensures, c.min-size.array_long) in
    let p = err_from_is_err_and c.from_residual.result c.from_residual.ensures.1 in
    let same : c.in_err-feed_piece.field-0.0 ≡ Memory = cc in
    let past = c.in_err-feed_piece.ensures.memory (ap Err same) so_far.took.0 so_far.took.1 in
    omega (arith, past, so_far.took.3, room, c.loop-at-test.true, c.min-size.ensures)
