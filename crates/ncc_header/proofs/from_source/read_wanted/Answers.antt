use Rattle.std.proofs.Common.{◌≡◌, ◌+◌, refl, subst, ◌∙◌, inl, inr, arith}
use Rattle.std.proofs.lemmas.List.{length-take}
use Rattle.std.proofs.lemmas.Result.{err_from_is_err_and}
use Rattle.ncc_header.specs.declared.fault.HeaderError.TheVariants as errors
use Rattle.ncc_header.specs.FromSource.{HasRead}
use Rattle.ncc_header.specs.State.{IsSettled}
use Rattle.ncc_header.proofs.FromSource.{has_read_none, has_read_more, failed_source, read_most, read_few, failed_most, failed_few, failed_memory, wanted_within}
use Rattle.ncc_header.proofs.from_source.read_wanted.Goals as goal

pub loop-wanted-init : goal.loop-wanted-init
loop-wanted-init g c =
    let left = g.R.Source.left c.args.source.now in
    let d = c.args.decoder.now in
    let read : HasRead left left d c.args.limit 0 = has_read_none left d c.args.limit c.requires.took c.requires.limit in
    record {
      read = read;
      fresh = c.requires.fresh;
      fewest = c.expects-wanted.ensures.fewest;
      within = λ some. wanted_within d left left c.args.limit 0 c.expects-wanted.result read c.expects-wanted.ensures.within some;
      most = omega arith;
      over = λ none. inr (λ bytes took. subst (IsSettled bytes) c.requires.limit (c.expects-wanted.ensures.settled bytes took c.requires.fresh none));
      count = refl;
      called = omega arith;
      each = λ some. omega arith;
    }

pub returns-in_err-n-clause-err : goal.returns-in_err-n-clause-err
returns-in_err-n-clause-err g c =
    let left = g.R.Source.left in
    let p = err_from_is_err_and c.from_residual.result c.from_residual.ensures.1 in
    rw (p.1, p.2) (failed_source (left c.args.source.now) (left c.loop-wanted.source) (left c.read_piece.new.source) c.loop-wanted.decoder c.args.limit c.loop-wanted.taken _ c.in_err-n.field-0.0 c.loop-wanted.invariant.read c.in_err-n.ensures.err)

pub loop-wanted-preserved-then-n-gt0 : goal.loop-wanted-preserved-then-n-gt0
loop-wanted-preserved-then-n-gt0 g c =
    let left = g.R.Source.left in
    let old = left c.args.source.now in
    let now = left c.read_piece.new.source in
    let d = c.loop-wanted.decoder in
    let e = c.read_piece.new.decoder in
    let f = c.in_ok-n.ensures.ok in
    let expects = c.expects-wanted-then-n-gt0 in
    let read : HasRead old now e c.args.limit (c.loop-wanted.taken + c.in_ok-n.n) =
    has_read_more old (left c.loop-wanted.source) now d e c.args.limit c.loop-wanted.taken _ c.in_ok-n.n c.loop-wanted.invariant.read f
    (λ bytes more took w. omega (arith, c.loop-wanted.invariant.fewest bytes more took w, length-take c.min.result c.loop-wanted.piece, c.min.ensures)) in
    record {
      read = read;
      fresh = f.fresh;
      fewest = expects.ensures.fewest;
      within = λ some. wanted_within e old now c.args.limit (c.loop-wanted.taken + c.in_ok-n.n) expects.result read expects.ensures.within some;
      most = omega (arith, f.few, length-take c.min.result c.loop-wanted.piece, c.min.ensures, c.loop-wanted.invariant.within c.loop-wanted-test.true);
      over = λ none. inr (λ bytes took. subst (IsSettled bytes) read.limit_is (expects.ensures.settled bytes took f.fresh none));
      count = c.in_ok-n.ensures.count ∙ c.loop-wanted.invariant.count;
      called = omega (arith, c.read_piece.ensures.calls, c.loop-wanted.invariant.each c.loop-wanted-test.true);
      each = λ some. omega (arith, c.read_piece.ensures.calls, c.loop-wanted.invariant.each c.loop-wanted-test.true, c.if-n-gt0.true);
    }

pub loop-wanted-preserved : goal.loop-wanted-preserved
loop-wanted-preserved g c =
    let left = g.R.Source.left in
    let f = c.in_ok-n.ensures.ok in
    record {
      read = has_read_more (left c.args.source.now) (left c.loop-wanted.source) (left c.read_piece.new.source) c.loop-wanted.decoder c.read_piece.new.decoder c.args.limit c.loop-wanted.taken _ c.in_ok-n.n c.loop-wanted.invariant.read f
          (λ bytes more took w. omega (arith, c.loop-wanted.invariant.fewest bytes more took w, length-take c.min.result c.loop-wanted.piece, c.min.ensures));
      fresh = f.fresh;
      fewest = λ bytes more took w. omega arith;
      within = λ some. absurd (omega (arith, some));
      most = omega (arith, f.few, length-take c.min.result c.loop-wanted.piece, c.min.ensures, c.loop-wanted.invariant.within c.loop-wanted-test.true);
      over = λ none. inl (f.end (omega (arith, c.if-n-gt0.false)) (omega (arith, length-take c.min.result c.loop-wanted.piece, c.min.ensures, c.min.array_long, c.loop-wanted-test.true)));
      count = c.in_ok-n.ensures.count ∙ c.loop-wanted.invariant.count;
      called = omega (arith, c.read_piece.ensures.calls, c.loop-wanted.invariant.each c.loop-wanted-test.true);
      each = λ some. absurd (omega (arith, some));
    }

pub returns-in_err-n-clause-memory : goal.returns-in_err-n-clause-memory
returns-in_err-n-clause-memory g c = λ memory.
    let left = g.R.Source.left in
    let p = err_from_is_err_and c.from_residual.result c.from_residual.ensures.1 in
    let is : c.in_err-n.field-0.0 ≡ errors.Memory = cc in
    failed_memory (left c.args.source.now) (left c.loop-wanted.source) (left c.read_piece.new.source) c.loop-wanted.decoder c.args.limit c.loop-wanted.taken _ c.in_err-n.field-0.0 c.loop-wanted.invariant.read c.in_err-n.ensures.err is

pub returns-in_err-n-clause-most : goal.returns-in_err-n-clause-most
returns-in_err-n-clause-most g c =
    let left = g.R.Source.left in
    failed_most (left c.args.source.now) (left c.loop-wanted.source) (left c.read_piece.new.source) c.loop-wanted.decoder c.args.limit c.loop-wanted.taken _ c.in_err-n.field-0.0 c.loop-wanted.invariant.read c.in_err-n.ensures.err
    (omega (arith, length-take c.min.result c.loop-wanted.piece, c.min.ensures, c.loop-wanted.invariant.within c.loop-wanted-test.true))

pub returns-clause-most : goal.returns-clause-most
returns-clause-most g c =
    let left = g.R.Source.left in
    read_most (left c.args.source.now) (left c.loop-wanted.source) c.loop-wanted.decoder c.args.limit c.loop-wanted.taken c.loop-wanted.invariant.read c.loop-wanted.invariant.most

pub returns-in_err-n-clause-calls : goal.returns-in_err-n-clause-calls
returns-in_err-n-clause-calls g c =
    let left = g.R.Source.left in
    failed_few (left c.args.source.now) (left c.loop-wanted.source) (left c.read_piece.new.source) c.loop-wanted.decoder c.args.limit c.loop-wanted.taken _ c.in_err-n.field-0.0 (g.R.Source.calls c.args.source.now) (g.R.Source.calls c.read_piece.new.source) c.loop-wanted.invariant.read c.in_err-n.ensures.err
    (omega (arith, c.read_piece.ensures.calls, c.loop-wanted.invariant.each c.loop-wanted-test.true))

pub returns-clause-calls : goal.returns-clause-calls
returns-clause-calls g c =
    let left = g.R.Source.left in
    read_few (left c.args.source.now) (left c.loop-wanted.source) c.loop-wanted.decoder c.args.limit c.loop-wanted.taken (g.R.Source.calls c.args.source.now) (g.R.Source.calls c.loop-wanted.source) c.loop-wanted.invariant.read c.loop-wanted.invariant.called
