use Rattle.std.proofs.Common.{true, false, refl, ◌≡◌, None, Result, Err, OnErr, sym, ap, subst, ◌∙◌, arith, rules}
use Rattle.ncc_layout.specs.Placed.{file_length_of}
use Rattle.ncc_values.specs.declared.failures.Device.{Device}
use Rattle.ncc_convert.specs.Copying.{HasFront}
use Rattle.ncc_check.specs.Files.{store_of, placed_of}
use Rattle.ncc_check.proofs.ReadFiles.{files_join, files_bounded, files_answered, files_loose}
use Rattle.ncc_write.specs.Writer.{schema_in, sink_in}
use Rattle.ncc_write.specs.Writing.{data_length}
use Rattle.ncc_convert.proofs.Moved.{copies_back, copies_there, front_back}
use Rattle.ncc_convert.proofs.copying.copy_all.Goals as goal

pub copy_piece-requires-clause-copies : goal.copy_piece-requires-clause-copies
copy_piece-requires-clause-copies g c =
    let at = c.loop-var.invariant in
    let start = c.requires.copies.0 in (
      start,
      copies_there g.S.Store.tells_bytes (g.S.Store.bytes (store_of c.args.file.now)) (g.S.Store.bytes (store_of c.loop-var.file))
          (placed_of c.args.file.now) (placed_of c.loop-var.file)
          at.file.reads.unmoved.same at.file.placed start (g.W.Sink.put (sink_in c.loop-var.writer)) c.loop-var.writer
          (at.copies start c.requires.copies.1),
    )

pub loop-var-smaller : goal.loop-var-smaller
loop-var-smaller g c =
    let same : data_length (schema_in c.copy_piece.new.writer) ≡ data_length (schema_in c.loop-var.writer) = ap data_length c.copy_piece.ensures.planned in
    omega (arith, same, c.copy_piece.ensures.before, c.in_ok-copy_piece.ensures.more)

pub loop-var-preserved : goal.loop-var-preserved
loop-var-preserved g c =
    let at = c.loop-var.invariant in
    let one = c.copy_piece.ensures in
    let ok = c.in_ok-copy_piece.ensures in
    record {
      room = one.room ∙ at.room;
      copies = λ start copies.
          let there = copies_there g.S.Store.tells_bytes (g.S.Store.bytes (store_of c.args.file.now)) (g.S.Store.bytes (store_of c.loop-var.file))
          (placed_of c.args.file.now) (placed_of c.loop-var.file)
          at.file.reads.unmoved.same at.file.placed start (g.W.Sink.put (sink_in c.loop-var.writer)) c.loop-var.writer (at.copies start copies) in
          copies_back g.S.Store.tells_bytes (g.S.Store.bytes (store_of c.args.file.now)) (g.S.Store.bytes (store_of c.loop-var.file))
          (placed_of c.args.file.now) (placed_of c.loop-var.file)
          at.file.reads.unmoved.same at.file.placed start (g.W.Sink.put (sink_in c.copy_piece.new.writer)) c.copy_piece.new.writer
          (c.in_ok-copy_piece.ensures.copies start there);
      planned = one.planned ∙ at.planned;
      file = files_join c.args.file.now c.loop-var.file c.copy_piece.new.file _ false 0 0 0 _ _ at.file
          (files_loose c.loop-var.file c.copy_piece.new.file _ _ _ (files_answered c.loop-var.file c.copy_piece.new.file _ (λ before after. after ≡ before) true _ _ ok.file ok.file.reads.counted.0))
          (omega arith) (omega (arith, ap file_length_of at.file.placed));
      sink = ok.file.reads.counted.1 ∙ at.sink;
      calls = omega (arith, at.calls, ok.file.reads.calls refl, ok.fewer);
    }

pub returns-in_err-copy_piece-clause-stops : goal.returns-in_err-copy_piece-clause-stops
returns-in_err-copy_piece-clause-stops g c = λ start copies.
    let at = c.loop-var.invariant in
    let there = copies_there g.S.Store.tells_bytes (g.S.Store.bytes (store_of c.args.file.now)) (g.S.Store.bytes (store_of c.loop-var.file))
    (placed_of c.args.file.now) (placed_of c.loop-var.file)
    at.file.reads.unmoved.same at.file.placed start (g.W.Sink.put (sink_in c.loop-var.writer)) c.loop-var.writer (at.copies start copies) in
    let is : c.from_residual.result ≡ Err c.in_err-copy_piece.field-0.0 = search rules in
    let front = front_back g.S.Store.tells_bytes (g.S.Store.bytes (store_of c.args.file.now)) (g.S.Store.bytes (store_of c.loop-var.file))
    (placed_of c.args.file.now) (placed_of c.loop-var.file)
    at.file.reads.unmoved.same at.file.placed start (g.W.Sink.put (sink_in c.copy_piece.new.writer))
    (schema_in c.args.writer.now) (schema_in c.loop-var.writer) at.planned
    (c.in_err-copy_piece.ensures.stops start there) in
    subst (λ (r : Result (Unit {0}) Device). OnErr r (HasFront g.S.Store.tells_bytes (g.S.Store.bytes (store_of c.args.file.now))
    (placed_of c.args.file.now) (schema_in c.args.writer.now) start (g.W.Sink.put (sink_in c.copy_piece.new.writer))))
    (sym is) front

pub returns-clause-all : goal.returns-clause-all
returns-clause-all g c =
    let none : c.expects.result ≡ None = search rules in
    λ start w at. sym none ∙ c.expects.ensures start w at

pub returns-in_err-copy_piece-clause-file : goal.returns-in_err-copy_piece-clause-file
returns-in_err-copy_piece-clause-file g c =
    let at = c.loop-var.invariant in
    let one = c.in_err-copy_piece.ensures.file in
    let joined = files_join c.args.file.now c.loop-var.file c.copy_piece.new.file _ false 0 0 0 _ _ at.file (files_loose c.loop-var.file c.copy_piece.new.file _ _ _ one) (omega arith) (omega (arith, ap file_length_of at.file.placed)) in
    files_bounded c.args.file.now c.copy_piece.new.file _ false 0 _ _ (files_answered c.args.file.now c.copy_piece.new.file _ _ false 0 _ joined (search rules))
    (omega (arith, at.calls, one.reads.calls refl, c.copy_piece.ensures.some))

pub returns-clause-file : goal.returns-clause-file
returns-clause-file g c =
    let at = c.loop-var.invariant in
    files_bounded c.args.file.now c.loop-var.file _ false 0 _ _ (files_answered c.args.file.now c.loop-var.file _ _ false 0 _ at.file (at.file.reads.counted, at.sink))
    (omega (arith, at.calls))
