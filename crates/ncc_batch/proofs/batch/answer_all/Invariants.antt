use Rattle.std.proofs.Common.{◌≡◌, ◌≤◌, take, drop}
use Rattle.std.specs.Prelude.{IsTrue}
use Rattle.ncc_values.specs.Failures.{Rose}
use Rattle.ncc_answers.specs.declared.answer.Answer.TheVariants.{Device}
use Rattle.ncc_batch.proofs.Batches.{Answered, IsFine}
use Rattle.ncc_batch.proofs.batch.answer_all.Given as goal

abbrev pub invariant-loop-path : goal.invariant-loop-path
invariant-loop-path g l = record {
  so_far : IsTrue g.F.Shelf.tells → Answered (g.F.Shelf.file l.fn.shelf) l.work l.form (take l.path-index l.paths) l.answer
      (g.F.Shelf.failures l.fn.shelf) (g.F.Shelf.failures l.shelf) (g.W.Sink.put l.fn.sink) (g.W.Sink.put l.sink);
  left : IsTrue g.F.Shelf.tells → g.F.Shelf.left l.shelf ≡ drop l.path-index l.paths;
  file : g.F.Shelf.file l.shelf ≡ g.F.Shelf.file l.fn.shelf;
  grows : g.F.Shelf.failures l.fn.shelf ≤ g.F.Shelf.failures l.shelf;
  device : l.answer ≡ Device → Rose (g.F.Shelf.failures l.fn.shelf) (g.F.Shelf.failures l.shelf);
  quiet : IsFine l.answer → g.F.Shelf.failures l.shelf ≡ g.F.Shelf.failures l.fn.shelf;
  count : g.W.Sink.failures l.sink ≡ g.W.Sink.failures l.fn.sink;
}
