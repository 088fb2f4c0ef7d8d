use Rattle.ncc_csv.specs.Numbers.{between_commas}
use Rattle.ncc_csv.proofs.ListNumbers.{no_list, next_number}
use Rattle.ncc_csv.proofs.numbers.parse_list.Goals as goal

pub returns-in-None : goal.returns-in-None
returns-in-None c =
    no_list (λ x. x.now) c.as_slice-piece-items.result.now (between_commas c.args.text.now) c.loop-piece.piece-index _ c.loop-piece.invariant.same c.loop-piece-test.true c.in-None.ensures

pub loop-piece-preserved : goal.loop-piece-preserved
loop-piece-preserved c = record {
  same = c.loop-piece.invariant.same;
  so_far = next_number (λ x. x.now) c.as_slice-piece-items.result.now (between_commas c.args.text.now) c.loop-piece.piece-index _ c.loop-piece.numbers.items _ c.in-Some.n c.loop-piece.invariant.same c.loop-piece-test.true
      c.loop-piece.invariant.so_far c.in-Some.ensures.0 c.in-Some.ensures.1 c.in_ok-push-in-Some.ensures.items;
}
