use Rattle.std.proofs.Common.{◌∙◌, arith}
use Rattle.ncc_write.proofs.AllFills.{fills_more, fills_stop, fills_end}
use Rattle.ncc_write.proofs.Going.{stops_at}
use Rattle.ncc_write.proofs.writer.FileWriter.fill_slabs.Goals as goal

pub loop-self-preserved : goal.loop-self-preserved
loop-self-preserved g c =
    let inv = c.loop-self.invariant in
    record {
      fills = λ start w at stands.
          let f = inv.fills start w at stands in
          fills_more start _ c.loop-self.self w f (omega (arith, c.loop-self-test.true, c.slabs.ensures)) _ c.fill_slab.new.self (c.in_ok-fill_slab.ensures.fills start f.now f.at f.stands);
      count = c.in_ok-fill_slab.ensures.count ∙ inv.count;
    }

pub returns-in_err-fill_slab-clause-fills : goal.returns-in_err-fill_slab-clause-fills
returns-in_err-fill_slab-clause-fills g c = λ start w at stands.
    let f = c.loop-self.invariant.fills start w at stands in
    stops_at _ start _ _ _ c.from_residual.result c.from_residual.ensures.1
    (fills_stop start _ c.loop-self.self w f (omega (arith, c.loop-self-test.true, c.slabs.ensures)) _ c.fill_slab.new.self (c.in_err-fill_slab.ensures.fills start f.now f.at f.stands))

pub returns-clause-fills : goal.returns-clause-fills
returns-clause-fills g c = λ start w at stands.
    fills_end start _ c.loop-self.self w (c.loop-self.invariant.fills start w at stands) (omega (arith, c.loop-self-test.false, c.slabs.ensures))
