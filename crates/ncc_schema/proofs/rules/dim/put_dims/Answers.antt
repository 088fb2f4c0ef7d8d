use Rattle.std.proofs.Common.{◌∙◌}
use Rattle.ncc_schema.specs.Schema.{LegalDim}
use Rattle.ncc_schema.specs.Header.{canon_list, canon_dim}
use Rattle.ncc_schema.proofs.Encoding.{next_all, item_sent, item_fails}
use Rattle.ncc_schema.proofs.Writing.{fails_at}
use Rattle.ncc_schema.proofs.rules.dim.put_dims.Goals as goal

pub returns-in_err-put_head-clause-bytes : goal.returns-in_err-put_head-clause-bytes
returns-in_err-put_head-clause-bytes g c = fails_at _ _ _ _ _ _ c.in_err-put_head.field-0.0 c.from_residual.ensures.1 c.in_err-put_head.ensures.bytes

pub returns-in_err-put_dim-clause-bytes : goal.returns-in_err-put_dim-clause-bytes
returns-in_err-put_dim-clause-bytes g c =
    item_fails _ (canon_dim c.args.version) c.args.dims.now c.loop-dim.dim-index c.dim-item.result c.dim-item.result _ _ _ _ _ c.in_err-put_dim.field-0.0
    c.loop-dim-test.true c.dim-item.is c.loop-dim.invariant.so_far c.from_residual-in_err-put_dim.ensures.1 c.in_err-put_dim.ensures.bytes

pub loop-dim-preserved : goal.loop-dim-preserved
loop-dim-preserved g c =
    record {
      so_far = item_sent (canon_dim c.args.version) c.args.dims.now c.loop-dim.dim-index c.dim-item.result c.dim-item.result _ _ _ (canon_list c.args.version 10 (canon_dim c.args.version) c.args.dims.now) c.loop-dim-test.true c.dim-item.is
          c.loop-dim.invariant.so_far c.in_ok-put_dim.ensures.bytes;
      count = c.in_ok-put_dim.ensures.count ∙ c.loop-dim.invariant.count;
      each = (next_all (LegalDim c.args.version) c.args.dims.now c.loop-dim.dim-index c.dim-item.result c.dim-item.result c.loop-dim-test.true c.dim-item.is c.loop-dim.invariant.each).1;
    }
