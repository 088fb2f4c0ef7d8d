use Rattle.std.proofs.Common.{◌∙◌}
use Rattle.ncc_schema.specs.Schema.{LegalAttr}
use Rattle.ncc_schema.specs.Header.{canon_list, canon_attr}
use Rattle.ncc_schema.proofs.Encoding.{next_all, item_sent, item_fails}
use Rattle.ncc_schema.proofs.Writing.{fails_at}
use Rattle.ncc_schema.proofs.rules.attr.put_attrs.Goals as goal

pub returns-in_err-put_head-clause-bytes : goal.returns-in_err-put_head-clause-bytes
returns-in_err-put_head-clause-bytes g c = fails_at _ _ _ _ _ _ c.in_err-put_head.field-0.0 c.from_residual.ensures.1 c.in_err-put_head.ensures.bytes

pub returns-in_err-put_attr-clause-bytes : goal.returns-in_err-put_attr-clause-bytes
returns-in_err-put_attr-clause-bytes g c =
    item_fails _ (canon_attr c.args.version) c.args.attrs.now c.loop-attr.attr-index c.attr-item.result c.attr-item.result _ _ _ _ _ c.in_err-put_attr.field-0.0
    c.loop-attr-test.true c.attr-item.is c.loop-attr.invariant.so_far c.from_residual-in_err-put_attr.ensures.1 c.in_err-put_attr.ensures.bytes

pub loop-attr-preserved : goal.loop-attr-preserved
loop-attr-preserved g c =
    record {
      so_far = item_sent (canon_attr c.args.version) c.args.attrs.now c.loop-attr.attr-index c.attr-item.result c.attr-item.result _ _ _ (canon_list c.args.version 12 (canon_attr c.args.version) c.args.attrs.now) c.loop-attr-test.true c.attr-item.is
          c.loop-attr.invariant.so_far c.in_ok-put_attr.ensures.bytes;
      count = c.in_ok-put_attr.ensures.count ∙ c.loop-attr.invariant.count;
      each = (next_all (LegalAttr c.args.version) c.args.attrs.now c.loop-attr.attr-index c.attr-item.result c.attr-item.result c.loop-attr-test.true c.attr-item.is c.loop-attr.invariant.each).1;
    }
