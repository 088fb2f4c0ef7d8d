use Rattle.std.proofs.Common.{◌<◌, get_or, refl, ◌∙◌}
use Rattle.ncc_values.specs.Numbers.{big_endian}
use Rattle.ncc_values.specs.Version.{count_width_of}
use Rattle.ncc_schema.specs.Schema.{count_limit}
use Rattle.ncc_schema.proofs.Encoding.{next_all, item_sent, item_fails}
use Rattle.ncc_schema.proofs.Writing.{fails_at}
use Rattle.ncc_schema.proofs.rules.var.put_dimids.Goals as goal

pub returns-in_err-put_non_neg-clause-bytes : goal.returns-in_err-put_non_neg-clause-bytes
returns-in_err-put_non_neg-clause-bytes g c = fails_at _ _ _ _ _ _ c.in_err-put_non_neg.field-0.0 c.from_residual.ensures.1 c.in_err-put_non_neg.ensures.bytes

pub returns-in_err-put_non_neg-2-clause-bytes : goal.returns-in_err-put_non_neg-2-clause-bytes
returns-in_err-put_non_neg-2-clause-bytes g c =
    let i = c.loop-id.id-index in
    item_fails _ (big_endian (count_width_of c.args.version)) c.args.ids.now i (get_or c.args.ids.now i 0) 0 _ _ _ _ _ c.in_err-put_non_neg-2.field-0.0
    c.loop-id-test.true refl c.loop-id.invariant.so_far c.from_residual-in_err-put_non_neg-2.ensures.1 c.in_err-put_non_neg-2.ensures.bytes

pub loop-id-preserved : goal.loop-id-preserved
loop-id-preserved g c =
    let xs = c.args.ids.now in
    let i = c.loop-id.id-index in
    record {
      so_far = item_sent (big_endian (count_width_of c.args.version)) xs i (get_or xs i 0) 0 _ _ _ _ c.loop-id-test.true refl c.loop-id.invariant.so_far c.in_ok-put_non_neg-2.ensures.bytes;
      count = c.in_ok-put_non_neg-2.ensures.count ∙ c.loop-id.invariant.count;
      each = (next_all (λ n. n < count_limit c.args.version) xs i (get_or xs i 0) 0 c.loop-id-test.true refl c.loop-id.invariant.each).1;
    }
