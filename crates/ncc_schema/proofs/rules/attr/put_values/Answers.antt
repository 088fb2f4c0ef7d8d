use Rattle.std.proofs.Common.{◌≡◌, ◌*◌, take, drop, length, sym, ap, ◌∙◌, arith}
use Rattle.std.proofs.lemmas.Result.{err_from_is_err_and}
use Rattle.ncc_values.specs.Values.{type_of, bytes_of}
use Rattle.ncc_values.specs.XType.{size_of}
use Rattle.ncc_schema.proofs.Encoding.{next_bytes, no_bytes}
use Rattle.ncc_schema.proofs.Writing.{so_far_more, so_far_all, writes_front_so_far}
use Rattle.ncc_schema.proofs.rules.attr.put_values.Goals as goal

pub returns-in_err-write_all-clause-bytes : goal.returns-in_err-write_all-clause-bytes
returns-in_err-write_all-clause-bytes g c =
    let bytes = bytes_of c.args.values.now in
    let size : size_of (type_of c.args.values.now) ≡ c.size-size.result = sym (c.size-size.ensures ∙ ap size_of c.xtype.ensures) in
    let piece : c.put_from.new.out ≡ take (length c.split_at_mut-piece.result.0.now) (drop (c.loop-first.first * c.size-size.result) bytes) = rw size at c.put_from.ensures in
    let parts = next_bytes bytes c.put_from.new.out c.loop-first.first c.min-some.result c.size-size.result (length c.split_at_mut-piece.result.0.now) c.split_at_mut-piece.ensures.front_len piece in
    let p = err_from_is_err_and c.from_residual.result c.from_residual.ensures.1 in
    rw p.1 (writes_front_so_far _ _ _ bytes _ c.put_from.new.out _ p.0 c.loop-first.invariant.so_far parts c.in_err-write_all.ensures.bytes)

pub loop-first-preserved : goal.loop-first-preserved
loop-first-preserved g c =
    let bytes = bytes_of c.args.values.now in
    let size : size_of (type_of c.args.values.now) ≡ c.size-size.result = sym (c.size-size.ensures ∙ ap size_of c.xtype.ensures) in
    let piece : c.put_from.new.out ≡ take (length c.split_at_mut-piece.result.0.now) (drop (c.loop-first.first * c.size-size.result) bytes) = rw size at c.put_from.ensures in
    let parts = next_bytes bytes c.put_from.new.out c.loop-first.first c.min-some.result c.size-size.result (length c.split_at_mut-piece.result.0.now) c.split_at_mut-piece.ensures.front_len piece in
    record {
      so_far = so_far_more _ _ _ bytes _ c.put_from.new.out _ c.loop-first.invariant.so_far parts c.in_ok-write_all.ensures.bytes;
      count = c.in_ok-write_all.ensures.count ∙ c.loop-first.invariant.count;
      within = omega arith;
    }

pub returns-clause-bytes : goal.returns-clause-bytes
returns-clause-bytes g c =
    let none = no_bytes c.args.values.now c.loop-first.first c.size-size.result (omega arith) (c.size-size.ensures ∙ ap size_of c.xtype.ensures) in
    so_far_all _ _ (bytes_of c.args.values.now) _ c.loop-first.invariant.so_far none
