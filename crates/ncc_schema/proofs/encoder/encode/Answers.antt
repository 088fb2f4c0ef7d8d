use Rattle.std.proofs.Common.{◌%◌, [], ◌∷◌, sym, ◌∙◌}
use Rattle.ncc_values.specs.Version.{byte_of}
use Rattle.ncc_schema.proofs.Encoding.{byte_fits}
use Rattle.ncc_schema.proofs.Writing.{writes_both, fails_at}
use Rattle.ncc_schema.proofs.encoder.encode.Goals as goal

pub returns-in_err-write_all-clause-bytes : goal.returns-in_err-write_all-clause-bytes
returns-in_err-write_all-clause-bytes g c =
    fails_at _ _ _ (0x43 ∷ 0x44 ∷ 0x46 ∷ byte_of c.args.schema.now.version % 256 ∷ []) _ _ c.in_err-write_all.field-0.0 c.from_residual.ensures.1 (rw (c.byte.ensures ∙ sym (byte_fits c.args.schema.now.version)) at c.in_err-write_all.ensures.bytes)

pub returns-in_err-put_numrecs-clause-bytes : goal.returns-in_err-put_numrecs-clause-bytes
returns-in_err-put_numrecs-clause-bytes g c =
    writes_both _ _ _ (0x43 ∷ 0x44 ∷ 0x46 ∷ byte_of c.args.schema.now.version % 256 ∷ []) _ _ (rw (c.byte.ensures ∙ sym (byte_fits c.args.schema.now.version)) at c.in_ok-write_all.ensures.bytes)
    (fails_at _ _ _ _ _ _ c.in_err-put_numrecs.field-0.0 c.from_residual-in_err-put_numrecs.ensures.1 c.in_err-put_numrecs.ensures.bytes)

pub returns-in_err-put_dims-clause-bytes : goal.returns-in_err-put_dims-clause-bytes
returns-in_err-put_dims-clause-bytes g c =
    writes_both _ _ _ (0x43 ∷ 0x44 ∷ 0x46 ∷ byte_of c.args.schema.now.version % 256 ∷ []) _ _ (rw (c.byte.ensures ∙ sym (byte_fits c.args.schema.now.version)) at c.in_ok-write_all.ensures.bytes)
    (writes_both _ _ _ _ _ _ c.in_ok-put_numrecs.ensures.bytes
    (fails_at _ _ _ _ _ _ c.in_err-put_dims.field-0.0 c.from_residual-in_err-put_dims.ensures.1 (rw c.as_slice.ensures at c.in_err-put_dims.ensures.bytes)))

pub returns-in_err-put_attrs-clause-bytes : goal.returns-in_err-put_attrs-clause-bytes
returns-in_err-put_attrs-clause-bytes g c =
    writes_both _ _ _ (0x43 ∷ 0x44 ∷ 0x46 ∷ byte_of c.args.schema.now.version % 256 ∷ []) _ _ (rw (c.byte.ensures ∙ sym (byte_fits c.args.schema.now.version)) at c.in_ok-write_all.ensures.bytes)
    (writes_both _ _ _ _ _ _ c.in_ok-put_numrecs.ensures.bytes
    (writes_both _ _ _ _ _ _ (rw c.as_slice.ensures at c.in_ok-put_dims.ensures.bytes)
    (fails_at _ _ _ _ _ _ c.in_err-put_attrs.field-0.0 c.from_residual-in_err-put_attrs.ensures.1 (rw c.as_slice-2.ensures at c.in_err-put_attrs.ensures.bytes))))

pub returns-clause-bytes : goal.returns-clause-bytes
returns-clause-bytes g c =
    writes_both _ _ _ (0x43 ∷ 0x44 ∷ 0x46 ∷ byte_of c.args.schema.now.version % 256 ∷ []) _ _ (rw (c.byte.ensures ∙ sym (byte_fits c.args.schema.now.version)) at c.in_ok-write_all.ensures.bytes)
    (writes_both _ _ _ _ _ _ c.in_ok-put_numrecs.ensures.bytes
    (writes_both _ _ _ _ _ _ (rw c.as_slice.ensures at c.in_ok-put_dims.ensures.bytes)
    (writes_both _ _ _ _ _ _ (rw c.as_slice-2.ensures at c.in_ok-put_attrs.ensures.bytes) c.put_vars.ensures.bytes)))
