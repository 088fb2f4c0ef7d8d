use Rattle.std.proofs.Common.{Err, ap, subst, ◌∙◌, arith}
use Rattle.ncc_schema.specs.declared.schema.Schema.{Schema}
use Rattle.ncc_schema.specs.Names.{capped}
use Rattle.ncc_layout.specs.declared.fault.SizeError.{SizeError}
use Rattle.ncc_layout.specs.Sizes.{FirstTooLarge, IsSizes, record_size_of}
use Rattle.ncc_layout.proofs.VersionFits.{not_fit}
use Rattle.ncc_build.proofs.BuiltFacts.{fits_of}
use Rattle.ncc_build.proofs.SoundProps.{sound_of}
use Rattle.ncc_build.specs.Builds.{schema_of}
use Rattle.ncc_plan.proofs.Lengths.{fits_with, records_fit, start_of, total_fits, total_is}
use Rattle.ncc_plan.proofs.planning.length_of.Goals as goal

pub sizes-requires : goal.sizes-requires
sizes-requires c = rw c.schema-schema.ensures (sound_of (schema_of c.args.built.now) c.built_is_writable.ensures.built)

pub unreachable-requires : goal.unreachable-requires
unreachable-requires c =
    let s = schema_of c.args.built.now in
    let n = c.in-Err-TooLarge.field-0-0 in
    let found : FirstTooLarge c.schema-schema.result.now n =
    subst (λ (e : SizeError). IsSizes c.schema-schema.result.now (Err e)) c.in-Err-TooLarge.field-0-is c.in-Err-TooLarge.ensures.sizes in
    let first : FirstTooLarge s n = subst (λ (t : Schema). FirstTooLarge t n) c.schema-schema.ensures found in
    not_fit s n first (fits_of s c.built_is_writable.ensures.writable).none_too_large

pub records_begin-begin-requires-clause-sound : goal.records_begin-begin-requires-clause-sound
records_begin-begin-requires-clause-sound c = rw c.schema-schema.ensures (sound_of (schema_of c.args.built.now) c.built_is_writable.ensures.built)

pub overflow_mul-result : goal.overflow_mul-result
overflow_mul-result c =
    let s = schema_of c.args.built.now in
    let fits = fits_with s c.args.records c.requires.records (fits_of s c.built_is_writable.ensures.writable) in
    omega (arith, records_fit s c.args.records c.in-Ok.found.record_size fits (c.in-Ok.ensures.sizes.record_size ∙ ap record_size_of c.schema-schema.ensures))

pub overflow_add-result : goal.overflow_add-result
overflow_add-result c =
    let s = schema_of c.args.built.now in
    let fits = fits_with s c.args.records c.requires.records (fits_of s c.built_is_writable.ensures.writable) in
    let size = c.in-Ok.ensures.sizes.record_size ∙ ap record_size_of c.schema-schema.ensures in
    let begin = c.records_begin-begin.ensures ∙ ap (λ (t : Schema). capped (start_of t)) c.schema-schema.ensures in
    omega (arith, total_fits s c.args.records c.in-Ok.found.record_size c.records_begin-begin.result fits size begin)

pub returns : goal.returns
returns c =
    let s = schema_of c.args.built.now in
    let fits = fits_with s c.args.records c.requires.records (fits_of s c.built_is_writable.ensures.writable) in
    let size = c.in-Ok.ensures.sizes.record_size ∙ ap record_size_of c.schema-schema.ensures in
    let begin = c.records_begin-begin.ensures ∙ ap (λ (t : Schema). capped (start_of t)) c.schema-schema.ensures in
    total_is s c.args.records c.in-Ok.found.record_size c.records_begin-begin.result fits size begin
