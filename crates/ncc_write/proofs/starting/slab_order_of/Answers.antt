use Rattle.std.proofs.Common.{Err, subst}
use Rattle.ncc_schema.specs.declared.schema.Schema.{Schema}
use Rattle.ncc_layout.specs.declared.fault.SizeError.{SizeError}
use Rattle.ncc_layout.specs.Sizes.{FirstTooLarge, IsSizes}
use Rattle.ncc_layout.proofs.VersionFits.{not_fit}
use Rattle.ncc_build.proofs.SoundProps.{sound_of}
use Rattle.ncc_build.specs.Builds.{schema_of}
use Rattle.ncc_build.proofs.BuiltFacts.{fits_of}
use Rattle.ncc_write.proofs.starting.slab_order_of.Goals as goal

pub sizes-requires : goal.sizes-requires
sizes-requires c = rw c.schema-schema.ensures (sound_of (schema_of c.args.built.now) c.built_is_writable.ensures.built)

pub new-requires-clause-sound : goal.new-requires-clause-sound
new-requires-clause-sound c = rw c.schema-schema.ensures (sound_of (schema_of c.args.built.now) c.built_is_writable.ensures.built)

pub new-requires-clause-fits : goal.new-requires-clause-fits
new-requires-clause-fits c = rw (c.records_of.ensures, c.schema-schema.ensures) (fits_of (schema_of c.args.built.now) c.built_is_writable.ensures.writable)

-- the version can tell all sizes
pub unreachable-requires : goal.unreachable-requires
unreachable-requires c =
    let s = schema_of c.args.built.now in
    let n = c.in-Err-TooLarge.field-0-0 in
    let found : FirstTooLarge c.schema-schema.result.now n =
    subst (λ (e : SizeError). IsSizes c.schema-schema.result.now (Err e)) c.in-Err-TooLarge.field-0-is c.in-Err-TooLarge.ensures.sizes in
    let first : FirstTooLarge s n = subst (λ (t : Schema). FirstTooLarge t n) c.schema-schema.ensures found in
    not_fit s n first (fits_of s c.built_is_writable.ensures.writable).none_too_large
