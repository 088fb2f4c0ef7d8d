use Rattle.std.proofs.Common.{◌<◌}
use Rattle.std.specs.List.{AllByRecursion}
use Rattle.ncc_schema.specs.Schema.{offset_limit, places_of}
use Rattle.ncc_layout.specs.Plans.{known, IsPlan}
use Rattle.ncc_layout.proofs.VersionFits.{size_fails, standard_legal}
use Rattle.ncc_layout.proofs.planning.standard.Goals as goal

pub returns-in_err-found-clause-plan : goal.returns-in_err-found-clause-plan
returns-in_err-found-clause-plan c =
    let s = c.args.schema.now in
    let records = known s.count in
    size_fails (λ places. IsPlan s records places.items) s records c.in_err-found.field-0.0 c.from_residual.result c.from_residual.ensures.1 c.in_err-found.ensures.sizes

pub returns-clause-legal : goal.returns-clause-legal
returns-clause-legal c =
    let s = c.args.schema.now in
    let fits = c.fits_version.ensures.0 c.if-not-fits_version.false in
    let begins : AllByRecursion (λ p. p.begin < offset_limit s.version) (places_of c.in_ok-places.places.items) = rw c.deref.ensures.value at (c.offsets_fit.ensures.0 c.if-not-offsets_fit.false) in
    standard_legal s c.known-records.result c.in_ok-places.places.items c.requires.sound fits c.in_ok-places.ensures.standard begins
