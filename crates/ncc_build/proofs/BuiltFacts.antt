-- What a schema that was built keeps, outside its ghost fields.
use Rattle.std.proofs.Common.{◌≡◌, ◌≤◌, List, ap}
use Rattle.std.specs.List.{AllByRecursion-prop}
use Rattle.std.proofs.Math.Logic.{∥∥₁_elim}
use Rattle.std.proofs.Props.{props}
use Rattle.ncc_schema.specs.declared.schema.Schema.{Schema}
use Rattle.ncc_schema.specs.declared.schema.VarPlace.{VarPlace}
use Rattle.ncc_schema.specs.Header.{canon}
use Rattle.ncc_schema.specs.Schema.{places_of}
use Rattle.ncc_layout.specs.Plans.{known, IsStandard}
use Rattle.ncc_layout.specs.Sizes.{rounded, room}
use Rattle.ncc_layout.specs.Standard.{size_limit, FitsVersion}
use Rattle.ncc_build.specs.File.{IsWritable, header_of}

pub fits_of : (s : Schema) → ∥ IsWritable s ∥₁ → FitsVersion s (known s.count)
fits_of s writable = record {
  none_too_large = record {
    each = ∥∥₁_elim writable (AllByRecursion-prop (λ x. rounded s.dims x ≤ room) (λ x. hlevel props) s.vars) (λ (f : IsWritable s). f.fits.none_too_large.each);
    together = ∥∥₁_elim writable (hlevel props) (λ (f : IsWritable s). f.fits.none_too_large.together);
  };
  words = ∥∥₁_elim writable (AllByRecursion-prop (λ x. rounded s.dims x ≤ size_limit s.version) (λ x. hlevel props) s.vars) (λ (f : IsWritable s). f.fits.words);
  file = ∥∥₁_elim writable (hlevel props) (λ (f : IsWritable s). f.fits.file);
}

-- the header with the places that are kept
pub header_is : (s : Schema) (places : List VarPlace) → ∥ IsStandard s places ∥₁ → canon s (places_of places) ≡ header_of s
header_is s places standard = ∥∥₁_elim standard (hlevel props) (λ (st : IsStandard s places). ap (canon s) st.places_are)
