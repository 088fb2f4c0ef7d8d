-- Schemas that the version can tell.
use Rattle.std.proofs.Common.{◌≡◌, ℕ, suc, ◌+◌, ◌*◌, ◌^◌, ◌<◌, ◌≤◌, List, [], ◌∷◌, map, sym, ap, subst, arith}
use Rattle.std.specs.Prelude.{Result, Ok, Err, IsErrAnd, MatchResult}
use Rattle.std.specs.List.{AllByRecursion}
use Rattle.ncc_values.specs.Version.{count_width_of}
use Rattle.ncc_values.specs.declared.version.Version.{Version}
use Rattle.ncc_values.specs.declared.version.Version.TheVariants.{V1, V2, V5}
use Rattle.ncc_schema.specs.declared.schema.Schema.{Schema}
use Rattle.ncc_schema.specs.declared.schema.Var.{Var}
use Rattle.ncc_schema.specs.declared.schema.VarPlace.{VarPlace}
use Rattle.ncc_schema.specs.Schema.{offset_limit, places_of, Sound, LegalPlace, Legal}
use Rattle.ncc_schema.specs.Names.{capped}
use Rattle.ncc_layout.specs.declared.fault.SizeError.{SizeError}
use Rattle.ncc_layout.specs.declared.fault.SizeError.TheVariants as size_error
use Rattle.ncc_layout.specs.declared.plan_fault.PlanFault.{PlanFault}
use Rattle.ncc_layout.specs.declared.size_list.Sizes.{Sizes}
use Rattle.ncc_layout.specs.Sizes.{rounded, NoneTooLarge, FirstTooLarge, AreSizes, IsSizes}
use Rattle.ncc_layout.specs.Standard.{size_limit, standard_from, standard_places, file_length, FitsVersion, OffsetsFit}
use Rattle.ncc_layout.specs.Plans.{fixed_end, plan_fault, PlanFails, IsStandard}
use Rattle.ncc_layout.proofs.OneFault.{fit_take}
use Rattle.ncc_layout.proofs.StandardPlaces.{length-standard_from, word_is}

-- ---- lists

all_of_mapped : {A : Type 0} (P : ℕ → Type 0) (f : A → ℕ) (xs : List A) → AllByRecursion P (map f xs) → AllByRecursion (λ x. P (f x)) xs
all_of_mapped P f [] all = tt
all_of_mapped P f (x ∷ xs) all = (all.0, all_of_mapped P f xs all.1)

all_mapped : {A : Type 0} (P : ℕ → Type 0) (f : A → ℕ) (xs : List A) → AllByRecursion (λ x. P (f x)) xs → AllByRecursion P (map f xs)
all_mapped P f [] all = tt
all_mapped P f (x ∷ xs) all = (all.0, all_mapped P f xs all.1)

-- ---- sizes that are too large

pub not_fit : (s : Schema) (n : ℕ) → FirstTooLarge s n → NoneTooLarge s.dims s.vars → ⊥
not_fit s n first fit = first.here (fit_take s.dims s.vars (n + 1) fit)

pub size_fails : {T : Type 0} (P : T → Type 0) (s : Schema) (records : ℕ) (e : SizeError) (r : Result T PlanFault) → IsErrAnd r (λ f. f ≡ plan_fault e) → IsSizes s (Err e) → MatchResult r P (PlanFails s records)
size_fails P s records e (Ok x) is sizes = absurd is
size_fails P s records (size_error.TooLarge n) (Err f) is sizes = subst (PlanFails s records) (sym is) (λ fits. not_fit s n sizes fits.none_too_large)
size_fails P s records size_error.Memory (Err f) is sizes = subst (PlanFails s records) (sym is) tt

-- ---- words and the length of the file

module _ (s : Schema) (z : Sizes) (sizes : AreSizes s z) (records : ℕ) where
  pub words_of : FitsVersion s records → AllByRecursion (λ n. n ≤ size_limit s.version) z.rounded
  words_of fits = subst (AllByRecursion (λ n. n ≤ size_limit s.version)) (sym sizes.rounded) (all_mapped (λ n. n ≤ size_limit s.version) (rounded s.dims) s.vars fits.words)

  length_is : fixed_end s s.vars + records * z.record_size ≡ file_length s records
  length_is = ap (λ n. fixed_end s s.vars + records * n) sizes.record_size

  capped_length : (m n : ℕ) → capped (capped m + capped n) < 2 ^ 63 → m + n < 2 ^ 63
  capped_length m n h = omega arith

  small_length : (m n : ℕ) → m + n < 2 ^ 63 → capped (capped m + capped n) < 2 ^ 63
  small_length m n h = omega arith

  pub fits_from : AllByRecursion (λ n. n ≤ size_limit s.version) z.rounded → capped (capped (fixed_end s s.vars) + capped (records * z.record_size)) < 2 ^ 63 → FitsVersion s records
  fits_from words file = record {
    none_too_large = sizes.none_too_large;
    words = all_of_mapped (λ n. n ≤ size_limit s.version) (rounded s.dims) s.vars (subst (AllByRecursion (λ n. n ≤ size_limit s.version)) sizes.rounded words);
    file = subst (λ n. n < 2 ^ 63) length_is (capped_length (fixed_end s s.vars) (records * z.record_size) file);
  }

  pub file_of : FitsVersion s records → capped (capped (fixed_end s s.vars) + capped (records * z.record_size)) < 2 ^ 63
  file_of fits = small_length (fixed_end s s.vars) (records * z.record_size) (subst (λ n. n < 2 ^ 63) (sym length_is) fits.file)

-- ---- the standard placement is legal

small_word : (v : Version) (n : ℕ) → n ≤ size_limit v → n < 256 ^ count_width_of v
small_word V1 n h = omega arith
small_word V2 n h = omega arith
small_word V5 n h = omega arith

places_legal : (s : Schema) (n : ℕ) (vars : List Var) → AllByRecursion (λ x. rounded s.dims x ≤ size_limit s.version) vars → AllByRecursion (λ p. p.begin < offset_limit s.version) (standard_from s n vars) → AllByRecursion (LegalPlace s.version) (standard_from s n vars)
places_legal s n [] words begins = tt
places_legal s n (x ∷ vars) words begins = (
  record {
    vsize = subst (λ w. w < 256 ^ count_width_of s.version) (word_is s.version (rounded s.dims x) words.0) (small_word s.version (rounded s.dims x) words.0);
    begin = begins.0;
  },
  places_legal s (suc n) vars words.1 begins.1,
)

pub legal_places : (s : Schema) (records : ℕ) → Sound s → FitsVersion s records → OffsetsFit s → Legal s (standard_places s)
legal_places s records sound fits offsets = record {
  sound = sound;
  number = length-standard_from s 0 s.vars;
  placed = places_legal s 0 s.vars fits.words offsets;
}

pub standard_legal : (s : Schema) (records : ℕ) (places : List VarPlace) → Sound s → FitsVersion s records → IsStandard s places → AllByRecursion (λ p. p.begin < offset_limit s.version) (places_of places) → Legal s (places_of places)
standard_legal s records places sound fits standard begins =
    let offsets : OffsetsFit s = subst (AllByRecursion (λ p. p.begin < offset_limit s.version)) standard.places_are begins in
    subst (Legal s) (sym standard.places_are) (legal_places s records sound fits offsets)
