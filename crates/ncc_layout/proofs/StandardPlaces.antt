-- The standard places and the begin fields, with one variable more.
use Rattle.std.proofs.Common.{◌≡◌, ℕ, suc, ◌+◌, ◌-◌, ◌^◌, ◌<◌, ◌≤◌, Bool, List, [], ◌∷◌, ◌++◌, map, length, take, drop, get_or, refl, sym, ap, ap₂, subst, ◌∙◌, arith}
use Rattle.std.specs.Prelude.{filter, sum_by, not, if◌then◌else◌}
use Rattle.std.proofs.lemmas.Bool.{le-ltb}
use Rattle.std.proofs.lemmas.List.{take-append-drop, take_more, length-map, length-take-le, map-append}
use Rattle.std.proofs.lemmas.List.Elements.{filter-append}
use Rattle.std.proofs.lemmas.List.Sums.{sum_by-append}
use Rattle.ncc_values.specs.Version.{offset_width_of}
use Rattle.ncc_values.specs.declared.version.Version.{Version}
use Rattle.ncc_values.specs.declared.version.Version.TheVariants.{V1, V2, V5}
use Rattle.ncc_schema.specs.declared.schema.Dim.{Dim}
use Rattle.ncc_schema.specs.declared.schema.Schema.{Schema}
use Rattle.ncc_schema.specs.declared.schema.Var.{Var}
use Rattle.ncc_schema.specs.declared.schema.VarPlace.{VarPlace}
use Rattle.ncc_schema.specs.Schema.{place_of, places_of, is_record_var}
use Rattle.ncc_schema.specs.Names.{capped, list_size, vars_at, begin_at, no_place, unplaced, canon_unplaced, header_length}
use Rattle.ncc_schema.proofs.Sizes.{length-canon, before-placed, first_size}
use Rattle.ncc_layout.specs.Sizes.{rounded, record_sum}
use Rattle.ncc_layout.specs.Standard.{most_vsize, past_vsize, short_word, size_limit, vsize_word, fixed_sum, standard_place, standard_from, standard_places, begin_fields_from, FitsVersion}
use Rattle.ncc_layout.specs.Plans.{header_end, fixed_end, slabs_end, AreEnds}
use Rattle.ncc_layout.specs.declared.planning.Ends.{Ends}

-- ---- the first variables take no more than all

sum_first : (p : Var → Bool) (f : Var → ℕ) (n : ℕ) (vars : List Var) → sum_by f (filter p (take n vars)) ≤ sum_by f (filter p vars)
sum_first p f n vars =
    let split = ap (λ ys. sum_by f (filter p ys)) (sym (take-append-drop n vars)) ∙ ap (sum_by f) (filter-append p (take n vars) (drop n vars)) ∙ sum_by-append f (filter p (take n vars)) (filter p (drop n vars)) in
    omega (arith, split)

pub record_sum_first : (dims : List Dim) (n : ℕ) (vars : List Var) → record_sum dims (take n vars) ≤ record_sum dims vars
record_sum_first dims n vars = sum_first (is_record_var dims) (rounded dims) n vars

fixed_sum_first : (dims : List Dim) (n : ℕ) (vars : List Var) → fixed_sum dims (take n vars) ≤ fixed_sum dims vars
fixed_sum_first dims n vars = sum_first (λ x. not (is_record_var dims x)) (rounded dims) n vars

header_first : (s : Schema) (n : ℕ) → header_end s (take n s.vars) ≤ header_length s
header_first s n =
    let all : header_length s ≡ header_end s s.vars = length-canon s (unplaced s.vars) (length-map s.vars (λ x. no_place)) in
    subst (λ m. header_end s (take n s.vars) ≤ m) (sym all) (omega (arith, first_size (canon_unplaced s.version) s.vars n))

-- what stays below some 64-bit number isn't capped
uncapped : (e n total : ℕ) → e ≡ capped n → n ≤ total → total < 2 ^ 63 → e ≡ n
uncapped e n total is below small = omega arith

-- ---- lists with one variable more

pub length-standard_from : (s : Schema) (n : ℕ) (vars : List Var) → length (standard_from s n vars) ≡ length vars
length-standard_from s n [] = refl
length-standard_from s n (x ∷ vars) = ap suc (length-standard_from s (suc n) vars)

standard_from_more : (s : Schema) (n : ℕ) (vars : List Var) (x : Var) → standard_from s n (vars ++ x ∷ []) ≡ standard_from s n vars ++ standard_place s (n + length vars) x ∷ []
standard_from_more s n [] x =
    let same : n ≡ n + 0 = omega arith in
    ap (λ k. standard_place s k x ∷ []) same
standard_from_more s n (y ∷ vars) x =
    let same : suc n + length vars ≡ n + suc (length vars) = omega arith in
    ap (λ l. standard_place s n y ∷ l) (standard_from_more s (suc n) vars x ∙ ap (λ k. standard_from s (suc n) vars ++ standard_place s k x ∷ []) same)

begin_fields_from_more : (s : Schema) (n : ℕ) (vars : List Var) (x : Var) → begin_fields_from s n (vars ++ x ∷ []) ≡ begin_fields_from s n vars ++ begin_at s (standard_places s) (n + length vars) ∷ []
begin_fields_from_more s n [] x =
    let same : n ≡ n + 0 = omega arith in
    ap (λ k. begin_at s (standard_places s) k ∷ []) same
begin_fields_from_more s n (y ∷ vars) x =
    let same : suc n + length vars ≡ n + suc (length vars) = omega arith in
    ap (λ l. begin_at s (standard_places s) n ∷ l) (begin_fields_from_more s (suc n) vars x ∙ ap (λ k. begin_fields_from s (suc n) vars ++ begin_at s (standard_places s) k ∷ []) same)

-- ---- one variable

short_word_is : (n : ℕ) → n ≤ most_vsize → n ≡ short_word n
short_word_is n small = ap (λ b. if b then past_vsize else n) (sym (le-ltb most_vsize n small))

pub word_is : (v : Version) (n : ℕ) → n ≤ size_limit v → n ≡ vsize_word v n
word_is V1 n small = short_word_is n small
word_is V2 n small = short_word_is n small
word_is V5 n small = refl

module _ (s : Schema) (records : ℕ) (fits : FitsVersion s records) (n : ℕ) (x : Var) (there : n < length s.vars) (is : x ≡ get_or s.vars n x) where
  -- the variables before it
  abbrev before : List Var
  before = take n s.vars

  pub with_it : take (n + 1) s.vars ≡ before ++ x ∷ []
  with_it = take_more s.vars n x there ∙ ap (λ y. before ++ y ∷ []) (sym is)

  number_is : n ≡ 0 + length before
  number_is = omega (arith, length-take-le n s.vars (omega arith))

  fixed_is : (e : Ends) → AreEnds s before e → e.fixed ≡ fixed_end s before
  fixed_is e ends = omega (arith, ends.fixed, fits.file, fixed_sum_first s.dims n s.vars)

  slabs_is : (e : Ends) → AreEnds s before e → e.slabs ≡ slabs_end s before
  slabs_is e ends = omega (arith, ends.slabs, fits.file, fits.none_too_large.together, record_sum_first s.dims n s.vars)

  pub place_is : (e : Ends) → AreEnds s before e → (vsize begin : ℕ) → vsize ≡ vsize_word s.version (rounded s.dims x) → begin ≡ (if is_record_var s.dims x then e.slabs else e.fixed) → record { vsize = vsize; begin = begin } ≡ standard_place s n x
  place_is e ends vsize begin size_is begin_is =
      let ends_are = ap₂ (λ a b. if is_record_var s.dims x then a else b) (slabs_is e ends) (fixed_is e ends) in
      ap₂ (λ (a b : ℕ). record { vsize = a; begin = b }) size_is (begin_is ∙ ends_are)

  pub field_is : (e : Ends) → AreEnds s (before ++ x ∷ []) e → e.header - offset_width_of s.version ≡ begin_at s (standard_places s) n
  field_is e ends =
      let v = s.version in
      let number : n + 1 ≡ suc n = omega arith in
      let vars : before ++ x ∷ [] ≡ take (suc n) s.vars = sym with_it ∙ ap (λ k. take k s.vars) number in
      let header = uncapped e.header (header_end s (take (suc n) s.vars)) (header_length s) (ends.header ∙ ap (λ xs. capped (header_end s xs)) vars) (header_first s (suc n)) (omega (arith, fits.file)) in
      let placed = before-placed v (suc n) s.vars (standard_places s) (length-standard_from s 0 s.vars) in
      ap (λ k. k - offset_width_of v) (header ∙ ap (λ k. vars_at s + list_size v + k) (sym placed))

  -- ---- the places so far

  pub places_more : (old new : List VarPlace) (p : VarPlace) → places_of old ≡ standard_from s 0 before → new ≡ old ++ p ∷ [] → place_of p ≡ standard_place s n x → places_of new ≡ standard_from s 0 (take (n + 1) s.vars)
  places_more old new p so_far pushed is_it =
      ap places_of pushed ∙ map-append place_of old (p ∷ []) ∙ ap₂ (λ l q. l ++ q ∷ []) so_far is_it
      ∙ ap (λ k. standard_from s 0 before ++ standard_place s k x ∷ []) number_is ∙ sym (standard_from_more s 0 before x) ∙ ap (standard_from s 0) (sym with_it)

  pub fields_more : (old new : List VarPlace) (p : VarPlace) → map (λ q. q.begin_at) old ≡ begin_fields_from s 0 before → new ≡ old ++ p ∷ [] → p.begin_at ≡ begin_at s (standard_places s) n → map (λ q. q.begin_at) new ≡ begin_fields_from s 0 (take (n + 1) s.vars)
  fields_more old new p so_far pushed is_it =
      ap (map (λ q. q.begin_at)) pushed ∙ map-append (λ q. q.begin_at) old (p ∷ []) ∙ ap₂ (λ l q. l ++ q ∷ []) so_far is_it
      ∙ ap (λ k. begin_fields_from s 0 before ++ begin_at s (standard_places s) k ∷ []) number_is ∙ sym (begin_fields_from_more s 0 before x) ∙ ap (begin_fields_from s 0) (sym with_it)
