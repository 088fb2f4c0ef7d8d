-- How long a file is.
use Rattle.std.proofs.Common.{◌≡◌, ℕ, ◌+◌, ◌*◌, Bool, true, false, cond, not, List, [], ◌∷◌, ◌++◌, map, length, refl, sym, ap, ap₂, ◌∙◌, arith, length-append}
use Rattle.std.specs.Prelude.{filter, sum_by, ◌==◌, ◌&&◌}
use Rattle.std.specs.List.{AllByRecursion, flat_map}
use Rattle.std.proofs.lemmas.Bool.{eqb-true, ne_eqb, not-true}
use Rattle.std.proofs.lemmas.List.{length-map, nil_from_length}
use Rattle.std.proofs.lemmas.List.Sums.{sum_by-cons}
use Rattle.ncc_values.specs.Values.{bytes_of}
use Rattle.ncc_values.specs.declared.values.Values.{Values}
use Rattle.ncc_schema.specs.declared.schema.Dim.{Dim}
use Rattle.ncc_schema.specs.declared.schema.Schema.{Schema}
use Rattle.ncc_schema.specs.declared.schema.Var.{Var}
use Rattle.ncc_schema.specs.Schema.{is_record_var}
use Rattle.ncc_schema.specs.Names.{no_place, header_length, unplaced}
use Rattle.ncc_schema.proofs.Sizes.{length-canon}
use Rattle.ncc_layout.specs.Sizes.{up, slab, rounded, record_vars, record_sum, record_bytes, record_size_of}
use Rattle.ncc_layout.specs.Standard.{standard_places, fixed_sum, file_length}
use Rattle.ncc_layout.specs.Plans.{known}
use Rattle.ncc_build.specs.Dataset.{fixed_vars, Dataset, AreSlabsOf, IsDataset}
use Rattle.ncc_build.specs.File.{padding_bytes, header_of, file_of}
use Rattle.ncc_layout.proofs.StandardPlaces.{length-standard_from}
use Rattle.ncc_write.proofs.Slabs.{length_slab}
use Rattle.ncc_write.specs.Records.{with_padding, in_turn, bytes_of_record, whole_size}
use Rattle.ncc_write.proofs.Parts.{fixed_part, records_part, file_parts}
use Rattle.ncc_write.proofs.Paddings.{padding_by, length_padding}

-- ---- the header

pub length_header : (s : Schema) → length (header_of s) ≡ header_length s
length_header s = length-canon s (standard_places s) (length-standard_from s 0 s.vars)
    ∙ sym (length-canon s (unplaced s.vars) (length-map s.vars (λ x. no_place)))

-- ---- slabs one after the other

pub length_whole : (s : Schema) (x : Var) (values : Values) → length (bytes_of values) ≡ slab s.dims x
    → length (with_padding s (x, values)) ≡ whole_size s x
length_whole s x values long = length-append (bytes_of values) (padding_bytes s x)
    ∙ ap₂ (λ (m n : ℕ). m + n) long (length_padding s x)

pub length_in_turn : (s : Schema) (vars : List Var) (values : List Values) → AreSlabsOf s.dims vars values
    → length (in_turn s vars values) ≡ sum_by (whole_size s) vars
length_in_turn s [] [] h = refl
length_in_turn s [] (v ∷ values) h = absurd h
length_in_turn s (x ∷ vars) [] h = absurd h
length_in_turn s (x ∷ vars) (v ∷ values) h =
    length-append (with_padding s (x, v)) (in_turn s vars values)
    ∙ ap₂ (λ (m n : ℕ). m + n) (length_whole s x v (length_slab s.dims x v h.0)) (length_in_turn s vars values h.1)
    ∙ sym (sum_by-cons (whole_size s) x vars)

-- ---- sums

-- the sums of two sizes that agree where the test passes
agree_first : (p : Var → Bool) (f g : Var → ℕ) (x : Var) (xs ys : List Var) (t : Bool) → (t ≡ true → f x ≡ g x)
    → sum_by f xs ≡ sum_by g xs → sum_by f (cond t (x ∷ xs) xs) ≡ sum_by g (cond t (x ∷ xs) xs)
agree_first p f g x xs ys true here rest = omega (arith, sum_by-cons f x xs, sum_by-cons g x xs, here refl, rest)
agree_first p f g x xs ys false here rest = rest

sums_agree : (p : Var → Bool) (f g : Var → ℕ) → ((x : Var) → p x ≡ true → f x ≡ g x) → (xs : List Var)
    → sum_by f (filter p xs) ≡ sum_by g (filter p xs)
sums_agree p f g same [] = refl
sums_agree p f g same (x ∷ xs) = agree_first p f g x (filter p xs) xs (p x) (same x) (sums_agree p f g same xs)

lone_fixed : (a b : Bool) → not a ≡ true → (a && b) ≡ false
lone_fixed a b h = ap (λ (t : Bool). t && b) (not-true a h)

-- of fixed variables, the sizes are rounded
pub fixed_whole : (s : Schema) (vars : List Var) → sum_by (whole_size s)
    (fixed_vars s.dims vars) ≡ fixed_sum s.dims vars
fixed_whole s vars = sums_agree (λ x. not (is_record_var s.dims x)) (whole_size s) (rounded s.dims) (λ x fixed.
    ap (λ (t : Bool). slab s.dims x + padding_by (slab s.dims x) t)
    (lone_fixed (is_record_var s.dims x) (length (record_vars s.dims s.vars) == 1) fixed)) vars

-- of record variables, where there is one or there are more
abbrev size_by : List Dim → (lone : Bool) → Var → ℕ
size_by dims lone x = slab dims x + padding_by (slab dims x) lone

record_whole : (s : Schema) (vars : List Var) → sum_by (whole_size s) (record_vars s.dims vars) ≡ sum_by
    (size_by s.dims (length (record_vars s.dims s.vars) == 1)) (record_vars s.dims vars)
record_whole s vars = sums_agree (is_record_var s.dims) (whole_size s)
    (size_by s.dims (length (record_vars s.dims s.vars) == 1)) (λ x kind.
    ap (λ (t : Bool). size_by s.dims (t && (length (record_vars s.dims s.vars) == 1)) x) kind) vars

sum_of_slabs : (dims : List Dim) (rs : List Var) → sum_by (rounded dims) rs ≡ sum_by up (map (slab dims) rs)
sum_of_slabs dims [] = refl
sum_of_slabs dims (x ∷ rs) = sum_by-cons (rounded dims) x rs
    ∙ ap (λ (n : ℕ). rounded dims x + n) (sum_of_slabs dims rs)
    ∙ sym (sum_by-cons up (slab dims x) (map (slab dims) rs))

record_is : (dims : List Dim) (rs : List Var) → sum_by (size_by dims (length rs == 1)) rs ≡ record_bytes
    (map (slab dims) rs)
record_is dims [] = refl
record_is dims (x ∷ []) = omega (arith, sum_by-cons (size_by dims true) x [])
record_is dims (x ∷ y ∷ rs) =
    let more : (length (x ∷ y ∷ rs) == 1) ≡ false = ne_eqb (length (x ∷ y ∷ rs)) 1 (λ e. omega (arith, e)) in
    ap (λ (t : Bool). sum_by (size_by dims t) (x ∷ y ∷ rs)) more ∙ sum_of_slabs dims (x ∷ y ∷ rs)

pub one_record_is : (s : Schema) → sum_by (whole_size s) (record_vars s.dims s.vars) ≡ record_size_of s
one_record_is s = record_whole s s.vars ∙ record_is s.dims (record_vars s.dims s.vars)

-- ---- the record variables before one

before_by : (dims : List Dim) (front : List Var) (x : Var) (after : List Var) (lone : Bool)
    → (length (front ++ x ∷ after) == 1) ≡ lone → sum_by (size_by dims lone) front ≡ sum_by (rounded dims) front
before_by dims front x after false is = refl
before_by dims front x after true is =
    let none : front ≡ [] = nil_from_length front (omega
    (arith, eqb-true (length (front ++ x ∷ after)) 1 is, length-append front (x ∷ after))) in
    ap (sum_by (size_by dims true)) none ∙ ap (sum_by (rounded dims)) (sym none)

pub records_before : (s : Schema) (front : List Var) (x : Var) (after : List Var)
    → record_vars s.dims s.vars ≡ record_vars s.dims front ++ x ∷ after
    → sum_by (whole_size s) (record_vars s.dims front) ≡ record_sum s.dims front
records_before s front x after split =
    let rs = record_vars s.dims front in
    record_whole s front
    ∙ ap (λ (t : Bool). sum_by (size_by s.dims t) rs) (ap (λ (l : List Var). length l == 1) split)
    ∙ before_by s.dims rs x after (length (rs ++ x ∷ after) == 1) refl

-- ---- records

pub length_records : (s : Schema) (records : List (List Values))
    → AllByRecursion (AreSlabsOf s.dims (record_vars s.dims s.vars)) records
    → length (flat_map (bytes_of_record s) records) ≡ length records * record_size_of s
length_records s [] all = omega arith
length_records s (values ∷ records) all =
    let both = length-append (bytes_of_record s values) (flat_map (bytes_of_record s) records) in
    let one : length (bytes_of_record s values) ≡ record_size_of s =
    length_in_turn s (record_vars s.dims s.vars) values all.0 ∙ one_record_is s in
    omega (arith, both, one, length_records s records all.1)

-- ---- the file

pub file_length_is : (d : Dataset) → IsDataset d → length (file_of d) ≡ file_length d.schema (known d.schema.count)
file_length_is d is =
    let s = d.schema in
    let fixed : length (fixed_part d) ≡ fixed_sum s.dims s.vars =
    length_in_turn s (fixed_vars s.dims s.vars) d.fixed is.fixed ∙ fixed_whole s s.vars in
    let records : length (records_part d) ≡ known s.count * record_size_of s = length_records s d.records is.records
    ∙ ap (λ (n : ℕ). n * record_size_of s) is.records_number in
    let parts : length (file_of d) ≡ length (header_of s) + (length (fixed_part d) + length (records_part d)) =
    ap (λ (l : List ℕ). length l) (file_parts d is) ∙ length-append (header_of s) (fixed_part d ++ records_part d)
    ∙ ap (λ (n : ℕ). length (header_of s) + n) (length-append (fixed_part d) (records_part d)) in
    omega (arith, parts, fixed, records, length_header s)
