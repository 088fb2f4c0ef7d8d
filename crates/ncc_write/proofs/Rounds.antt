-- The slabs of a schema, round after round.
use Rattle.std.proofs.Common.{◌≡◌, ℕ, zero, suc, ◌+◌, ◌*◌, ◌<◌, ◌≤◌, Bool, true, false, cond, not, List, [], ◌∷◌, map, length, refl, sym, ap, ◌∙◌, arith}
use Rattle.std.specs.Prelude.{filter}
use Rattle.std.specs.List.{AllByRecursion, flat_map, range_with_len}
use Rattle.std.specs.Prelude.{sum_by, ◌^◌}
use Rattle.std.proofs.lemmas.List.{length-append, length-map}
use Rattle.std.proofs.lemmas.List.Sums.{sum_by-cons}
use Rattle.std.proofs.lemmas.Nat.{mul-le}
use Rattle.ncc_values.specs.declared.version.Version.{Version}
use Rattle.ncc_schema.specs.declared.schema.Dim.{Dim}
use Rattle.ncc_schema.specs.declared.schema.Schema.{Schema}
use Rattle.ncc_schema.specs.declared.schema.Var.{Var}
use Rattle.ncc_schema.specs.Schema.{is_record_var, LegalVar, Sound}
use Rattle.ncc_layout.specs.Sizes.{slab, rounded, up, record_vars, record_bytes, record_size_of}
use Rattle.ncc_layout.specs.Standard.{fixed_sum, FitsVersion}
use Rattle.ncc_layout.specs.Plans.{known}
use Rattle.ncc_layout.proofs.Membership.{all_filter}
use Rattle.ncc_layout.proofs.Positive.{slab_positive}
use Rattle.ncc_build.specs.Dataset.{Slab, slabs_from, fixed_vars, fixed_slabs, record_slabs, slabs_of}
use Rattle.ncc_write.specs.VarSlabs.{slabs_of_kind}
use Rattle.ncc_write.proofs.Slabs.{vars_of_fixed, vars_of_record}

-- the record variables, or the fixed ones
abbrev pub is_kind : Schema → (records : Bool) → Var → Bool
is_kind s true x = is_record_var s.dims x
is_kind s false x = not (is_record_var s.dims x)

abbrev pub kind_slabs : Schema → (records : Bool) → (number : ℕ) → List Var → List Slab
kind_slabs s b n vars = filter (λ x. is_kind s b x.var) (slabs_from 0 n vars)

pub all_of_kind : (s : Schema) (b : Bool) → kind_slabs s b 0 s.vars ≡ slabs_of_kind s b
all_of_kind s true = refl
all_of_kind s false = refl

-- ---- how many slabs there are

pub round_length : (s : Schema) (r : ℕ) → length (record_slabs s r) ≡ length (record_vars s.dims s.vars)
round_length s r = sym (length-map (record_slabs s r) (λ (b : Slab). b.var)) ∙ ap length (vars_of_record s r)

pub fixed_length : (s : Schema) → length (fixed_slabs s) ≡ length (fixed_vars s.dims s.vars)
fixed_length s = sym (length-map (fixed_slabs s) (λ (b : Slab). b.var)) ∙ ap length (vars_of_fixed s)

pub length_rounds : (s : Schema) (start n : ℕ) → length (flat_map (record_slabs s) (range_with_len start n)) ≡ n * length (record_slabs s 0)
length_rounds s start zero = omega arith
length_rounds s start (suc n) =
    let both = length-append (record_slabs s start) (flat_map (record_slabs s) (range_with_len (start + 1) n)) in
    omega (arith, both, length_rounds s (start + 1) n, round_length s start, round_length s 0)

pub number_of_slabs : (s : Schema) → length (slabs_of s) ≡ length (fixed_slabs s) + known s.count * length (record_slabs s 0)
number_of_slabs s =
    length-append (fixed_slabs s) (flat_map (record_slabs s) (range_with_len 0 (known s.count))) ∙ ap (λ (n : ℕ). length (fixed_slabs s) + n) (length_rounds s 0 (known s.count))

-- ---- they are numbers of 64 bits

sum_kept : {A : Type 0} (f : A → ℕ) (x : A) (xs : List A) (b : Bool) → 0 < f x → length xs ≤ sum_by f xs → length (cond b (x ∷ xs) xs) ≤ sum_by f (cond b (x ∷ xs) xs)
sum_kept f x xs true some rest = omega (arith, sum_by-cons f x xs, some, rest)
sum_kept f x xs false some rest = rest

sum_above : {A : Type 0} (f : A → ℕ) (p : A → Bool) (xs : List A) → AllByRecursion (λ x. 0 < f x) xs → length (filter p xs) ≤ sum_by f (filter p xs)
sum_above f p [] all = omega arith
sum_above f p (x ∷ xs) all = sum_kept f x (filter p xs) (p x) all.0 (sum_above f p xs all.1)

all_legal : (Q : Var → Type 0) (v : Version) (dims : List Dim) → ((x : Var) → LegalVar v dims x → Q x) → (vars : List Var) → AllByRecursion (LegalVar v dims) vars → AllByRecursion Q vars
all_legal Q v dims f [] all = tt
all_legal Q v dims f (x ∷ vars) all = (f x all.0, all_legal Q v dims f vars all.1)

sum_up : (sizes : List ℕ) → AllByRecursion (λ n. 0 < n) sizes → length sizes ≤ sum_by up sizes
sum_up [] all = omega arith
sum_up (n ∷ sizes) all = omega (arith, sum_by-cons up n sizes, all.0, sum_up sizes all.1)

record_above : (sizes : List ℕ) → AllByRecursion (λ n. 0 < n) sizes → length sizes ≤ record_bytes sizes
record_above [] all = omega arith
record_above (n ∷ []) all = omega (arith, all.0)
record_above (m ∷ n ∷ sizes) all = sum_up (m ∷ n ∷ sizes) all

all_sizes : (dims : List Dim) (vars : List Var) → AllByRecursion (λ x. 0 < slab dims x) vars → AllByRecursion (λ n. 0 < n) (map (slab dims) vars)
all_sizes dims [] all = tt
all_sizes dims (x ∷ vars) all = (all.0, all_sizes dims vars all.1)

pub have_bytes : (s : Schema) → Sound s → AllByRecursion (λ x. 0 < slab s.dims x) s.vars
have_bytes s sound = all_legal (λ x. 0 < slab s.dims x) s.version s.dims (λ x legal. slab_positive s.dims x legal.dimids) s.vars sound.vars

module _ (s : Schema) (n : ℕ) (sound : Sound s) (fits : FitsVersion s n) where
  fixed_below : length (fixed_slabs s) ≤ fixed_sum s.dims s.vars
  fixed_below =
      let each : AllByRecursion (λ x. 0 < rounded s.dims x) s.vars = all_legal (λ x. 0 < rounded s.dims x) s.version s.dims (λ x legal. omega (arith, slab_positive s.dims x legal.dimids)) s.vars sound.vars in
      omega (arith, fixed_length s, sum_above (rounded s.dims) (λ x. not (is_record_var s.dims x)) s.vars each)

  record_below : length (record_slabs s 0) ≤ record_size_of s
  record_below =
      let vars = record_vars s.dims s.vars in
      omega (
        arith,
        round_length s 0,
        record_above (map (slab s.dims) vars) (all_sizes s.dims vars (all_filter (λ x. 0 < slab s.dims x) (is_record_var s.dims) s.vars (have_bytes s sound))),
        length-map vars (slab s.dims),
      )

  pub slabs_fit : length (fixed_slabs s) + n * length (record_slabs s 0) < 2 ^ 63
  slabs_fit = omega (arith, fits.file, fixed_below, mul-le n (length (record_slabs s 0)) n (record_size_of s) (omega arith) record_below)
