-- The parts of a record: one variable after the other.
use Rattle.std.proofs.Common.{◌≡◌, ℕ, zero, suc, ◌+◌, ◌*◌, ◌<◌, Bool, true, false, cond, Some, None, List, [], ◌∷◌, ◌++◌, length, take, drop, get_or, replicate, refl, sym, ap, subst, ◌∙◌, arith, append_assoc}
use Rattle.std.specs.Prelude.{◌==◌, ◌&&◌}
use Rattle.std.specs.List.{AllByRecursion, concat}
use Rattle.std.proofs.Math.Seq.{take-length}
use Rattle.std.proofs.lemmas.Bool.{eqb-true}
use Rattle.std.proofs.lemmas.List.{get_or-map, length-map}
use Rattle.ncc_values.specs.Values.{AreInRange, bytes_of, count_of, no_values, type_of, values_of, with_bytes}
use Rattle.ncc_values.specs.declared.xtype.XType.{XType}
use Rattle.ncc_values.specs.declared.xtype.XType.TheVariants.{Byte, Char, Short, Int, Float, Double, UByte, UShort, UInt, Int64, UInt64}
use Rattle.ncc_values.specs.XType.{size_of}
use Rattle.ncc_values.specs.declared.values.Values.{Values}
use Rattle.ncc_values.proofs.ValuesLemmas.{length-bytes_of, with_bytes-append}
use Rattle.ncc_schema.specs.declared.schema.Dim.{Dim}
use Rattle.ncc_schema.specs.declared.schema.Schema.{Schema}
use Rattle.ncc_schema.specs.declared.schema.Var.{Var}
use Rattle.ncc_layout.specs.Elements.{no_var as no_place, var_at}
use Rattle.ncc_layout.specs.Placed.{vars_of}
use Rattle.ncc_schema.specs.Schema.{is_record_var}
use Rattle.ncc_layout.specs.Sizes.{slab, record_vars}
use Rattle.ncc_layout.specs.declared.placed_file.Placed.{Placed}
use Rattle.ncc_build.specs.Dataset.{AreSlabsOf, IsSlabOf, elements}
use Rattle.ncc_build.specs.Fill.{same_type}
use Rattle.ncc_write.specs.Holds.{no_slab}
use Rattle.ncc_write.specs.Records.{HasSizes, fits_slab, in_turn, with_padding, wrong_from}
use Rattle.ncc_write.proofs.ManyFills.{fills_join}
use Rattle.ncc_write.proofs.Paddings.{type_is}
use Rattle.ncc_write.proofs.Pages.{length_copies}
use Rattle.ncc_write.specs.VarSlabs.{no_var}

-- the size of a placed variable's slab
pub slab_of_sizes : (s : Schema) (p : Placed) → HasSizes s p → (n : ℕ) → n < length s.vars
    → (var_at (vars_of p) n).extent.slab ≡ slab s.dims (get_or s.vars n no_var)
slab_of_sizes s p sizes n below =
    let many : length (vars_of p) ≡ length s.vars =
    sym (length-map (vars_of p) (λ x. x.extent.slab)) ∙ ap (λ (l : List ℕ). length l) sizes.slabs
    ∙ length-map s.vars (slab s.dims) in
    sym (get_or-map (λ x. x.extent.slab) (vars_of p) n no_place 0 (omega (arith, below, many)))
    ∙ ap (λ (l : List ℕ). get_or l n 0) sizes.slabs
    ∙ get_or-map (slab s.dims) s.vars n no_var 0 below

-- all of the values
pub all_values : (values : Values) (n : ℕ) → n ≡ count_of values
    → take (n * size_of (type_of values)) (drop (0 * size_of (type_of values)) (bytes_of values)) ≡ bytes_of values
all_values values n is =
    let none : 0 * size_of (type_of values) ≡ 0 = omega arith in
    ap (λ (m : ℕ). take (n * size_of (type_of values)) (drop m (bytes_of values))) none
    ∙ ap (λ (m : ℕ). take m (bytes_of values)) (ap (λ (m : ℕ). m * size_of (type_of values)) is
    ∙ sym (length-bytes_of values)) ∙ take-length (bytes_of values)

-- ---- one variable after the other

pub at_number : {A : Type 0} (xs : List A) (n : ℕ) (d : A) → n < length xs → drop n xs ≡ get_or xs n d ∷ drop (n + 1) xs
at_number [] n d below = absurd (omega (arith, below))
at_number (x ∷ xs) zero d below = refl
at_number (x ∷ xs) (suc n) d below =
    let same : suc (n + 1) ≡ suc n + 1 = omega arith in
    at_number xs n d (omega (arith, below)) ∙ ap (λ (m : ℕ). get_or xs n d ∷ drop m (x ∷ xs)) same

-- whatever stands for an item that isn't there
pub same_item : {A : Type 0} (xs : List A) (n : ℕ) (d x : A) → n < length xs → x ≡ get_or xs n x → get_or xs n d ≡ x
same_item xs n d x below is = there xs n d x below ∙ sym is
  where
    there : {A : Type 0} (xs : List A) (n : ℕ) (d x : A) → n < length xs → get_or xs n d ≡ get_or xs n x
    there [] n d x below = absurd (omega (arith, below))
    there (y ∷ xs) zero d x below = refl
    there (y ∷ xs) (suc n) d x below = there xs n d x (omega (arith, below))

-- a record variable more
pub more_vars : (s : Schema) (n : ℕ) (t : Bool) → n < length s.vars
    → is_record_var s.dims (get_or s.vars n no_var) ≡ t
    → record_vars s.dims (drop n s.vars)
    ≡ cond t (get_or s.vars n no_var ∷ record_vars s.dims (drop (n + 1) s.vars)) (record_vars s.dims (drop (n + 1) s.vars))
more_vars s n t below kind = ap (record_vars s.dims) (at_number s.vars n no_var below)
    ∙ ap (λ (b : Bool). cond b (get_or s.vars n no_var ∷ record_vars s.dims (drop (n + 1) s.vars))
    (record_vars s.dims (drop (n + 1) s.vars))) kind

-- the slab of the first of these
pub record FirstSlab (dims : List Dim) (x : Var) (vars : List Var) (slabs : List Values) (n : ℕ) : Type 0 where
  pub there : n < length slabs
  pub slab_is : IsSlabOf dims x (get_or slabs n no_slab)
  pub rest : AreSlabsOf dims vars (drop (n + 1) slabs)

pub first_slab : (dims : List Dim) (x : Var) (vars : List Var) (slabs : List Values) (n : ℕ)
    → AreSlabsOf dims (x ∷ vars) (drop n slabs) → FirstSlab dims x vars slabs n
first_slab dims x vars [] zero are = absurd are
first_slab dims x vars [] (suc n) are = absurd are
first_slab dims x vars (v ∷ slabs) zero are = record { there = omega arith; slab_is = are.0; rest = are.1 }
first_slab dims x vars (v ∷ slabs) (suc n) are =
    let first = first_slab dims x vars slabs n are in
    let same : suc (n + 1) ≡ suc n + 1 = omega arith in
    record {
      there = omega (arith, first.there);
      slab_is = first.slab_is;
      rest = subst (λ (m : ℕ). AreSlabsOf dims vars (drop m (v ∷ slabs))) same first.rest;
    }

-- a slab more in the bytes
pub bytes_more : (s : Schema) (vars rest : List Var) (x : Var) (slabs later : List Values) (v : Values)
    (old new all : List ℕ) → vars ≡ x ∷ rest → slabs ≡ v ∷ later → old ++ in_turn s vars slabs ≡ all
    → new ≡ old ++ with_padding s (x, v) → new ++ in_turn s rest later ≡ all
bytes_more s vars rest x slabs later v old new all vars_are slabs_are so_far more =
    ap (λ (l : List ℕ). l ++ in_turn s rest later) more
    ∙ append_assoc old (with_padding s (x, v)) (in_turn s rest later)
    ∙ ap (λ (l : List Values). old ++ in_turn s (x ∷ rest) l) (sym slabs_are)
    ∙ ap (λ (l : List Var). old ++ in_turn s l slabs) (sym vars_are)
    ∙ so_far

-- ---- judging

-- slabs after the last
pub wrong_past : (dims : List Dim) (vars : List Var) (slabs : List Values) (n : ℕ) → vars ≡ [] → n < length slabs
    → wrong_from dims n vars (drop n slabs) ≡ Some n
wrong_past dims vars slabs n none there =
    ap (λ (l : List Var). wrong_from dims n l (drop n slabs)) none
    ∙ ap (wrong_from dims n []) (at_number slabs n no_slab there)

slab_fits : (dims : List Dim) (x : Var) (v : Values) (same : Bool) → same_type (type_of v) x.xtype ≡ same
    → (same && (count_of v == elements dims x)) ≡ true → AreInRange v → IsSlabOf dims x v
slab_fits dims x v true same many range = record {
  xtype = type_is (type_of v) x.xtype same;
  number = eqb-true (count_of v) (elements dims x) many;
  range = range;
}
slab_fits dims x v false same many range = absurd (cc many)

by_fit : (dims : List Dim) (k : ℕ) (x : Var) (vars : List Var) (v : Values) (slabs : List Values) (t : Bool)
    → fits_slab dims x v ≡ t → AreInRange v → cond t (wrong_from dims (suc k) vars slabs) (Some k) ≡ None
    → (wrong_from dims (suc k) vars slabs ≡ None → AreSlabsOf dims vars slabs)
    → AreSlabsOf dims (x ∷ vars) (v ∷ slabs)
by_fit dims k x vars v slabs true fit range none rest =
    (slab_fits dims x v (same_type (type_of v) x.xtype) refl fit range, rest none)
by_fit dims k x vars v slabs false fit range none rest = absurd (cc none)

pub none_wrong : (dims : List Dim) (k : ℕ) (vars : List Var) (slabs : List Values) → AllByRecursion AreInRange slabs
    → wrong_from dims k vars slabs ≡ None → AreSlabsOf dims vars slabs
none_wrong dims k [] [] ranges none = tt
none_wrong dims k [] (v ∷ slabs) ranges none = absurd (cc none)
none_wrong dims k (x ∷ vars) [] ranges none = absurd (cc none)
none_wrong dims k (x ∷ vars) (v ∷ slabs) ranges none =
    by_fit dims k x vars v slabs (fits_slab dims x v) refl ranges.0 none (none_wrong dims (suc k) vars slabs ranges.1)

-- ---- fill values

no_type : (t : XType) → type_of (no_values t) ≡ t
no_type Byte = refl
no_type Char = refl
no_type Short = refl
no_type Int = refl
no_type Float = refl
no_type Double = refl
no_type UByte = refl
no_type UShort = refl
no_type UInt = refl
no_type Int64 = refl
no_type UInt64 = refl

-- so many fill values more
pub fills_more : (t : XType) (k n : ℕ) (fill : List ℕ) → length fill ≡ size_of t
    → with_bytes (values_of t (concat (replicate k fill))) (concat (replicate n fill)) ≡ values_of t (concat (replicate (k + n) fill))
fills_more t k n fill long =
    let size = ap size_of (no_type t) in
    let copies : (m : ℕ) → length (concat (replicate m fill)) ≡ m * size_of (type_of (no_values t)) =
    λ m. length_copies m fill ∙ ap (λ (w : ℕ). m * w) (long ∙ sym size) in
    sym (with_bytes-append (no_values t) k n (concat (replicate k fill)) (concat (replicate n fill)) (copies k) (copies n))
    ∙ ap (values_of t) (fills_join k n fill)
