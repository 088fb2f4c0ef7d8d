-- The slabs of a schema in writing order, by the variables before and after their own; and a dataset's values of them.
use Rattle.std.proofs.Common.{◌≡◌, ◌⊎◌, inl, inr, ℕ, zero, suc, ◌+◌, ◌<◌, ◌≤◌, Bool, true, false, cond, not, List, [], ◌∷◌, ◌++◌, length, take, get_or, refl, sym, ap, subst, ◌∙◌, arith, append_assoc, length-append}
use Rattle.std.specs.Prelude.{filter}
use Rattle.std.specs.List.{AllByRecursion, AllZip, flat_map, range_with_len}
use Rattle.std.proofs.lemmas.Bool.{not-true}
use Rattle.std.proofs.lemmas.List.{take_at}
use Rattle.std.proofs.lemmas.List.Elements.{filter-append}
use Rattle.ncc_values.specs.declared.values.Values.{Values}
use Rattle.ncc_schema.specs.declared.schema.Schema.{Schema}
use Rattle.ncc_schema.specs.declared.schema.Var.{Var}
use Rattle.ncc_schema.specs.Schema.{is_record_var}
use Rattle.ncc_layout.specs.Plans.{known}
use Rattle.ncc_layout.specs.Sizes.{record_vars}
use Rattle.ncc_build.specs.Dataset.{AreSlabsOf, Dataset, IsDataset, IsSlabOf, Slab, fixed_slabs, fixed_vars, in_order, record_slabs, slabs_from, slabs_of}
use Rattle.ncc_write.specs.Holds.{no_slab, slab_with}
use Rattle.ncc_write.proofs.Parts.{as_many}
use Rattle.ncc_write.proofs.SlabPlaces.{fixed_placed, record_placed}

-- ---- where a slab is

-- its variable after those of front; a fixed variable has a slab in record 0 alone
pub record IsAmong (s : Schema) (b : Slab) : Type 0 where
  pub front : List Var
  pub after : List Var
  pub joined : s.vars ≡ front ++ b.var ∷ after
  pub number_is : b.number ≡ length front
  pub kind : ((is_record_var s.dims b.var ≡ false) × (b.in_record ≡ 0))
      ⊎ ((is_record_var s.dims b.var ≡ true) × (b.in_record < known s.count))

-- the dataset's values of a slab
abbrev pub values_of_slab : Dataset → Slab → Values
values_of_slab d b = slab_with d b.number (is_record_var d.schema.dims b.var) (b.in_record ∷ [])

-- these are the dataset's values of the slab
pub record HasValues (d : Dataset) (b : Slab) (v : Values) : Type 0 where
  pub among : IsAmong d.schema b
  pub values_are : v ≡ values_of_slab d b
  pub slab_is : IsSlabOf d.schema.dims b.var v

-- ---- along the variables

kept_all : (t : Bool) (P : Slab → Type 0) (b : Slab) (rest : List Slab) → (t ≡ true → P b) → AllByRecursion P rest
    → AllByRecursion P (cond t (b ∷ rest) rest)
kept_all true P b rest here later = (here refl, later)
kept_all false P b rest here later = later

one_behind : (front : List Var) (x : Var) → length (front ++ x ∷ []) ≡ suc (length front)
one_behind front x = let e : length front + 1 ≡ suc (length front) = omega arith in
    length-append front (x ∷ []) ∙ e

along : (all : List Var) (kind : Var → Bool) (P : Slab → Type 0) (r : ℕ)
    → ((front : List Var) (x : Var) (after : List Var) → all ≡ front ++ x ∷ after → kind x ≡ true
    → P (record { var = x; number = length front; in_record = r }))
    → (front vars : List Var) → all ≡ front ++ vars
    → AllByRecursion P (filter (λ b. kind b.var) (slabs_from r (length front) vars))
along all kind P r each front [] joined = tt
along all kind P r each front (x ∷ vars) joined =
    kept_all (kind x) P (record { var = x; number = length front; in_record = r })
    (filter (λ b. kind b.var) (slabs_from r (suc (length front)) vars)) (each front x vars joined)
    (subst (λ (n : ℕ). AllByRecursion P (filter (λ b. kind b.var) (slabs_from r n vars))) (one_behind front x)
    (along all kind P r each (front ++ x ∷ []) vars (joined ∙ sym (append_assoc front (x ∷ []) vars))))

filter_behind : (kind : Var → Bool) (front : List Var) (x : Var) (t : Bool) → kind x ≡ t
    → length (filter kind (front ++ x ∷ [])) ≡ length (filter kind front) + length (cond t (x ∷ []) [])
filter_behind kind front x t is = ap length (filter-append kind front (x ∷ []))
    ∙ length-append (filter kind front) (filter kind (x ∷ []))
    ∙ ap (λ (b : Bool). length (filter kind front) + length (cond b (x ∷ []) [])) is

-- values of the slabs of these variables, after those of front
abbrev AllBehind : (all : List Var) (kind : Var → Bool) (P : Slab → Values → Type 0) (r : ℕ) (given : List Values)
    → (front vars : List Var) → Type 0
AllBehind all kind P r given front vars = (values : List Values) → length values ≡ length (filter kind vars)
    → ((i : ℕ) → get_or values i no_slab ≡ get_or given (length (filter kind front) + i) no_slab)
    → AllZip P (filter (λ b. kind b.var) (slabs_from r (length front) vars)) values

along_values : (all : List Var) (kind : Var → Bool) (P : Slab → Values → Type 0) (r : ℕ) (given : List Values)
    → ((front : List Var) (x : Var) (after : List Var) → all ≡ front ++ x ∷ after → kind x ≡ true
    → P (record { var = x; number = length front; in_record = r }) (get_or given (length (filter kind front)) no_slab))
    → (front vars : List Var) → all ≡ front ++ vars → AllBehind all kind P r given front vars
along_values all kind P r given each front [] joined [] long same = tt
along_values all kind P r given each front [] joined (v ∷ values) long same = absurd (omega (arith, long))
along_values all kind P r given each front (x ∷ vars) joined values long same =
    by (λ later long same. along_values all kind P r given each (front ++ x ∷ []) vars
    (joined ∙ sym (append_assoc front (x ∷ []) vars)) later long same) (kind x) refl values long same
  where
    slab : Slab
    slab = record { var = x; number = length front; in_record = r }

    later : List Slab
    later = filter (λ b. kind b.var) (slabs_from r (suc (length front)) vars)

    rest : AllBehind all kind P r given (front ++ x ∷ []) vars → (t : Bool) → kind x ≡ t → (values : List Values) → length values ≡ length (filter kind vars)
        → ((i : ℕ) → get_or values i no_slab
        ≡ get_or given (length (filter kind front) + length (cond t (x ∷ []) []) + i) no_slab)
        → AllZip P later values
    rest behind t is values long same =
        subst (λ (n : ℕ). AllZip P (filter (λ b. kind b.var) (slabs_from r n vars)) values) (one_behind front x)
        (behind values long (λ i. same i
        ∙ ap (λ (n : ℕ). get_or given (n + i) no_slab) (sym (filter_behind kind front x t is))))

    by : AllBehind all kind P r given (front ++ x ∷ []) vars → (t : Bool) → kind x ≡ t → (values : List Values)
        → length values ≡ length (cond t (x ∷ filter kind vars) (filter kind vars))
        → ((i : ℕ) → get_or values i no_slab ≡ get_or given (length (filter kind front) + i) no_slab)
        → AllZip P (cond t (slab ∷ later) later) values
    by behind true is [] long same = absurd (omega (arith, long))
    by behind true is (v ∷ values) long same =
        let here : length (filter kind front) + 0 ≡ length (filter kind front) = omega arith in (
          subst (P slab) (sym (same 0 ∙ ap (λ (n : ℕ). get_or given n no_slab) here)) (each front x vars joined is),
          rest behind true is values (omega (arith, long)) (λ i.
              let next : length (filter kind front) + suc i ≡ length (filter kind front) + 1 + i = omega arith in
              same (suc i) ∙ ap (λ (n : ℕ). get_or given n no_slab) next),
        )
    by behind false is values long same = rest behind false is values long (λ i.
        let none : length (filter kind front) + i ≡ length (filter kind front) + 0 + i = omega arith in
        same i ∙ ap (λ (n : ℕ). get_or given n no_slab) none)

none_before : (i : ℕ) → i ≡ 0 + i
none_before i = omega arith

-- ---- all slabs

all_both : (P : Slab → Type 0) (a b : List Slab) → AllByRecursion P a → AllByRecursion P b → AllByRecursion P (a ++ b)
all_both P [] b here later = later
all_both P (x ∷ a) b here later = (here.0, all_both P a b here.1 later)

zip_both : (P : Slab → Values → Type 0) (a b : List Slab) (v w : List Values) → AllZip P a v → AllZip P b w
    → AllZip P (a ++ b) (v ++ w)
zip_both P [] b [] w here later = later
zip_both P [] b (x ∷ v) w here later = absurd here
zip_both P (x ∷ a) b [] w here later = absurd here
zip_both P (x ∷ a) b (y ∷ v) w here later = (here.0, zip_both P a b v w here.1 later)

abbrev is_fixed : Schema → Var → Bool
is_fixed s x = not (is_record_var s.dims x)

all_records : (s : Schema) (start n : ℕ) → start + n ≤ known s.count
    → AllByRecursion (IsAmong s) (flat_map (record_slabs s) (range_with_len start n))
all_records s start zero fits = tt
all_records s start (suc n) fits =
    all_both (IsAmong s) (record_slabs s start) (flat_map (record_slabs s) (range_with_len (start + 1) n))
    (along s.vars (is_record_var s.dims) (IsAmong s) start (λ front x after joined is. record {
      front = front;
      after = after;
      joined = joined;
      number_is = refl;
      kind = inr (is, omega (arith, fits));
    }) [] s.vars refl)
    (all_records s (start + 1) n (omega (arith, fits)))

pub all_among : (s : Schema) → AllByRecursion (IsAmong s) (slabs_of s)
all_among s =
    all_both (IsAmong s) (fixed_slabs s) (flat_map (record_slabs s) (range_with_len 0 (known s.count)))
    (along s.vars (is_fixed s) (IsAmong s) 0 (λ front x after joined is. record {
      front = front;
      after = after;
      joined = joined;
      number_is = refl;
      kind = inl (not-true (is_record_var s.dims x) is, refl);
    }) [] s.vars refl)
    (all_records s 0 (known s.count) (omega arith))

module _ (d : Dataset) (is : IsDataset d) where
  abbrev s : Schema
  s = d.schema

  taken_front : (front : List Var) (x : Var) (after : List Var) → s.vars ≡ front ++ x ∷ after
      → take (length front) s.vars ≡ front
  taken_front front x after joined = ap (take (length front)) joined ∙ take_at front (x ∷ after) (length front) refl

  record_has : (r : ℕ) → r < known s.count → (front : List Var) (x : Var) (after : List Var)
      → s.vars ≡ front ++ x ∷ after → is_record_var s.dims x ≡ true
      → HasValues d (record { var = x; number = length front; in_record = r })
      (get_or (get_or d.records r []) (length (record_vars s.dims front)) no_slab)
  record_has r below front x after joined kind = record {
    among = record {
      front = front;
      after = after;
      joined = joined;
      number_is = refl;
      kind = inr (kind, below);
    };
    values_are = ap (λ (l : List Var). get_or (get_or d.records r []) (length (record_vars s.dims l)) no_slab)
        (sym (taken_front front x after joined))
        ∙ ap (λ (t : Bool). slab_with d (length front) t (r ∷ [])) (sym kind);
    slab_is = (record_placed d is front x after joined kind r (omega (arith, below, is.records_number))).slab_is;
  }

  fixed_has : (front : List Var) (x : Var) (after : List Var) → s.vars ≡ front ++ x ∷ after
      → is_fixed s x ≡ true → HasValues d (record { var = x; number = length front; in_record = 0 })
      (get_or d.fixed (length (fixed_vars s.dims front)) no_slab)
  fixed_has front x after joined kind =
      let fixed = not-true (is_record_var s.dims x) kind in
      record {
        among = record {
          front = front;
          after = after;
          joined = joined;
          number_is = refl;
          kind = inl (fixed, refl);
        };
        values_are = ap (λ (l : List Var). get_or d.fixed (length (fixed_vars s.dims l)) no_slab)
            (sym (taken_front front x after joined))
            ∙ ap (λ (t : Bool). slab_with d (length front) t (0 ∷ [])) (sym fixed);
        slab_is = (fixed_placed d is front x after joined fixed).slab_is;
      }

  values_of_records : (start : ℕ) (records : List (List Values))
      → AllByRecursion (AreSlabsOf s.dims (record_vars s.dims s.vars)) records
      → ((i : ℕ) → get_or records i [] ≡ get_or d.records (start + i) [])
      → start + length records ≤ known s.count
      → AllZip (HasValues d) (flat_map (record_slabs s) (range_with_len start (length records)))
      (flat_map (λ values. values) records)
  values_of_records start [] are same fits = tt
  values_of_records start (values ∷ records) are same fits =
      let none : start + 0 ≡ start = omega arith in
      let here : values ≡ get_or d.records start [] = same 0 ∙ ap (λ (n : ℕ). get_or d.records n []) none in
      zip_both (HasValues d) (record_slabs s start)
      (flat_map (record_slabs s) (range_with_len (start + 1) (length records))) values (flat_map (λ values. values) records)
      (along_values s.vars (is_record_var s.dims) (HasValues d) start (get_or d.records start [])
      (record_has start (omega (arith, fits))) [] s.vars refl values
      (sym (as_many s.dims (record_vars s.dims s.vars) values are.0))
      (λ i. ap (λ (l : List Values). get_or l i no_slab) here
      ∙ ap (λ (n : ℕ). get_or (get_or d.records start []) n no_slab) (none_before i)))
      (values_of_records (start + 1) records are.1 (λ i.
      let next : start + suc i ≡ start + 1 + i = omega arith in
      same (suc i) ∙ ap (λ (n : ℕ). get_or d.records n []) next) (omega (arith, fits)))

  -- the dataset's values are those of the slabs, in writing order
  pub all_have_values : AllZip (HasValues d) (slabs_of s) (in_order d)
  all_have_values =
      zip_both (HasValues d) (fixed_slabs s) (flat_map (record_slabs s) (range_with_len 0 (known s.count))) d.fixed
      (flat_map (λ values. values) d.records)
      (along_values s.vars (is_fixed s) (HasValues d) 0 d.fixed fixed_has [] s.vars refl d.fixed
      (sym (as_many s.dims (fixed_vars s.dims s.vars) d.fixed is.fixed))
      (λ i. ap (λ (n : ℕ). get_or d.fixed n no_slab) (none_before i)))
      (subst (λ (n : ℕ). AllZip (HasValues d) (flat_map (record_slabs s) (range_with_len 0 n)) (flat_map (λ values. values) d.records))
      is.records_number (values_of_records 0 d.records is.records
      (λ i. ap (λ (n : ℕ). get_or d.records n []) (none_before i)) (omega (arith, is.records_number))))
