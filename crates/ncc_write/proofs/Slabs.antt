-- The slabs of a schema in writing order, and values for them.
use Rattle.std.proofs.Common.{◌≡◌, ℕ, suc, ◌+◌, ◌*◌, Bool, true, false, cond, not, List, [], ◌∷◌, ◌++◌, map, length, refl, sym, ap, ap₂, subst, ◌∙◌}
use Rattle.std.specs.Prelude.{filter}
use Rattle.std.specs.List.{AllByRecursion, AllZip, flat_map, range_with_len}
use Rattle.ncc_values.specs.Values.{bytes_of}
use Rattle.ncc_values.specs.XType.{size_of}
use Rattle.ncc_values.specs.declared.values.Values.{Values}
use Rattle.ncc_values.specs.declared.xtype.XType.{XType}
use Rattle.ncc_values.proofs.ValuesLemmas.{length-bytes_of}
use Rattle.ncc_schema.specs.declared.schema.Dim.{Dim}
use Rattle.ncc_schema.specs.declared.schema.Var.{Var}
use Rattle.ncc_schema.specs.declared.schema.Schema.{Schema}
use Rattle.ncc_schema.specs.Schema.{is_record_var}
use Rattle.ncc_layout.specs.Sizes.{slab, record_vars}
use Rattle.ncc_layout.specs.Plans.{known}
use Rattle.ncc_build.specs.Dataset.{Slab, fixed_vars, slabs_from, fixed_slabs, record_slabs, slabs_of, Dataset, IsSlabOf, AreSlabsOf, IsDataset, in_order}

-- ---- the variables of slabs

vars_kept : (b : Bool) (x : Slab) (slabs : List Slab) (vars : List Var) → map (λ y. y.var) slabs ≡ vars
    → map (λ y. y.var) (cond b (x ∷ slabs) slabs) ≡ cond b (x.var ∷ vars) vars
vars_kept true x slabs vars e = ap (λ (l : List Var). x.var ∷ l) e
vars_kept false x slabs vars e = e

vars_of_slabs : (p : Var → Bool) (r n : ℕ) (vars : List Var)
    → map (λ b. b.var) (filter (λ b. p b.var) (slabs_from r n vars)) ≡ filter p vars
vars_of_slabs p r n [] = refl
vars_of_slabs p r n (x ∷ vars) = vars_kept (p x) (record { var = x; number = n; in_record = r })
    (filter (λ b. p b.var) (slabs_from r (suc n) vars)) (filter p vars) (vars_of_slabs p r (suc n) vars)

pub vars_of_fixed : (s : Schema) → map (λ b. b.var) (fixed_slabs s) ≡ fixed_vars s.dims s.vars
vars_of_fixed s = vars_of_slabs (λ x. not (is_record_var s.dims x)) 0 0 s.vars

pub vars_of_record : (s : Schema) (r : ℕ) → map (λ b. b.var) (record_slabs s r) ≡ record_vars s.dims s.vars
vars_of_record s r = vars_of_slabs (is_record_var s.dims) r 0 s.vars

-- ---- values for slabs

-- values for each of these slabs
abbrev pub AreValuesOf : List Dim → List Slab → List Values → Type 0
AreValuesOf dims slabs values = AllZip (λ b v. IsSlabOf dims b.var v) slabs values

pub by_vars : (dims : List Dim) (slabs : List Slab) (values : List Values)
    → AreSlabsOf dims (map (λ b. b.var) slabs) values → AreValuesOf dims slabs values
by_vars dims [] [] h = tt
by_vars dims [] (v ∷ values) h = absurd h
by_vars dims (b ∷ slabs) [] h = absurd h
by_vars dims (b ∷ slabs) (v ∷ values) h = (h.0, by_vars dims slabs values h.1)

values_both : (dims : List Dim) (a b : List Slab) (v w : List Values) → AreValuesOf dims a v → AreValuesOf dims b w
    → AreValuesOf dims (a ++ b) (v ++ w)
values_both dims [] b [] w h k = k
values_both dims [] b (x ∷ v) w h k = absurd h
values_both dims (x ∷ a) b [] w h k = absurd h
values_both dims (x ∷ a) b (y ∷ v) w h k = (h.0, values_both dims a b v w h.1 k)

values_of_records : (s : Schema) (start : ℕ) (records : List (List Values))
    → AllByRecursion (AreSlabsOf s.dims (record_vars s.dims s.vars)) records
    → AreValuesOf s.dims (flat_map (record_slabs s) (range_with_len start (length records)))
    (flat_map (λ values. values) records)
values_of_records s start [] all = tt
values_of_records s start (values ∷ records) all =
    let here = by_vars s.dims (record_slabs s start) values
    (subst (λ (l : List Var). AreSlabsOf s.dims l values) (sym (vars_of_record s start)) all.0) in
    values_both s.dims (record_slabs s start) (flat_map (record_slabs s)
    (range_with_len (start + 1) (length records))) values (flat_map (λ values. values) records) here
    (values_of_records s (start + 1) records all.1)

-- the values of a dataset are those of its slabs
pub values_in_order : (d : Dataset) → IsDataset d → AreValuesOf d.schema.dims (slabs_of d.schema) (in_order d)
values_in_order d is =
    let s = d.schema in
    let fixed = by_vars s.dims (fixed_slabs s) d.fixed (subst (λ (l : List Var). AreSlabsOf s.dims l d.fixed)
    (sym (vars_of_fixed s)) is.fixed) in
    let records = subst (λ (n : ℕ). AreValuesOf s.dims (flat_map (record_slabs s) (range_with_len 0 n))
    (flat_map (λ values. values) d.records)) is.records_number (values_of_records s 0 d.records is.records) in
    values_both s.dims (fixed_slabs s) (flat_map (record_slabs s) (range_with_len 0 (known s.count))) d.fixed
    (flat_map (λ values. values) d.records) fixed records

-- ---- the bytes of a slab

pub length_slab : (dims : List Dim) (x : Var) (values : Values) → IsSlabOf dims x values
    → length (bytes_of values) ≡ slab dims x
length_slab dims x values is = length-bytes_of values ∙ ap₂ (λ (n : ℕ) (t : XType). n * size_of t) is.number is.xtype
