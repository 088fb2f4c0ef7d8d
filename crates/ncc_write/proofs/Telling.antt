-- A dataset is told by its bytes.
use Rattle.std.proofs.Common.{◌≡◌, ℕ, suc, ◌+◌, List, [], ◌∷◌, ◌++◌, length, drop, refl, sym, ap, ap₂, ◌∙◌, length-append}
use Rattle.std.specs.List.{AllByRecursion, flat_map}
use Rattle.std.proofs.lemmas.List.{append_assoc, take_at, drop_at}
use Rattle.std.proofs.lemmas.List.Concat.{flat_map-append}
use Rattle.ncc_values.specs.Values.{bytes_of, values_of}
use Rattle.ncc_values.specs.declared.values.Values.{Values}
use Rattle.ncc_values.specs.declared.xtype.XType.{XType}
use Rattle.ncc_values.proofs.ValuesLemmas.{values_of-bytes_of}
use Rattle.ncc_schema.specs.declared.schema.Dim.{Dim}
use Rattle.ncc_schema.specs.declared.schema.Var.{Var}
use Rattle.ncc_schema.specs.declared.schema.Schema.{Schema}
use Rattle.ncc_layout.specs.Sizes.{slab, record_vars}
use Rattle.ncc_layout.specs.Plans.{known}
use Rattle.ncc_build.specs.Dataset.{fixed_vars, Dataset, IsSlabOf, AreSlabsOf, IsDataset, data_of}
use Rattle.ncc_write.specs.Writing.{values_from, slabs_size, records_from, dataset_of}
use Rattle.ncc_write.proofs.Slabs.{length_slab}

-- ---- slabs

pub length_slabs : (dims : List Dim) (vars : List Var) (values : List Values) → AreSlabsOf dims vars values
    → length (flat_map bytes_of values) ≡ slabs_size dims vars
length_slabs dims [] [] h = refl
length_slabs dims [] (v ∷ values) h = absurd h
length_slabs dims (x ∷ vars) [] h = absurd h
length_slabs dims (x ∷ vars) (v ∷ values) h =
    length-append (bytes_of v) (flat_map bytes_of values)
    ∙ ap₂ (λ (m n : ℕ). m + n) (length_slab dims x v h.0) (length_slabs dims vars values h.1)

-- values of a slab are told by their bytes
slab_told : (dims : List Dim) (x : Var) (values : Values) → IsSlabOf dims x values
    → values_of x.xtype (bytes_of values) ≡ values
slab_told dims x values is = ap (λ (t : XType). values_of t (bytes_of values)) (sym is.xtype)
    ∙ values_of-bytes_of values is.range

slabs_told : (dims : List Dim) (vars : List Var) (values : List Values) (rest : List ℕ) → AreSlabsOf dims vars values
    → values_from dims vars (flat_map bytes_of values ++ rest) ≡ values
slabs_told dims [] [] rest h = refl
slabs_told dims [] (v ∷ values) rest h = absurd h
slabs_told dims (x ∷ vars) [] rest h = absurd h
slabs_told dims (x ∷ vars) (v ∷ values) rest h =
    let after = flat_map bytes_of values ++ rest in
    let long = length_slab dims x v h.0 in
    ap (values_from dims (x ∷ vars)) (append_assoc (bytes_of v) (flat_map bytes_of values) rest)
    ∙ ap₂ (λ (y z : List ℕ). values_of x.xtype y ∷ values_from dims vars z)
    (take_at (bytes_of v) after (slab dims x) long) (drop_at (bytes_of v) after (slab dims x) long)
    ∙ ap₂ (λ (w : Values) (l : List Values). w ∷ l) (slab_told dims x v h.0) (slabs_told dims vars values rest h.1)

-- ---- records

abbrev all_of : List (List Values) → List ℕ
all_of records = flat_map bytes_of (flat_map (λ values. values) records)

records_told : (dims : List Dim) (vars : List Var) (records : List (List Values))
    → AllByRecursion (AreSlabsOf dims vars) records → records_from dims vars (length records)
    (all_of records) ≡ records
records_told dims vars [] all = refl
records_told dims vars (values ∷ records) all =
    let front = flat_map bytes_of values in
    let joined : all_of (values ∷ records) ≡ front ++ all_of records =
    flat_map-append bytes_of values (flat_map (λ v. v) records) in
    ap (records_from dims vars (suc (length records))) joined
    ∙ ap₂ (λ (l : List Values) (y : List ℕ). l ∷ records_from dims vars (length records) y)
    (slabs_told dims vars values (all_of records) all.0)
    (drop_at front (all_of records) (slabs_size dims vars) (length_slabs dims vars values all.0))
    ∙ ap (λ (l : List (List Values)). values ∷ l) (records_told dims vars records all.1)

-- ---- datasets

abbrev with_values : Schema → List Values → List (List Values) → Dataset
with_values s fixed records = record { schema = s; fixed = fixed; records = records }

pub dataset_told : (d : Dataset) → IsDataset d → dataset_of d.schema (data_of d) ≡ d
dataset_told d is =
    let s = d.schema in
    let vars = fixed_vars s.dims s.vars in
    let front = flat_map bytes_of d.fixed in
    let joined : data_of d ≡ front ++ all_of d.records =
    flat_map-append bytes_of d.fixed (flat_map (λ v. v) d.records) in
    let rest : drop (slabs_size s.dims vars) (front ++ all_of d.records) ≡ all_of d.records =
    drop_at front (all_of d.records) (slabs_size s.dims vars) (length_slabs s.dims vars d.fixed is.fixed) in
    let number : known s.count ≡ length d.records = sym is.records_number in
    ap (dataset_of s) joined
    ∙ ap₂ (with_values s) (slabs_told s.dims vars d.fixed (all_of d.records) is.fixed)
    (ap (records_from s.dims (record_vars s.dims s.vars) (known s.count)) rest
    ∙ ap (λ (n : ℕ). records_from s.dims (record_vars s.dims s.vars) n (all_of d.records)) number
    ∙ records_told s.dims (record_vars s.dims s.vars) d.records is.records)
