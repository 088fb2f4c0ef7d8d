-- The parts of a file: its header, the fixed variables, and each record.
use Rattle.std.proofs.Common.{◌≡◌, ℕ, suc, ◌+◌, List, [], ◌∷◌, ◌++◌, map, length, refl, sym, ap, ap₂, ◌∙◌, arith}
use Rattle.std.specs.Prelude.{zip}
use Rattle.std.specs.List.{AllByRecursion, flat_map, range_with_len}
use Rattle.std.proofs.lemmas.List.Concat.{flat_map-append}
use Rattle.ncc_values.specs.Values.{bytes_of}
use Rattle.ncc_values.specs.declared.values.Values.{Values}
use Rattle.ncc_schema.specs.declared.schema.Dim.{Dim}
use Rattle.ncc_schema.specs.declared.schema.Schema.{Schema}
use Rattle.ncc_schema.specs.declared.schema.Var.{Var}
use Rattle.ncc_layout.specs.Sizes.{record_vars}
use Rattle.ncc_layout.specs.Plans.{known}
use Rattle.ncc_build.specs.Dataset.{Slab, fixed_vars, fixed_slabs, record_slabs, Dataset, AreSlabsOf, IsDataset}
use Rattle.ncc_build.specs.File.{padding_bytes, padded, header_of, file_of}
use Rattle.ncc_write.specs.Records.{bytes_of_record, in_turn}
use Rattle.ncc_write.proofs.Slabs.{vars_of_fixed, vars_of_record}

-- ---- by variables

by_vars : (s : Schema) (slabs : List Slab) (values : List Values)
    → flat_map (padded s) (zip slabs values) ≡ in_turn s (map (λ b. b.var) slabs) values
by_vars s [] values = refl
by_vars s (b ∷ slabs) [] = refl
by_vars s (b ∷ slabs) (v ∷ values) = ap (λ (l : List ℕ). bytes_of v ++ padding_bytes s b.var ++ l)
    (by_vars s slabs values)

zip_both : (a b : List Slab) (v w : List Values) → length a ≡ length v → zip (a ++ b) (v ++ w) ≡ zip a v ++ zip b w
zip_both [] b [] w long = refl
zip_both [] b (y ∷ v) w long = absurd (omega (arith, long))
zip_both (x ∷ a) b [] w long = absurd (omega (arith, long))
zip_both (x ∷ a) b (y ∷ v) w long = ap (λ (l : List (Slab × Values)). (x, y) ∷ l)
    (zip_both a b v w (omega (arith, long)))

in_both : (s : Schema) (a b : List Slab) (v w : List Values) → length a ≡ length v
    → flat_map (padded s) (zip (a ++ b) (v ++ w)) ≡ flat_map (padded s) (zip a v) ++ flat_map (padded s) (zip b w)
in_both s a b v w long = ap (flat_map (padded s)) (zip_both a b v w long)
    ∙ flat_map-append (padded s) (zip a v) (zip b w)

pub as_many : (dims : List Dim) (vars : List Var) (values : List Values) → AreSlabsOf dims vars values
    → length vars ≡ length values
as_many dims [] [] h = refl
as_many dims [] (v ∷ values) h = absurd h
as_many dims (x ∷ vars) [] h = absurd h
as_many dims (x ∷ vars) (v ∷ values) h = ap suc (as_many dims vars values h.1)

length_vars : (slabs : List Slab) → length slabs ≡ length (map (λ b. b.var) slabs)
length_vars [] = refl
length_vars (b ∷ slabs) = ap suc (length_vars slabs)

-- ---- records

each_record : (s : Schema) (start : ℕ) (records : List (List Values))
    → AllByRecursion (AreSlabsOf s.dims (record_vars s.dims s.vars)) records
    → flat_map (padded s) (zip (flat_map (record_slabs s) (range_with_len start (length records)))
    (flat_map (λ values. values) records)) ≡ flat_map (bytes_of_record s) records
each_record s start [] all = refl
each_record s start (values ∷ records) all =
    let slabs = record_slabs s start in
    let vars = vars_of_record s start in
    let long : length slabs ≡ length values = length_vars slabs ∙ ap (λ (l : List Var). length l) vars
    ∙ as_many s.dims (record_vars s.dims s.vars) values all.0 in
    in_both s slabs (flat_map (record_slabs s) (range_with_len (start + 1) (length records))) values
    (flat_map (λ v. v) records) long
    ∙ ap₂ (λ (x y : List ℕ). x ++ y) (by_vars s slabs values ∙ ap (λ (l : List Var). in_turn s l values) vars)
    (each_record s (start + 1) records all.1)

-- ---- the file

abbrev pub fixed_part : Dataset → List ℕ
fixed_part d = in_turn d.schema (fixed_vars d.schema.dims d.schema.vars) d.fixed

abbrev pub records_part : Dataset → List ℕ
records_part d = flat_map (bytes_of_record d.schema) d.records

pub file_parts : (d : Dataset) → IsDataset d → file_of d ≡ header_of d.schema ++ (fixed_part d ++ records_part d)
file_parts d is =
    let s = d.schema in
    let slabs = fixed_slabs s in
    let vars = vars_of_fixed s in
    let long : length slabs ≡ length d.fixed = length_vars slabs ∙ ap (λ (l : List Var). length l) vars
    ∙ as_many s.dims (fixed_vars s.dims s.vars) d.fixed is.fixed in
    let records : flat_map (padded s) (zip (flat_map (record_slabs s) (range_with_len 0 (known s.count)))
    (flat_map (λ values. values) d.records)) ≡ records_part d =
    ap (λ (n : ℕ). flat_map (padded s) (zip (flat_map (record_slabs s) (range_with_len 0 n))
    (flat_map (λ values. values) d.records))) (sym is.records_number) ∙ each_record s 0 d.records is.records in
    ap (λ (l : List ℕ). header_of s ++ l)
    (in_both s slabs (flat_map (record_slabs s) (range_with_len 0 (known s.count))) d.fixed
    (flat_map (λ values. values) d.records) long
    ∙ ap₂ (λ (x y : List ℕ). x ++ y) (by_vars s slabs d.fixed
    ∙ ap (λ (l : List Var). in_turn s l d.fixed) vars) records)
