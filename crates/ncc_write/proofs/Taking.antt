-- As many bytes as a schema's values have are those of a dataset.
use Rattle.std.proofs.Common.{◌≡◌, ℕ, zero, suc, ◌+◌, ◌*◌, ◌<◌, ◌≤◌, List, [], ◌∷◌, ◌++◌, map, length, take, drop, refl, sym, ap, ap₂, ◌∙◌, arith, length-drop}
use Rattle.std.specs.Prelude.{sum_by}
use Rattle.std.specs.List.{AllByRecursion, flat_map, range_with_len}
use Rattle.std.proofs.Math.Seq.{take-add}
use Rattle.std.proofs.lemmas.List.{length-take-le, take_all}
use Rattle.std.proofs.lemmas.List.Concat.{flat_map-append}
use Rattle.std.proofs.lemmas.List.Elements.{All-from_recursion, recursion_from_All, All-take, All-drop}
use Rattle.std.proofs.lemmas.List.Sums.{sum_by-cons, sum_by-append}
use Rattle.ncc_values.specs.Numbers.{IsBytes}
use Rattle.ncc_values.specs.Values.{bytes_of, values_of}
use Rattle.ncc_values.proofs.ValuesLemmas.{type_of-values_of, count_of-values_of, bytes_of-values_of, in_range-values_of}
use Rattle.ncc_schema.specs.declared.schema.Dim.{Dim}
use Rattle.ncc_schema.specs.declared.schema.Var.{Var}
use Rattle.ncc_schema.specs.declared.schema.Schema.{Schema}
use Rattle.ncc_schema.specs.Schema.{Sound, IsTyped}
use Rattle.ncc_layout.specs.Sizes.{slab, record_vars}
use Rattle.ncc_layout.specs.Plans.{IsKnown, known}
use Rattle.ncc_build.specs.Dataset.{Slab, elements, fixed_vars, fixed_slabs, record_slabs, IsSlabOf, AreSlabsOf, IsDataset, data_of}
use Rattle.ncc_write.specs.Writing.{values_from, slabs_size, records_from, dataset_of, data_length}
use Rattle.ncc_write.proofs.Slabs.{vars_of_fixed, vars_of_record}

-- ---- parts of bytes

pub bytes_first : (n : ℕ) (bytes : List ℕ) → IsBytes bytes → IsBytes (take n bytes)
bytes_first n bytes h = recursion_from_All (λ b. b < 256) (take n bytes)
    (All-take (λ b. b < 256) n bytes (All-from_recursion (λ b. b < 256) bytes h))

pub bytes_behind : (n : ℕ) (bytes : List ℕ) → IsBytes bytes → IsBytes (drop n bytes)
bytes_behind n bytes h = recursion_from_All (λ b. b < 256) (drop n bytes)
    (All-drop (λ b. b < 256) n bytes (All-from_recursion (λ b. b < 256) bytes h))

-- ---- slabs

pub slab_taken : (dims : List Dim) (x : Var) (bytes : List ℕ) → IsBytes bytes → length bytes ≡ slab dims x
    → IsSlabOf dims x (values_of x.xtype bytes)
slab_taken dims x bytes are long = record {
  xtype = type_of-values_of x.xtype bytes;
  number = count_of-values_of x.xtype (elements dims x) bytes long;
  range = in_range-values_of x.xtype (elements dims x) bytes are long;
}

slabs_taken : (dims : List Dim) (vars : List Var) (bytes : List ℕ) → IsBytes bytes
    → slabs_size dims vars ≤ length bytes → AreSlabsOf dims vars (values_from dims vars bytes)
slabs_taken dims [] bytes are enough = tt
slabs_taken dims (x ∷ vars) bytes are enough =
    let size = slab dims x in (
      slab_taken dims x (take size bytes) (bytes_first size bytes are)
          (length-take-le size bytes (omega (arith, enough))),
      slabs_taken dims vars (drop size bytes) (bytes_behind size bytes are)
          (omega (arith, enough, length-drop size bytes)),
    )

bytes_of_slabs : (dims : List Dim) (vars : List Var) (bytes : List ℕ) → IsBytes bytes
    → slabs_size dims vars ≤ length bytes → flat_map bytes_of (values_from dims vars bytes) ≡ take
    (slabs_size dims vars) bytes
bytes_of_slabs dims [] bytes are enough = refl
bytes_of_slabs dims (x ∷ vars) bytes are enough =
    let size = slab dims x in
    let first : bytes_of (values_of x.xtype (take size bytes)) ≡ take size bytes =
    bytes_of-values_of x.xtype (elements dims x) (take size bytes) (bytes_first size bytes are)
    (length-take-le size bytes (omega (arith, enough))) in
    ap₂ (λ (y z : List ℕ). y ++ z) first (bytes_of_slabs dims vars (drop size bytes) (bytes_behind size bytes are)
    (omega (arith, enough, length-drop size bytes)))
    ∙ sym (take-add size (slabs_size dims vars) bytes)

-- ---- records

records_taken : (dims : List Dim) (vars : List Var) (n : ℕ) (bytes : List ℕ) → IsBytes bytes
    → n * slabs_size dims vars ≤ length bytes → AllByRecursion (AreSlabsOf dims vars) (records_from dims vars n bytes)
records_taken dims vars zero bytes are enough = tt
records_taken dims vars (suc n) bytes are enough =
    let size = slabs_size dims vars in
    let more : size + n * size ≤ length bytes = omega (arith, enough) in (
      slabs_taken dims vars bytes are (omega (arith, more)),
      records_taken dims vars n (drop size bytes)
          (bytes_behind size bytes are) (omega (arith, more, length-drop size bytes)),
    )

length_records : (dims : List Dim) (vars : List Var) (n : ℕ) (bytes : List ℕ)
    → length (records_from dims vars n bytes) ≡ n
length_records dims vars zero bytes = refl
length_records dims vars (suc n) bytes = ap suc (length_records dims vars n (drop (slabs_size dims vars) bytes))

bytes_of_records : (dims : List Dim) (vars : List Var) (n : ℕ) (bytes : List ℕ) → IsBytes bytes
    → n * slabs_size dims vars ≤ length bytes → flat_map bytes_of
    (flat_map (λ values. values) (records_from dims vars n bytes)) ≡ take (n * slabs_size dims vars) bytes
bytes_of_records dims vars zero bytes are enough =
    let none : 0 ≡ 0 * slabs_size dims vars = omega arith in
    ap (λ (k : ℕ). take k bytes) none
bytes_of_records dims vars (suc n) bytes are enough =
    let size = slabs_size dims vars in
    let more : size + n * size ≤ length bytes = omega (arith, enough) in
    let total : size + n * size ≡ suc n * size = omega arith in
    flat_map-append bytes_of (values_from dims vars bytes)
    (flat_map (λ values. values) (records_from dims vars n (drop size bytes)))
    ∙ ap₂ (λ (y z : List ℕ). y ++ z) (bytes_of_slabs dims vars bytes are (omega (arith, more)))
    (bytes_of_records dims vars n (drop size bytes) (bytes_behind size bytes are)
    (omega (arith, more, length-drop size bytes)))
    ∙ sym (take-add size (n * size) bytes) ∙ ap (λ (k : ℕ). take k bytes) total

-- ---- how many bytes

abbrev slab_size : List Dim → Slab → ℕ
slab_size dims b = slab dims b.var

size_of_slabs : (dims : List Dim) (slabs : List Slab)
    → sum_by (slab_size dims) slabs ≡ slabs_size dims (map (λ b. b.var) slabs)
size_of_slabs dims [] = refl
size_of_slabs dims (b ∷ slabs) = sum_by-cons (slab_size dims) b slabs
    ∙ ap (λ (n : ℕ). slab dims b.var + n) (size_of_slabs dims slabs)

size_of_records : (s : Schema) (start n : ℕ) → sum_by (slab_size s.dims)
    (flat_map (record_slabs s) (range_with_len start n)) ≡ n * slabs_size s.dims (record_vars s.dims s.vars)
size_of_records s start zero = omega arith
size_of_records s start (suc n) =
    let here : sum_by (slab_size s.dims) (record_slabs s start) ≡ slabs_size s.dims (record_vars s.dims s.vars) =
    size_of_slabs s.dims (record_slabs s start) ∙ ap (slabs_size s.dims) (vars_of_record s start) in
    let both = sum_by-append (slab_size s.dims) (record_slabs s start)
    (flat_map (record_slabs s) (range_with_len (start + 1) n)) in
    omega (arith, here, both, size_of_records s (start + 1) n)

pub data_length_is : (s : Schema) → data_length s ≡ slabs_size s.dims
    (fixed_vars s.dims s.vars) + known s.count * slabs_size s.dims (record_vars s.dims s.vars)
data_length_is s =
    sum_by-append (slab_size s.dims) (fixed_slabs s) (flat_map (record_slabs s) (range_with_len 0 (known s.count)))
    ∙ ap₂ (λ (m n : ℕ). m + n) (size_of_slabs s.dims (fixed_slabs s) ∙ ap (slabs_size s.dims) (vars_of_fixed s))
    (size_of_records s 0 (known s.count))

-- ---- datasets

module _ (s : Schema) (taken : List ℕ) (are : IsBytes taken) (long : length taken ≡ data_length s) where
  abbrev fixed : List Var
  fixed = fixed_vars s.dims s.vars

  abbrev records : List Var
  records = record_vars s.dims s.vars

  abbrev front : ℕ
  front = slabs_size s.dims fixed

  total : length taken ≡ front + known s.count * slabs_size s.dims records
  total = long ∙ data_length_is s

  behind : known s.count * slabs_size s.dims records ≤ length (drop front taken)
  behind = omega (arith, total, length-drop front taken)

  pub taken_is_dataset : Sound s → IsTyped s → IsKnown s.count → IsDataset (dataset_of s taken)
  taken_is_dataset sound typed counted = record {
    sound = sound;
    typed = typed;
    counted = counted;
    fixed = slabs_taken s.dims fixed taken are (omega (arith, total));
    records_number = length_records s.dims records (known s.count) (drop front taken);
    records = records_taken s.dims records (known s.count) (drop front taken) (bytes_behind front taken are) behind;
  }

  pub taken_is_data : data_of (dataset_of s taken) ≡ taken
  taken_is_data =
      flat_map-append bytes_of (values_from s.dims fixed taken)
      (flat_map (λ values. values) (records_from s.dims records (known s.count) (drop front taken)))
      ∙ ap₂ (λ (y z : List ℕ). y ++ z) (bytes_of_slabs s.dims fixed taken are (omega (arith, total)))
      (bytes_of_records s.dims records (known s.count) (drop front taken) (bytes_behind front taken are) behind)
      ∙ sym (take-add front (known s.count * slabs_size s.dims records) taken)
      ∙ take_all (front + known s.count * slabs_size s.dims records) taken (omega (arith, total))
