-- The dataset whose values are at the places in bytes.
use Rattle.std.proofs.Common.{◌≡◌, ℕ, zero, suc, ◌+◌, ◌*◌, ◌<◌, ◌≤◌, Bool, not, List, length, map, refl, arith}
use Rattle.std.specs.List.{AllByRecursion, range_with_len}
use Rattle.std.proofs.lemmas.List.FromFn.{length-map-range_with_len}
use Rattle.ncc_values.specs.Numbers.{IsBytes}
use Rattle.ncc_values.specs.declared.values.Values.{Values}
use Rattle.ncc_schema.specs.declared.schema.Count.{Count}
use Rattle.ncc_schema.specs.declared.schema.Count.TheVariants.{Known, Streaming}
use Rattle.ncc_layout.specs.declared.extent.Extent.{Extent}
use Rattle.ncc_schema.specs.declared.schema.Schema.{Schema}
use Rattle.ncc_schema.specs.declared.schema.Var.{Var}
use Rattle.ncc_schema.specs.Schema.{IsTyped, Place, Sound, is_record_var}
use Rattle.ncc_layout.specs.Extents.{number_of_records, extents_of}
use Rattle.ncc_layout.specs.Plans.{IsKnown, known}
use Rattle.ncc_layout.specs.Rules.Truncated.{NotTruncated}
use Rattle.ncc_layout.specs.Sizes.{record_size_of, record_vars}
use Rattle.ncc_build.specs.Dataset.{AreSlabsOf, Dataset, IsDataset}
use Rattle.ncc_write.proofs.FoundSlabs.{HaveRoom, are_slabs, fixed_room, record_room, slabs_at}

abbrev pub fixed_kind : Schema → Var → Bool
fixed_kind s x = not (is_record_var s.dims x)

abbrev pub record_kind : Schema → Var → Bool
record_kind s x = is_record_var s.dims x

abbrev pub record_in : Schema → List Place → (bytes : List ℕ) → (number : ℕ) → List Values
record_in s places bytes r = slabs_at (record_kind s) s.dims bytes (r * record_size_of s) s.vars places

-- the values that are at the places
abbrev pub dataset_in : Schema → List Place → (bytes : List ℕ) → Dataset
dataset_in s places bytes = record {
  schema = s;
  fixed = slabs_at (fixed_kind s) s.dims bytes 0 s.vars places;
  records = map (record_in s places bytes) (range_with_len 0 (known s.count));
}

all_records : (P : List Values → Type 0) (f : ℕ → List Values) (n first count : ℕ) → ((r : ℕ) → r < n → P (f r))
    → first + count ≤ n → AllByRecursion P (map f (range_with_len first count))
all_records P f n first zero each fit = tt
all_records P f n first (suc count) each fit =
    (each first (omega (arith, fit)), all_records P f n (first + 1) count each (omega (arith, fit)))

-- what the check of the bytes says
pub record HasRoom (s : Schema) (places : List Place) (bytes : List ℕ) : Type 0 where
  pub are : IsBytes bytes
  pub sound : Sound s
  pub typed : IsTyped s
  pub counted : IsKnown s.count
  pub many : length places ≡ length s.vars
  pub within : AllByRecursion (NotTruncated (length bytes) (record_size_of s) (known s.count)) (extents_of s places)

-- where the number of records is known
pub count_is : (size long : ℕ) (es : List Extent) (n : Count) → IsKnown n → number_of_records size long es n ≡ known n
count_is size long es (Known n) is = refl
count_is size long es Streaming is = absurd is

module _ (s : Schema) (places : List Place) (bytes : List ℕ) (has : HasRoom s places bytes) where
  abbrev d : Dataset
  d = dataset_in s places bytes

  pub room_of_fixed : HaveRoom (fixed_kind s) s.dims (length bytes) 0 s.vars places
  room_of_fixed = fixed_room s.dims (length bytes) (record_size_of s) (known s.count) 0 s.vars places has.within

  pub room_of_record : (r : ℕ) → r < known s.count
      → HaveRoom (record_kind s) s.dims (length bytes) (r * record_size_of s) s.vars places
  room_of_record r below =
      record_room s.dims (length bytes) (record_size_of s) (known s.count) 0 r s.vars places below has.within

  pub is_dataset : IsDataset d
  is_dataset = record {
    sound = has.sound;
    typed = has.typed;
    counted = has.counted;
    fixed = are_slabs s (fixed_kind s) bytes 0 s.vars places has.are has.many room_of_fixed;
    records_number = length-map-range_with_len (record_in s places bytes) 0 (known s.count);
    records = all_records (AreSlabsOf s.dims (record_vars s.dims s.vars)) (record_in s places bytes) (known s.count) 0
        (known s.count) (λ r below. are_slabs s (record_kind s) bytes (r * record_size_of s) s.vars places has.are
        has.many (room_of_record r below)) (omega arith);
  }
