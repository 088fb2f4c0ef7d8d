-- What adding a record makes of a file's bytes: zeros that are missing, the record's image, and then the count.
use Rattle.std.specs.Prelude.{◌≡◌, ◌⊎◌, ◌+◌, ◌-◌, ◌^◌, ◌≤◌, min, max, ℕ, Bool, true, false, List, ◌++◌, length, take, replicate, Some, None, Result, Ok, Err, ◌<◌}
use Rattle.ncc_values.specs.Failures.{Rose}
use Rattle.ncc_values.specs.Numbers.{big_endian}
use Rattle.ncc_values.specs.Version.{count_width_of}
use Rattle.ncc_values.specs.declared.version.Version.{Version}
use Rattle.ncc_schema.specs.declared.schema.Count.TheVariants as count
use Rattle.ncc_schema.specs.declared.schema.Schema.{Schema}
use Rattle.ncc_schema.specs.Schema.{with_count}
use Rattle.ncc_store.specs.Store.{written}
use Rattle.ncc_layout.specs.declared.placed_file.Placed.{Placed}
use Rattle.ncc_layout.specs.Extents.{least_begin, records_of}
use Rattle.ncc_layout.specs.Packed.{IsPacked, record_at}
use Rattle.ncc_layout.specs.Placed.{HasOneMore, extents_of_file, file_length_of, records_of_file}
use Rattle.ncc_layout.specs.Plans.{IsKnown}
use Rattle.ncc_layout.specs.Standard.{next_count}
use Rattle.ncc_check.specs.declared.append_error.AppendError.{AppendError}
use Rattle.ncc_check.specs.declared.append_error.AppendError.TheVariants.{Reopen, NoRecordVariable, NotPacked, Streaming, CountFull, Device}

-- zeros up to the place
abbrev pub padded : (old : List ℕ) → (place : ℕ) → List ℕ
padded old place = old ++ replicate (place - length old) 0

-- the image at its place
abbrev pub staged : (old : List ℕ) → (place : ℕ) → (image : List ℕ) → List ℕ
staged old place image = written (padded old place) place image

-- and the count
abbrev pub appended : (old : List ℕ) → (place : ℕ) → (image : List ℕ) → (count_place : ℕ) → (count : List ℕ) → List ℕ
appended old place image count_place count = written (staged old place image) count_place count

-- nothing below the place changed, and nothing is missing
pub record Keeps (old : List ℕ) (place : ℕ) (new : List ℕ) : Type 0 where
  pub front : take (min place (length old)) new ≡ take (min place (length old)) old
  pub no_shorter : length old ≤ length new

-- all of a piece or nothing
abbrev pub IsOldOrWritten : (old : List ℕ) → (place : ℕ) → (piece new : List ℕ) → Type 0
IsOldOrWritten old place piece new = (new ≡ old) ⊎ (new ≡ written old place piece)

-- the old data stands, or the new data is whole
abbrev pub IsBeforeOrAfter : (old : List ℕ) → (place : ℕ) → (image : List ℕ) → (count_place : ℕ) → (count : List ℕ)
    → (new : List ℕ) → Type 0
IsBeforeOrAfter old place image count_place count new =
    Keeps old place new ⊎ (new ≡ appended old place image count_place count)

-- ---- one more record

-- the bytes of the count field
abbrev pub count_field : Version → ℕ → List ℕ
count_field v n = big_endian (count_width_of v) n

-- where the next record begins
abbrev pub next_record_at : Placed → ℕ
next_record_at p = record_at p (records_of_file p)

-- how long the file is with it
abbrev pub length_with_record : Placed → ℕ
length_with_record p = max (file_length_of p) (record_at p (records_of_file p + 1))

-- the bytes with this image as one more record
abbrev pub with_record : (old : List ℕ) → Schema → Placed → (image : List ℕ) → List ℕ
with_record old s p image = appended old (next_record_at p) image 4 (count_field s.version (records_of_file p + 1))

-- ---- refusals

abbrev pub HasNoRecordVariable : Placed → Type 0
HasNoRecordVariable p = least_begin (records_of (extents_of_file p)) ≡ None

-- the number of records would be the streaming mark, or the file longer than 2^63 - 1
abbrev pub IsFull : Version → Placed → Type 0
IsFull v p = (next_count v (records_of_file p) ≡ None) ⊎ (2 ^ 63 ≤ length_with_record p)

-- one more record can be added
pub record TakesRecord (s : Schema) (p : Placed) : Type 0 where
  pub some : HasNoRecordVariable p → ⊥
  pub packed : IsPacked p
  pub counted : IsKnown s.count
  pub room : IsFull s.version p → ⊥

-- whether one more record can be added, or the first reason against it
abbrev pub IsAppendable : (must_reopen : Bool) → Schema → Placed → Result (Unit {0}) AppendError → Type 0
IsAppendable failed s p (Ok x) = (failed ≡ false) × TakesRecord s p
IsAppendable failed s p (Err Reopen) = failed ≡ true
IsAppendable failed s p (Err NoRecordVariable) = (failed ≡ false) × HasNoRecordVariable p
IsAppendable failed s p (Err NotPacked) = (failed ≡ false) × (HasNoRecordVariable p → ⊥) × (IsPacked p → ⊥)
IsAppendable failed s p (Err Streaming) =
    (failed ≡ false) × (HasNoRecordVariable p → ⊥) × IsPacked p × (s.count ≡ count.Streaming)
IsAppendable failed s p (Err CountFull) =
    (failed ≡ false) × (HasNoRecordVariable p → ⊥) × IsPacked p × IsKnown s.count × IsFull s.version p
IsAppendable failed s p (Err e) = ⊥

-- where the next record goes
pub record IsNext (v : Version) (p : Placed) (count place length : ℕ) : Type 0 where
  pub count_is : count ≡ records_of_file p + 1
  pub counts : next_count v (records_of_file p) ≡ Some count
  pub place_is : place ≡ next_record_at p
  pub length_is : length ≡ length_with_record p
  pub small : length < 2 ^ 63

-- ---- what a call leaves

-- the same file with one more record
pub record HasRecord (s : Schema) (p : Placed) (t : Schema) (q : Placed) : Type 0 where
  pub schema : t ≡ with_count s (records_of_file p + 1)
  pub placed : HasOneMore p (length_with_record p) q

-- the old records stand, or the new one too
abbrev pub HasRecordOrNot : (old : List ℕ) → Schema → Placed → (image new : List ℕ) → Type 0
HasRecordOrNot old s p image new =
    IsBeforeOrAfter old (next_record_at p) image 4 (count_field s.version (records_of_file p + 1)) new

-- a failure of the device is counted, and nothing else
abbrev pub CountsDevice : (old new : ℕ) → Result (Unit {0}) AppendError → Type 0
CountsDevice old new (Err Device) = Rose old new
CountsDevice old new result = new ≡ old
