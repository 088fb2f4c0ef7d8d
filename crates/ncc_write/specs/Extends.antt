-- What adding records of fill values answers and leaves.
use Rattle.std.specs.Prelude.{◌≡◌, ◌≢◌, ◌⊎◌, ℕ, zero, suc, ◌+◌, ◌^◌, ◌<◌, ◌≤◌, max, Bool, false, IsTrue, List, map, replicate, Result, Ok, Err}
use Rattle.ncc_schema.specs.declared.schema.Schema.{Schema}
use Rattle.ncc_schema.specs.Schema.{Place, streaming_mark, with_count}
use Rattle.ncc_values.specs.declared.version.Version.{Version}
use Rattle.ncc_layout.specs.declared.placed_file.Placed.{Placed}
use Rattle.ncc_layout.specs.declared.placed_var.PlacedVar.{PlacedVar}
use Rattle.ncc_layout.specs.Elements.{with_records}
use Rattle.ncc_layout.specs.Packed.{record_at}
use Rattle.ncc_layout.specs.Placed.{file_length_of, header_length_of, record_size_of_file, records_of_file, vars_of}
use Rattle.ncc_check.specs.Appending.{IsAppendable, IsBeforeOrAfter, TakesRecord, appended, count_field}
use Rattle.ncc_check.specs.AppendLaws.{CanGrow}
use Rattle.ncc_check.specs.Checks.{Opens}
use Rattle.ncc_check.specs.declared.append_error.AppendError.{AppendError}
use Rattle.ncc_check.specs.declared.append_error.AppendError.TheVariants.{CountFull, WrongValues, Device, Memory}
use Rattle.ncc_build.specs.Dataset.{Dataset, IsDataset}
use Rattle.ncc_write.specs.Additions.{HoldsAll}
use Rattle.ncc_write.specs.Records.{bytes_of_record, fill_values, followed_by}

-- ---- room

-- how long the file is with so many more records
abbrev pub length_with : Placed → (more : ℕ) → ℕ
length_with p zero = file_length_of p
length_with p (suc k) = max (file_length_of p) (record_at p (records_of_file p + suc k))

-- with so many more records the count would be the streaming mark or past it, or the file longer than 2^63 - 1
abbrev pub IsFullFor : Version → Placed → (more : ℕ) → Type 0
IsFullFor v p more = (streaming_mark v ≤ records_of_file p + more) ⊎ (2 ^ 63 ≤ length_with p more)

-- so many more records can be added, one by one
abbrev pub TakesRecords : Schema → Placed → (more : ℕ) → Type 0
TakesRecords s p zero = Unit {0}
TakesRecords s p (suc k) = CanGrow s p × (IsFullFor s.version p (suc k) → ⊥)

-- ---- the answer

-- the first reason against one of so many more records; CountFull where there is no room for all of them
abbrev pub RefusesMore : (must_reopen : Bool) → Schema → Placed → (more : ℕ) → AppendError → Type 0
RefusesMore failed s p more (WrongValues k) = ⊥
RefusesMore failed s p more CountFull = (failed ≡ false) × CanGrow s p × IsFullFor s.version p more
RefusesMore failed s p more Device = (failed ≡ false) × TakesRecord s p
RefusesMore failed s p more Memory = (failed ≡ false) × TakesRecord s p
RefusesMore failed s p more e = IsAppendable failed s p (Err e)

-- without a record to add there is nothing to refuse
abbrev pub ExtendsAs : (must_reopen : Bool) → Schema → Placed → (more : ℕ) → Result (Unit {0}) AppendError → Type 0
ExtendsAs failed s p zero (Ok x) = Unit {0}
ExtendsAs failed s p zero (Err e) = ⊥
ExtendsAs failed s p (suc k) (Ok x) = (failed ≡ false) × TakesRecords s p (suc k)
ExtendsAs failed s p (suc k) (Err e) = RefusesMore failed s p (suc k) e

-- one more record of known bytes: as `append` answers, but that its values can't be wrong
abbrev pub AddsAs : (must_reopen : Bool) → Schema → Placed → Result (Unit {0}) AppendError → Type 0
AddsAs failed s p (Ok x) = (failed ≡ false) × TakesRecord s p
AddsAs failed s p (Err Device) = (failed ≡ false) × TakesRecord s p
AddsAs failed s p (Err e) = IsAppendable failed s p (Err e)

-- ---- what it leaves

abbrev pub schema_with : Schema → Placed → (more : ℕ) → Schema
schema_with s p zero = s
schema_with s p (suc k) = with_count s (records_of_file p + suc k)

abbrev pub vars_with : Placed → (more : ℕ) → List PlacedVar
vars_with p zero = vars_of p
vars_with p (suc k) = map (with_records (records_of_file p + suc k)) (vars_of p)

-- the same file with so many more records
pub record HasRecords (s : Schema) (p : Placed) (more : ℕ) (t : Schema) (q : Placed) : Type 0 where
  pub schema_is : t ≡ schema_with s p more
  pub header_is : header_length_of q ≡ header_length_of p
  pub length_is : file_length_of q ≡ length_with p more
  pub size_is : record_size_of_file q ≡ record_size_of_file p
  pub records_are : records_of_file q ≡ records_of_file p + more
  pub vars_are : vars_of q ≡ vars_with p more

-- ---- its bytes

-- with so many more records of fill values, one by one: zeros that are missing, the record, and the count
abbrev pub filled_bytes : (old : List ℕ) → Schema → Placed → (more : ℕ) → List ℕ
filled_bytes old s p zero = old
filled_bytes old s p (suc k) =
    appended (filled_bytes old s p k) (record_at p (records_of_file p + k)) (bytes_of_record s (fill_values s)) 4
    (count_field s.version (records_of_file p + suc k))

-- so many records were added, and of the next one nothing below its place or all
abbrev pub HasFillsOrNot : (old : List ℕ) → Schema → Placed → (more : ℕ) → (new : List ℕ) → Type 0
HasFillsOrNot old s p k new =
    IsBeforeOrAfter (filled_bytes old s p k) (record_at p (records_of_file p + k)) (bytes_of_record s (fill_values s)) 4
    (count_field s.version (records_of_file p + suc k)) new

-- what an error leaves: the records before the one that was refused, each of which had room; after Device the next one
-- may be there too
pub record LeavesFills (old : List ℕ) (s : Schema) (p : Placed) (t : Schema) (q : Placed) (told : Bool) (most : ℕ)
    (e : AppendError) (new : List ℕ) : Type 0 where
  pub more : ℕ
  pub fewer : more < most
  pub room : TakesRecords s p more
  pub has : HasRecords s p more t q
  pub stands : IsTrue told → e ≢ Device → new ≡ filled_bytes old s p more
  pub failed : IsTrue told → HasFillsOrNot old s p more new

-- ---- datasets

-- the dataset with so many more records of fill values
abbrev pub with_fills : Dataset → (more : ℕ) → Dataset
with_fills d more = followed_by d (replicate more (fill_values d.schema))

-- the bytes pass and hold the dataset with some more records of fill values, at most so many
pub record HoldsSome (bytes : List ℕ) (limit : ℕ) (places : List Place) (d : Dataset) (most : ℕ) : Type 0 where
  pub more : ℕ
  pub few : more ≤ most
  pub holds : HoldsAll bytes limit places (with_fills d more)

-- the open file is of these bytes, which hold the dataset
pub record Contains (bytes : List ℕ) (limit : ℕ) (places : List Place) (d : Dataset) (s : Schema) (p : Placed)
    : Type 0 where
  pub dataset : IsDataset d
  pub all : HoldsAll bytes limit places d
  pub opens : Opens bytes limit s p
