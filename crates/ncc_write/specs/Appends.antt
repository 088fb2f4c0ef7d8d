-- What adding a record answers.
use Rattle.std.specs.Prelude.{◌≡◌, Bool, false, List, Some, Result, Ok, Err}
use Rattle.ncc_values.specs.declared.values.Values.{Values}
use Rattle.ncc_schema.specs.declared.schema.Schema.{Schema}
use Rattle.ncc_layout.specs.declared.placed_file.Placed.{Placed}
use Rattle.ncc_check.specs.Appending.{IsAppendable, TakesRecord}
use Rattle.ncc_check.specs.declared.append_error.AppendError.{AppendError}
use Rattle.ncc_check.specs.declared.append_error.AppendError.TheVariants.{WrongValues, Memory, Device}
use Rattle.ncc_write.specs.Records.{IsRecord, wrong_at}

-- the file takes one more record, and these are the slabs of one
pub record Takes (must_reopen : Bool) (s : Schema) (p : Placed) (slabs : List Values) : Type 0 where
  pub fresh : must_reopen ≡ false
  pub takes : TakesRecord s p
  pub fits : IsRecord s slabs

-- Reopen, NoRecordVariable, NotPacked, Streaming, CountFull, WrongValues in this order; Memory and Device come only
-- where none of these does
abbrev pub AppendsAs : (must_reopen : Bool) → Schema → Placed → (slabs : List Values)
    → Result (Unit {0}) AppendError → Type 0
AppendsAs failed s p slabs (Ok x) = Takes failed s p slabs
AppendsAs failed s p slabs (Err Memory) = Takes failed s p slabs
AppendsAs failed s p slabs (Err Device) = Takes failed s p slabs
AppendsAs failed s p slabs (Err (WrongValues k)) =
    (failed ≡ false) × TakesRecord s p × (wrong_at s slabs ≡ Some k)
AppendsAs failed s p slabs (Err e) = IsAppendable failed s p (Err e)

-- a record's bytes aren't made
abbrev pub RefusesImage : Schema → (slabs : List Values) → AppendError → Type 0
RefusesImage s slabs (WrongValues k) = wrong_at s slabs ≡ Some k
RefusesImage s slabs Memory = IsRecord s slabs
RefusesImage s slabs e = ⊥
