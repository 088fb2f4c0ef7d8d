-- What a copy of an open file in another version leaves.
use Rattle.std.specs.Prelude.{◌≡◌, ◌⊎◌, ℕ, Bool, IsTrue, List, Option, Result, Ok, Err}
use Rattle.ncc_values.specs.Failures.{Rose}
use Rattle.ncc_schema.specs.Device.{Puts}
use Rattle.ncc_schema.specs.declared.schema.Schema.{Schema}
use Rattle.ncc_layout.specs.declared.placed_file.Placed.{Placed}
use Rattle.ncc_build.specs.Dataset.{Dataset, IsDataset}
use Rattle.ncc_build.specs.File.{file_of}
use Rattle.ncc_build.specs.declared.fault.WriteFault.{WriteFault}
use Rattle.ncc_build.specs.declared.fault.WriteFault.TheVariants as write
use Rattle.ncc_lines.specs.declared.send_error.SendError.{SendError}
use Rattle.ncc_lines.specs.declared.send_error.SendError.TheVariants.{Device, Memory}
use Rattle.ncc_write.specs.Headline.{PassesAndReads}
use Rattle.ncc_write.specs.Laws.{IsCompleted}
use Rattle.ncc_convert.specs.Copying.{HasFront}
use Rattle.ncc_convert.specs.Found.{IsOf}

-- exactly the file of the dataset by the planned schema went out
pub record HasFile (told : Bool) (file : List ℕ) (p : Placed) (planned : Schema) (start put : Option (List ℕ))
    : Type 0 where
  pub is : IsTrue told → (d : Dataset) → IsDataset d → IsOf file p planned d → Puts start put (file_of d)

-- by the answer
abbrev pub ConvertsAs : (told : Bool) → (file : List ℕ) → Placed → (planned : Schema)
    → (start put : Option (List ℕ)) → Result (Unit {0}) SendError → Type 0
ConvertsAs told file p t start put (Ok x) = HasFile told file p t start put
ConvertsAs told file p t start put (Err e) = HasFront told file p t start put

-- what went out is the file of some dataset by this schema
pub record IsSomeFile (t : Schema) (out : List ℕ) : Type 0 where
  pub taken : List ℕ
  pub completed : IsCompleted t taken out

-- it passes without a note, and reads back as the dataset of the open file
pub record ReadsAs (told : Bool) (file : List ℕ) (p : Placed) (t : Schema) (limit : ℕ) (out : List ℕ) : Type 0 where
  pub is : IsTrue told → (d : Dataset) → IsDataset d → IsOf file p t d → ∥ PassesAndReads d t out limit ∥₁

-- a failure of the device is counted, of the store or of the sink, and nothing else
abbrev pub ConvertCounts : (old_store new_store old_sink new_sink : ℕ) → Result (Unit {0}) SendError → Type 0
ConvertCounts m n i j (Err Device) = (Rose m n × (j ≡ i)) ⊎ ((n ≡ m) × Rose i j)
ConvertCounts m n i j result = (n ≡ m) × (j ≡ i)

-- why a writer didn't start
abbrev pub send_error_of : WriteFault → SendError
send_error_of write.Memory = Memory
send_error_of other = Device
