-- Where a copy of an open file stands.
use Rattle.std.specs.Prelude.{◌≡◌, ◌⊎◌, ℕ, ◌+◌, ◌-◌, ◌/◌, ltb, if◌then◌else◌, sum_by, false, Bool, IsTrue, List, [], ◌∷◌, Option, Some, Result, Ok, Err}
use Rattle.ncc_values.specs.Failures.{Rose}
use Rattle.ncc_values.specs.declared.failures.Device.{Device}
use Rattle.ncc_schema.specs.declared.schema.Schema.{Schema}
use Rattle.ncc_layout.specs.Sizes.{slab}
use Rattle.ncc_layout.specs.declared.placed_file.Placed.{Placed}
use Rattle.ncc_build.specs.Dataset.{Dataset, IsDataset, Slab, data_of, slabs_of}
use Rattle.ncc_build.specs.File.{file_of}
use Rattle.ncc_write.specs.declared.writer.FileWriter.{FileWriter}
use Rattle.ncc_write.specs.Writer.{Stands, schema_in, taken_in}
use Rattle.ncc_write.specs.Writing.{IsFront, WriterState, Went, expected}
use Rattle.ncc_convert.specs.Found.{IsOf}

-- the writer stands where it has taken a beginning of the values of the file's dataset
pub record Copies {W : Type 0} (told : Bool) (file : List ℕ) (p : Placed) (start put : Option (List ℕ))
    (x : FileWriter W) : Type 0 where
  pub state : WriterState
  pub stands : Stands start put x state
  pub goes : state.failed ≡ false
  pub front : IsTrue told → (d : Dataset) → IsDataset d → IsOf file p state.schema d
      → IsFront state.taken (data_of d)

-- ---- how often the store is read

-- the pieces in which so many bytes are read, of 65,536 at most
abbrev pub pieces : ℕ → ℕ
pieces n = (n + 65535) / 65536

-- those of all these slabs
abbrev pub pieces_of : Schema → List Slab → ℕ
pieces_of s slabs = sum_by (λ b. pieces (slab s.dims b.var)) slabs

-- those of the bytes that are still to come where so many were taken
abbrev pub pieces_behind : Schema → List Slab → (taken : ℕ) → ℕ
pieces_behind s [] n = 0
pieces_behind s (b ∷ slabs) n =
    let size = slab s.dims b.var in
    if ltb n size then pieces (size - n) + pieces_of s slabs else pieces_behind s slabs (n - size)

abbrev pub pieces_left : {W : Type 0} → FileWriter W → ℕ
pieces_left x = pieces_behind (schema_in x) (slabs_of (schema_in x)) (taken_in x)

-- ---- what comes next

-- the slab that comes next
abbrev pub Expects : {W : Type 0} → (put : Option (List ℕ)) → FileWriter W → (var number left : ℕ) → Type 0
Expects put x var number left =
    (start : Option (List ℕ)) (w : WriterState) → Stands start put x w → Some (var, number, left) ≡ expected w

-- a beginning of the file of the dataset by the planned schema went out
pub record HasFront (told : Bool) (file : List ℕ) (p : Placed) (planned : Schema) (start put : Option (List ℕ))
    : Type 0 where
  pub is : IsTrue told → (d : Dataset) → IsDataset d → IsOf file p planned d
      → Went start put (λ out. IsFront out (file_of d))

-- after a failure the count of the store or that of the sink rose, and not both; else none changed
abbrev pub CopyCounts : (old_store new_store old_sink new_sink : ℕ) → Result (Unit {0}) Device → Type 0
CopyCounts m n i j (Ok x) = (n ≡ m) × (j ≡ i)
CopyCounts m n i j (Err e) = (Rose m n × (j ≡ i)) ⊎ ((n ≡ m) × Rose i j)
