-- The file that a conversion makes.
use Rattle.std.specs.Prelude.{◌≡◌, ◌≢◌, ◌⊎◌, ◌+◌, ◌≤◌, Bool, IsTrue, List, ℕ, length, Option, Some}
use Rattle.ncc_values.specs.Failures.{Rose}
use Rattle.ncc_values.specs.declared.version.Version.{Version}
use Rattle.ncc_schema.specs.declared.sink.Sink.{Ghosts}
use Rattle.ncc_schema.specs.declared.schema.Schema.{Schema}
use Rattle.ncc_layout.specs.declared.placed_file.Placed.{Placed}
use Rattle.ncc_check.specs.Checks.{Opens}
use Rattle.ncc_build.specs.Dataset.{Dataset, IsDataset, slabs_of, with_version}
use Rattle.ncc_build.specs.File.{file_of, header_of}
use Rattle.ncc_write.specs.Planned.{found_schema}
use Rattle.ncc_convert.specs.Converting.{IsSomeFile, ReadsAs}
use Rattle.ncc_convert.specs.Copying.{pieces_of}
use Rattle.ncc_convert.specs.Found.{IsOf}
use Rattle.ncc_answers.specs.declared.answer.Answer.{Answer}
use Rattle.ncc_answers.specs.declared.answer.Answer.TheVariants.{Device}

-- the schema of an open file, in this version
abbrev pub in_version : Version → Schema → Placed → Schema
in_version v s p = with_version (found_schema s p) v

-- The file that was made is exactly that of what an open file holds, by this schema, where its bytes are told; whatever
-- they are it is the file of some dataset. It passes without a note, and reads back as it was written.
pub record IsFileOf (told : Bool) (file : List ℕ) (p : Placed) (t : Schema) (made : Option (List ℕ)) : Type 0 where
  pub bytes : List ℕ
  pub is : made ≡ Some bytes
  pub some : ∥ IsSomeFile t bytes ∥₁
  pub exactly : IsTrue told → (d : Dataset) → IsDataset d → IsOf file p t d → bytes ≡ file_of d
  pub reads : (limit : ℕ) → length (header_of t) ≤ limit → ReadsAs told file p t limit bytes

-- there is a dataset that an open file holds, by this schema, and the file that was made is exactly its
pub record HasDataset (file : List ℕ) (p : Placed) (t : Schema) (made : Option (List ℕ)) : Type 0 where
  pub dataset : Dataset
  pub is : IsDataset dataset
  pub of : IsOf file p t dataset
  pub made_is : made ≡ Some (file_of dataset)

-- the file of what these bytes hold, in this version
abbrev pub IsConverted : (told : Bool) → (bytes : List ℕ) → (limit : ℕ) → Version → (made : Option (List ℕ)) → Type 0
IsConverted told b limit v made = (s : Schema) × (p : Placed) × Opens b limit s p
    × IsFileOf told b p (in_version v s p) made × (IsTrue told → ∥ HasDataset b p (in_version v s p) made ∥₁)

-- the calls of a check, and for a file that passes one for each piece of its slabs
abbrev pub FewCalls : (bytes : List ℕ) → (limit : ℕ) → Version → (checked : ℕ) → (old new : ℕ) → Type 0
FewCalls b limit v checked old new = (new ≤ old + checked) ⊎ ((s : Schema) × (p : Placed) × Opens b limit s p
    × (new ≤ old + checked + pieces_of (in_version v s p) (slabs_of (in_version v s p))))

-- which failures an answer tells, of a target and a store with these counts: Device only where one of them rose, and
-- else none changed
pub record FailsInto (target made : ℕ) (answer : Answer) (before after : ℕ) : Type 0 where
  pub quiet : answer ≢ Device → (after ≡ before) × (made ≡ target)
  pub device : answer ≡ Device → Rose before after ⊎ Rose target made

-- the same of a target, a sink and a store; where the count of one but the sink changed, the sink wasn't called
pub record FailsAny (target made : ℕ) {W : Type 0} (g : Ghosts W) (sink sent : W) (answer : Answer) (before after : ℕ) : Type 0 where
  pub quiet : answer ≢ Device → (after ≡ before) × (made ≡ target) × (g.failures sent ≡ g.failures sink)
  pub device : answer ≡ Device → Rose before after ⊎ Rose target made ⊎ Rose (g.failures sink) (g.failures sent)
  pub still : (after ≡ before → ⊥) ⊎ (made ≡ target → ⊥) → g.calls sent ≡ g.calls sink
