-- What holds of the file of every dataset.
use Rattle.std.specs.Prelude.{Some, None, ◌≡◌, ◌↔◌, ℕ, ◌+◌, ◌*◌, ◌<◌, ◌≤◌, List, [], ◌++◌, length, take, drop}
use Rattle.ncc_values.specs.Numbers.{IsBytes, big_endian}
use Rattle.ncc_values.specs.Version.{count_width_of}
use Rattle.ncc_values.specs.XType.{size_of}
use Rattle.ncc_schema.specs.declared.schema.Header.{Header}
use Rattle.ncc_schema.specs.declared.schema.Schema.{Schema}
use Rattle.ncc_schema.specs.Schema.{Place, places_of, count_limit, with_count, Sound, IsTyped}
use Rattle.ncc_schema.specs.Header.{canon}
use Rattle.ncc_layout.specs.Standard.{standard_places, file_length}
use Rattle.ncc_layout.specs.Plans.{IsKnown, known}
use Rattle.ncc_check.specs.Passes.{PassesWith}
use Rattle.ncc_check.specs.Notes.{AreNotes}
use Rattle.ncc_build.specs.Dataset.{slabs_of, Dataset, IsDataset, data_of}
use Rattle.ncc_build.specs.Fill.{fills}
use Rattle.ncc_build.specs.File.{file_of, header_of, IsWritable}
use Rattle.ncc_build.specs.Building.{IsBuilt}
use Rattle.ncc_write.specs.Holds.{HoldsValues}
use Rattle.ncc_write.specs.Writing.{Next, first_of, next_of, IsWhole, slabs_behind, filled_in, data_length, written, Grows, dataset_of, IsFront, IsFrontOfFiles}

-- ---- files

-- the bytes pass, and their header is that of the schema, with the standard placement
pub record PassesAs (file : List ℕ) (limit : ℕ) (s : Schema) : Type 0 where
  pub header : Header
  pub passes : PassesWith file limit header
  pub schema_is : header.schema ≡ s
  pub places_are : places_of header.places ≡ standard_places s

-- and nothing is noted of it
pub record PassesUnnoted (file : List ℕ) (limit : ℕ) (s : Schema) : Type 0 where
  pub passes_as : PassesAs file limit s
  pub unnoted : AreNotes passes_as.header []

-- a builder's schema with these values: the version can tell it
pub record IsFinished (d : Dataset) : Type 0 where
  pub dataset : IsDataset d
  pub built : IsBuilt d.schema
  pub count : known d.schema.count < count_limit d.schema.version
  pub writable : IsWritable d.schema

-- the file of a dataset passes with its schema, where the version can tell its sizes and begins
abbrev pub FileIsPlaced : Type 0
FileIsPlaced = (d : Dataset) (limit : ℕ) → IsDataset d → IsWritable d.schema → length (header_of d.schema) ≤ limit
    → PassesAs (file_of d) limit d.schema

-- and without a note, where a builder gave the schema
abbrev pub FilePasses : Type 0
FilePasses = (d : Dataset) (limit : ℕ) → IsFinished d → length (header_of d.schema) ≤ limit
    → PassesUnnoted (file_of d) limit d.schema

-- it holds the dataset
abbrev pub FileHolds : Type 0
FileHolds = (d : Dataset) → IsDataset d → HoldsValues (file_of d) (standard_places d.schema) d

-- it is as long as the sizes say
abbrev pub FileLength : Type 0
FileLength = (d : Dataset) → IsDataset d → length (file_of d) ≡ file_length d.schema (known d.schema.count)

-- a dataset is told by the bytes of its values in writing order
abbrev pub DatasetTold : Type 0
DatasetTold = (d : Dataset) → IsDataset d → dataset_of d.schema (data_of d) ≡ d

-- a file holds one dataset of a schema at most, where each variable has a place
abbrev pub OneDataset : Type 0
OneDataset = (file : List ℕ) (places : List Place) (c d : Dataset) → IsDataset c → IsDataset d → c.schema ≡ d.schema
    → length places ≡ length d.schema.vars
    → HoldsValues file places c → HoldsValues file places d → c ≡ d

-- ---- streaming

-- what is written for all values of a dataset is its file
abbrev pub WrittenInFull : Type 0
WrittenInFull = (d : Dataset) → IsDataset d → written d.schema (data_of d) ≡ file_of d

-- as many bytes as the values of a schema have are the values of one dataset
abbrev pub BytesAreData : Type 0
BytesAreData = (s : Schema) (taken : List ℕ) → Sound s → IsTyped s → IsKnown s.count → IsBytes taken
    → length taken ≡ data_length s
    → IsDataset (dataset_of s taken) × (data_of (dataset_of s taken) ≡ taken)

-- nothing comes next exactly where the bytes of all values have been taken
abbrev pub CompleteWhenTaken : Type 0
CompleteWhenTaken = (s : Schema) (taken : List ℕ) → (next_of s taken ≡ None) ↔ (data_length s ≤ length taken)

-- what is written stays, whatever more is taken
abbrev pub WrittenStays : Type 0
WrittenStays = (s : Schema) (taken more : List ℕ) → IsFront (written s taken) (written s (taken ++ more))

-- what went out of what is written is a front of the file of every dataset whose values begin with what was taken
abbrev pub OutIsInFiles : Type 0
OutIsInFiles = (s : Schema) (taken out : List ℕ) → IsFront out (written s taken) → IsFrontOfFiles s taken out

-- taking some of the elements that are left of a slab
abbrev pub TakingGrows : Type 0
TakingGrows = (s : Schema) (taken bytes : List ℕ) (k : ℕ) (n : Next) → IsWhole s taken → next_of s taken ≡ Some n
    → length bytes ≡ k * size_of n.slab.var.xtype → k ≤ n.left → Grows s taken bytes k n

-- the first place of all, and the place after a slab that is full
pub record ComesNext (s : Schema) : Type 0 where
  pub first : next_of s [] ≡ first_of s (slabs_of s)
  pub behind : (taken bytes : List ℕ) (n : Next) → IsWhole s taken → next_of s taken ≡ Some n
      → length bytes ≡ n.left * size_of n.slab.var.xtype
      → next_of s (taken ++ bytes) ≡ first_of s (slabs_behind s n.slab)

-- which slab comes next
abbrev pub NextIsBehind : Type 0
NextIsBehind = (s : Schema) → Sound s → ComesNext s

-- filling in all that is left is filling in what is left of the next slab, and so on
abbrev pub FillingGoesOn : Type 0
FillingGoesOn = (s : Schema) (taken : List ℕ) (n : Next) → IsWhole s taken → next_of s taken ≡ Some n
    → filled_in s (slabs_of s) taken ≡ filled_in s (slabs_of s) (taken ++ fills n.left n.slab.var)

-- nothing is filled in where all has been taken
abbrev pub FillingEnds : Type 0
FillingEnds = (s : Schema) (taken : List ℕ) → next_of s taken ≡ None → length taken ≤ data_length s
    → filled_in s (slabs_of s) taken ≡ taken

-- ---- a completed file

-- the file of all that was taken: it passes without a note, with the schema that was built, and holds what was taken
pub record IsCompleted (s : Schema) (taken file : List ℕ) : Type 0 where
  pub dataset : IsDataset (dataset_of s taken)
  pub values : data_of (dataset_of s taken) ≡ taken
  pub file_is : file ≡ file_of (dataset_of s taken)
  pub passes : (limit : ℕ) → length (header_of s) ≤ limit → PassesUnnoted file limit s
  pub holds : HoldsValues file (standard_places s) (dataset_of s taken)

-- the bytes of all values of a schema that was built make a completed file
abbrev pub TakingAllCompletes : Type 0
TakingAllCompletes = (s : Schema) (taken : List ℕ) → IsBuilt s → IsKnown s.count
    → known s.count < count_limit s.version → IsWritable s
    → IsBytes taken → length taken ≡ data_length s → IsCompleted s taken (written s taken)

-- ---- the number of records

-- a canonical header whose count field is written again is that of the schema with that count
abbrev pub CountIsRewritten : Type 0
CountIsRewritten = (s : Schema) (places : List Place) (n : ℕ) → canon (with_count s n) places
    ≡ take 4 (canon s places) ++ big_endian (count_width_of s.version) n
    ++ drop (4 + count_width_of s.version) (canon s places)
