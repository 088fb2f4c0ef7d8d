-- What a placed file holds.
use Rattle.std.specs.Prelude.{◌≡◌, ℕ, ◌+◌, ◌<◌, List, map, length, get_or, Result, Ok, Err}
use Rattle.std.specs.List.{AllByRecursion}
use Rattle.ncc_schema.specs.declared.schema.Schema.{Schema}
use Rattle.ncc_schema.specs.declared.schema.VarPlace.{VarPlace}
use Rattle.ncc_schema.specs.Schema.{Place, places_of}
use Rattle.ncc_layout.specs.declared.extent.Extent.{Extent}
use Rattle.ncc_layout.specs.declared.fault.LayoutFault.{LayoutFault}
use Rattle.ncc_layout.specs.declared.fault.LayoutFaultKind.{LayoutFaultKind}
use Rattle.ncc_layout.specs.declared.fault.PlaceError.{PlaceError}
use Rattle.ncc_layout.specs.declared.fault.PlaceError.TheVariants.{Fault, Memory}
use Rattle.ncc_layout.specs.declared.judging.Frame.{Frame}
use Rattle.ncc_layout.specs.declared.placed_var.PlacedVar.{PlacedVar}
use Rattle.ncc_layout.specs.declared.placed_file.Placed.{Placed}
use Rattle.ncc_layout.specs.Sizes.{record_size_of}
use Rattle.ncc_layout.specs.Extents.{NumberedFrom, record_count}
use Rattle.ncc_layout.specs.Elements.{var_at, HasShape, placed_vars, with_records, AreLaid, AreSized, LiesInFile}
use Rattle.ncc_layout.specs.Rules.{Rules, IsPlaced}
use Rattle.ncc_layout.specs.Faults.{FirstFault}

-- ---- what a placed file shows

abbrev pub header_length_of : Placed → ℕ
header_length_of p = p.header_length

abbrev pub file_length_of : Placed → ℕ
file_length_of p = p.file_length

abbrev pub record_size_of_file : Placed → ℕ
record_size_of_file p = p.record_size

abbrev pub records_of_file : Placed → ℕ
records_of_file p = p.records

abbrev pub vars_of : Placed → List PlacedVar
vars_of p = p.vars.items

abbrev pub extents_of_file : Placed → List Extent
extents_of_file p = map (λ x. x.extent) (vars_of p)

-- an element of this variable at this place lies past the header and in the file
abbrev pub IsInFile : Placed → (number place : ℕ) → Type 0
IsInFile p n place = LiesInFile (header_length_of p) (file_length_of p) (var_at (vars_of p) n) place

-- variables of such shapes, numbered in their order, keep all rules, and the sizes are theirs
pub record KeepsRules (p : Placed) : Type 0 where
  pub shaped : AllByRecursion (HasShape (records_of_file p)) (vars_of p)
  pub numbered : NumberedFrom 0 (extents_of_file p)
  pub rules :
      Rules (header_length_of p) (file_length_of p) (record_size_of_file p) (records_of_file p) (extents_of_file p)
  pub sized : AreSized (record_size_of_file p) (vars_of p)

-- all rules hold with one more record, in a file of this length
abbrev pub HasRoom : Placed → (file : ℕ) → Type 0
HasRoom p file = Rules (header_length_of p) file (record_size_of_file p) (records_of_file p + 1) (extents_of_file p)

-- ---- what it holds

-- the offset of a variable's begin field
abbrev pub begin_field : List VarPlace → (number : ℕ) → ℕ
begin_field places n = get_or (map (λ p. p.begin_at) places) n 0

-- the fault of a variable
abbrev pub fault_at : List VarPlace → LayoutFaultKind → (number : ℕ) → LayoutFault
fault_at places kind n = record { kind = kind; offset = begin_field places n }

-- the placed file of this schema, at these places, with a header and a file of these lengths
pub record Holds (s : Schema) (places : List Place) (header length : ℕ) (p : Placed) : Type 0 where
  pub header_is : header_length_of p ≡ header
  pub length_is : file_length_of p ≡ length
  pub size_is : record_size_of_file p ≡ record_size_of s
  pub records_are : records_of_file p ≡ record_count s places length
  pub vars_are : vars_of p ≡ placed_vars s places length

-- the same placed file with one more record, in a file of this length
pub record HasOneMore (p : Placed) (file : ℕ) (q : Placed) : Type 0 where
  pub header_is : header_length_of q ≡ header_length_of p
  pub length_is : file_length_of q ≡ file
  pub size_is : record_size_of_file q ≡ record_size_of_file p
  pub records_are : records_of_file q ≡ records_of_file p + 1
  pub vars_are : vars_of q ≡ map (with_records (records_of_file p + 1)) (vars_of p)

-- the placed file, or the first fault and the begin field of its variable
abbrev pub PlacedAs : Schema → List VarPlace → (header file : ℕ) → Result Placed PlaceError → Type 0
PlacedAs s places header file (Ok p) =
    IsPlaced s (places_of places) header file × Holds s (places_of places) header file p
PlacedAs s places header file (Err (Fault f)) =
    (n : ℕ) × FirstFault s (places_of places) header file f.kind n
    × (n < length places) × (f.offset ≡ begin_field places n)
PlacedAs s places header file (Err Memory) = Unit {0}

-- all rules hold, and there are so many records; or the same first fault
abbrev pub RecordsAs : Schema → List VarPlace → (header file : ℕ) → Result ℕ PlaceError → Type 0
RecordsAs s places header file (Ok n) =
    IsPlaced s (places_of places) header file × (n ≡ record_count s (places_of places) file)
RecordsAs s places header file (Err e) = PlacedAs s places header file (Err e)

-- ---- on the way to it

-- the numbers by which the extents are judged
pub record IsFrame (s : Schema) (places : List Place) (header length : ℕ) (f : Frame) : Type 0 where
  pub header_is : f.header_length ≡ header
  pub length_is : f.file_length ≡ length
  pub size_is : f.record_size ≡ record_size_of s
  pub records_are : f.records ≡ record_count s places length

-- all rules hold by these numbers; or the same first fault
abbrev pub JudgedAs : Schema → List VarPlace → (header file : ℕ) → Result Frame PlaceError → Type 0
JudgedAs s places header file (Ok f) =
    IsPlaced s (places_of places) header file × IsFrame s (places_of places) header file f
JudgedAs s places header file (Err e) = PlacedAs s places header file (Err e)

-- the variables keep the rules by these numbers
abbrev pub IsLaid : Frame → List PlacedVar → Type 0
IsLaid f vars = AreLaid f.header_length f.file_length f.record_size f.records vars

pub record HasLaid (f : Frame) (vars : List PlacedVar) (p : Placed) : Type 0 where
  pub header_is : header_length_of p ≡ f.header_length
  pub length_is : file_length_of p ≡ f.file_length
  pub size_is : record_size_of_file p ≡ f.record_size
  pub records_are : records_of_file p ≡ f.records
  pub vars_are : vars_of p ≡ vars
