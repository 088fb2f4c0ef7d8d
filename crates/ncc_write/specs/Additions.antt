-- A file that holds a dataset, and takes more records.
use Rattle.std.specs.Prelude.{◌≡◌, ℕ, List}
use Rattle.ncc_values.specs.declared.values.Values.{Values}
use Rattle.ncc_schema.specs.declared.schema.Header.{Header}
use Rattle.ncc_schema.specs.declared.schema.Schema.{Schema}
use Rattle.ncc_schema.specs.Schema.{Place, places_of}
use Rattle.ncc_layout.specs.declared.placed_file.Placed.{Placed}
use Rattle.ncc_check.specs.Appending.{TakesRecord}
use Rattle.ncc_check.specs.AppendLaws.{CanGrow}
use Rattle.ncc_check.specs.Checks.{Opens}
use Rattle.ncc_check.specs.Passes.{PassesWith}
use Rattle.ncc_build.specs.Dataset.{Dataset, IsDataset}
use Rattle.ncc_write.specs.Holds.{HoldsValues}
use Rattle.ncc_write.specs.Records.{IsRecord}

-- the bytes pass, with the dataset's schema at these places, and hold the dataset
pub record HoldsAll (bytes : List ℕ) (limit : ℕ) (places : List Place) (d : Dataset) : Type 0 where
  pub header : Header
  pub passes : PassesWith bytes limit header
  pub schema_is : header.schema ≡ d.schema
  pub places_are : places_of header.places ≡ places
  pub holds : HoldsValues bytes places d

-- and opened anew they take more records, until there is no room
pub record HoldsOn (bytes : List ℕ) (limit : ℕ) (places : List Place) (d : Dataset) : Type 0 where
  pub all : HoldsAll bytes limit places d
  pub again : (t : Schema) (q : Placed) → Opens bytes limit t q → CanGrow t q

-- an open file of these bytes, which hold the dataset, takes a record of these slabs
pub record Adds (bytes : List ℕ) (limit : ℕ) (places : List Place) (d : Dataset) (s : Schema) (p : Placed)
    (slabs : List Values) : Type 0 where
  pub dataset : IsDataset d
  pub all : HoldsAll bytes limit places d
  pub opens : Opens bytes limit s p
  pub takes : TakesRecord s p
  pub fits : IsRecord d.schema slabs
