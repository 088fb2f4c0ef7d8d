-- What bytes are worth while a record joins a file, and after.
use Rattle.std.specs.Prelude.{◌≡◌, ℕ, List}
use Rattle.ncc_schema.specs.declared.schema.Header.{Header}
use Rattle.ncc_schema.specs.declared.schema.Schema.{Schema}
use Rattle.ncc_layout.specs.declared.placed_file.Placed.{Placed}
use Rattle.ncc_layout.specs.Packed.{IsPacked}
use Rattle.ncc_layout.specs.Placed.{header_length_of, file_length_of, record_size_of_file, records_of_file, vars_of}
use Rattle.ncc_layout.specs.Plans.{IsKnown}
use Rattle.ncc_check.specs.Appending.{HasNoRecordVariable}
use Rattle.ncc_check.specs.Checks.{Opens}
use Rattle.ncc_check.specs.Passes.{PassesWith}

-- nothing but want of room is against one more record
pub record CanGrow (s : Schema) (p : Placed) : Type 0 where
  pub some : HasNoRecordVariable p → ⊥
  pub packed : IsPacked p
  pub counted : IsKnown s.count

-- these bytes pass with this header, and opened anew take one more record where there is room
pub record PassesOn (bytes : List ℕ) (limit : ℕ) (h : Header) : Type 0 where
  pub passes : PassesWith bytes limit h
  pub again : (t : Schema) (q : Placed) → Opens bytes limit t q → CanGrow t q

-- the same placed file, in a file of this length
pub record ShowsSame (p : Placed) (file : ℕ) (q : Placed) : Type 0 where
  pub header_is : header_length_of q ≡ header_length_of p
  pub length_is : file_length_of q ≡ file
  pub size_is : record_size_of_file q ≡ record_size_of_file p
  pub records_are : records_of_file q ≡ records_of_file p
  pub vars_are : vars_of q ≡ vars_of p
