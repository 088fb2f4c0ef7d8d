-- The plan of a file that is to be written.
use Rattle.std.specs.Prelude.{◌≡◌, ◌≤◌, ℕ, length}
use Rattle.ncc_schema.specs.declared.schema.Header.{Header}
use Rattle.ncc_schema.specs.declared.schema.Schema.{Schema}
use Rattle.ncc_schema.specs.Schema.{places_of}
use Rattle.ncc_layout.specs.Standard.{file_length, standard_places}
use Rattle.ncc_build.specs.declared.fault.WriteFault.{WriteFault}
use Rattle.ncc_build.specs.declared.fault.WriteFault.TheVariants.{BadName, DuplicateName, TwoRecordDims, BadDimId, RecordDimNotFirst, TypeForVersion, CountForVersion, OffsetForVersion, SizeForVersion, Memory}
use Rattle.ncc_build.specs.File.{header_of}
use Rattle.ncc_front.specs.Judging.{FindsOf}
use Rattle.ncc_plan.specs.declared.planning.Plan.{Plan}

-- The canonical header, with the standard places. Each file of this length that begins with it passes with this schema,
-- and has its variables there, whatever the limit is that the header keeps.
pub record IsPlanOf (s : Schema) (records : ℕ) (p : Plan) : Type 0 where
  pub header_is : p.header.items ≡ header_of s
  pub length_is : p.file_length ≡ file_length s records
  pub found : Header
  pub schema_is : found.schema ≡ s
  pub places_are : places_of found.places ≡ standard_places s
  pub finds : (limit : ℕ) → length (header_of s) ≤ limit → FindsOf (header_of s) p.file_length limit found p.placed

-- why a schema isn't planned: nothing of values or of a device
abbrev pub IsOfSchema : WriteFault → Type 0
IsOfSchema BadName = Unit {0}
IsOfSchema DuplicateName = Unit {0}
IsOfSchema TwoRecordDims = Unit {0}
IsOfSchema BadDimId = Unit {0}
IsOfSchema RecordDimNotFirst = Unit {0}
IsOfSchema TypeForVersion = Unit {0}
IsOfSchema CountForVersion = Unit {0}
IsOfSchema OffsetForVersion = Unit {0}
IsOfSchema SizeForVersion = Unit {0}
IsOfSchema Memory = Unit {0}
IsOfSchema _ = ⊥
