-- The schema of an open file, planned in another version.
use Rattle.std.specs.Prelude.{◌≡◌}
use Rattle.ncc_schema.specs.declared.schema.Schema.{Schema}
use Rattle.ncc_schema.specs.Schema.{with_count}
use Rattle.ncc_layout.specs.declared.placed_file.Placed.{Placed}
use Rattle.ncc_layout.specs.Placed.{records_of_file}
use Rattle.ncc_build.specs.Dataset.{with_version}

-- the schema of an open file, with the number of records that were found: of a file that is still written its header
-- doesn't tell it
abbrev pub found_schema : Schema → Placed → Schema
found_schema s p = with_count s (records_of_file p)

-- a schema that says the same as an open file's in its own version
abbrev pub IsPlanned : Schema → Placed → (planned : Schema) → Type 0
IsPlanned s p t = t ≡ with_version (found_schema s p) t.version
