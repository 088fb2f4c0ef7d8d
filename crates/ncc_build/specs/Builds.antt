-- What a builder and a schema that is built are made of.
use Rattle.std.specs.Prelude.{List}
use Rattle.ncc_schema.specs.declared.schema.Schema.{Schema}
use Rattle.ncc_schema.specs.declared.schema.VarPlace.{VarPlace}
use Rattle.ncc_build.specs.declared.built.Built.{Built}
use Rattle.ncc_build.specs.declared.builder.SchemaBuilder.{SchemaBuilder}

-- the schema that the calls so far gave
abbrev pub schema_so_far : SchemaBuilder → Schema
schema_so_far b = b.schema

abbrev pub schema_of : Built → Schema
schema_of b = b.schema

-- the standard placement
abbrev pub places_of_built : Built → List VarPlace
places_of_built b = b.places
