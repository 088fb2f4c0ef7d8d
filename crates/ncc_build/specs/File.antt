-- The file of a dataset.
use Rattle.std.specs.Prelude.{ℕ, ◌/◌, ◌==◌, ◌&&◌, Bool, List, ◌++◌, length, zip, if◌then◌else◌}
use Rattle.std.specs.List.{flat_map}
use Rattle.ncc_values.specs.Padding.{padding_of}
use Rattle.ncc_values.specs.Values.{bytes_of}
use Rattle.ncc_values.specs.XType.{size_of}
use Rattle.ncc_values.specs.declared.values.Values.{Values}
use Rattle.ncc_schema.specs.declared.schema.Var.{Var}
use Rattle.ncc_schema.specs.declared.schema.Schema.{Schema}
use Rattle.ncc_schema.specs.Header.{canon}
use Rattle.ncc_schema.specs.Schema.{is_record_var}
use Rattle.ncc_layout.specs.Sizes.{record_vars, slab}
use Rattle.ncc_layout.specs.Standard.{standard_places, FitsVersion, OffsetsFit}
use Rattle.ncc_layout.specs.Plans.{known}
use Rattle.ncc_build.specs.Fill.{fills}
use Rattle.ncc_build.specs.Dataset.{Slab, slabs_of, Dataset, in_order}

-- there is one record variable alone, whose slabs aren't padded
abbrev pub is_lone : Schema → Var → Bool
is_lone s x = is_record_var s.dims x && (length (record_vars s.dims s.vars) == 1)

-- how many bytes of padding a slab has
abbrev pub padding_in : Schema → Var → ℕ
padding_in s x = if is_lone s x then 0 else padding_of (slab s.dims x)

-- the padding of a slab: fill values of the variable, always whole ones
abbrev pub padding_bytes : Schema → Var → List ℕ
padding_bytes s x = fills (padding_in s x / size_of x.xtype) x

-- the bytes of a slab, and its padding
abbrev pub padded : Schema → Slab × Values → List ℕ
padded s b = bytes_of b.1 ++ padding_bytes s b.0.var

-- the canonical header with the standard placement
abbrev pub header_of : Schema → List ℕ
header_of s = canon s (standard_places s)

-- the header, and each slab in writing order with its padding
abbrev pub file_of : Dataset → List ℕ
file_of d = header_of d.schema ++ flat_map (padded d.schema) (zip (slabs_of d.schema) (in_order d))

-- the version can tell all sizes and begins of the file
pub record IsWritable (s : Schema) : Type 0 where
  pub fits : FitsVersion s (known s.count)
  pub offsets : OffsetsFit s
