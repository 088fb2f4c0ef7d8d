-- What differs from version to version.
use Rattle.std.specs.Prelude.{ℕ, Option, Some, None, ◌==◌, if◌then◌else◌}
use Rattle.ncc_values.specs.declared.version.Version.{Version}
use Rattle.ncc_values.specs.declared.version.Version.TheVariants.{V1, V2, V5}

-- the byte after the letters CDF
abbrev pub byte_of : Version → ℕ
byte_of V1 = 1
byte_of V2 = 2
byte_of V5 = 5

abbrev pub version_of : ℕ → Option Version
version_of n = if n == 1 then Some V1 else if n == 2 then Some V2 else if n == 5 then Some V5 else None

-- the bytes of a count, a length, a dimension number and a vsize
abbrev pub count_width_of : Version → ℕ
count_width_of V1 = 4
count_width_of V2 = 4
count_width_of V5 = 8

-- the bytes of a begin
abbrev pub offset_width_of : Version → ℕ
offset_width_of V1 = 4
offset_width_of V2 = 8
offset_width_of V5 = 8
