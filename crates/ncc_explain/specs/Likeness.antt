-- What a file looks like that doesn't begin with the letters of a netCDF classic file.
use Rattle.std.specs.Prelude.{ℕ, ◌==◌, List, [], ◌++◌, length, codes, if◌then◌else◌}

-- the format whose files begin with these three bytes, as a number; empty where it is none of these
abbrev pub likeness : (letters : ℕ) → List ℕ
likeness n =
    if n == 0x894844 then codes "HDF5, as a netCDF-4 file does"
    else if n == 0x0e0313 then codes "HDF4"
    else if n == 0x475249 then codes "GRIB"
    else if n == 0x425546 then codes "BUFR"
    else if n == 0x1f8b08 then codes "a file packed by gzip"
    else if n == 0x425a68 then codes "a file packed by bzip2"
    else if n == 0xfd377a then codes "a file packed by xz"
    else if n == 0x28b52f then codes "a file packed by zstd"
    else if n == 0x504b03 then codes "a zip archive"
    else if n == 0x3c2144 then codes "a web page"
    else []

unfoldable pub likeness_line : (words : List ℕ) → List ℕ
likeness_line words = codes "    it looks like " ++ (words ++ codes "\n")

abbrev pub lines_like : (words : List ℕ) → List ℕ
lines_like words = if length words == 0 then [] else likeness_line words
