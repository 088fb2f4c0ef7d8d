-- The records in the bar of the whole file.
use Rattle.std.specs.Prelude.{ℕ, zero, suc, ◌+◌, ◌*◌, ◌==◌, ltb, List, [], ◌++◌, Option, Some, None, if◌then◌else◌, codes}
use Rattle.ncc_places.specs.declared.ends.Records.{Records}
use Rattle.ncc_places.specs.Words.{record_line}
use Rattle.ncc_picture.specs.Marks.{bare, rect}
use Rattle.ncc_picture.specs.Spans.{place, span}

-- a line where the record with this number begins
abbrev pub division : (far begin size number : ℕ) → List ℕ
division far begin size number = rect (codes "cut") (place far (begin + number * size)) 30 1 36 ++ bare

-- those of the first so many
abbrev pub divisions : (far begin size count : ℕ) → List ℕ
divisions far begin size zero = []
divisions far begin size (suc number) = divisions far begin size number ++ division far begin size number

-- all bytes from the first record to the last, divided where there are at most 64
abbrev pub band : (far : ℕ) → Records → List ℕ
band far r =
    span far 30 (codes "records") r.begin r.end (record_line r)
    ++ (if ltb 64 r.count then [] else divisions far r.begin r.size r.count)

abbrev pub band_of : (far : ℕ) → Option Records → List ℕ
band_of far None = []
band_of far (Some r) = if r.count == 0 then [] else band far r
