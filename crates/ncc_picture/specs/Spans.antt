-- Where bytes are drawn. A bar is 1000 units wide and 36 high.
use Rattle.std.specs.Prelude.{ℕ, ◌-◌, ◌*◌, ◌/◌, ◌^◌, ltb, min, max, List, ◌++◌, if◌then◌else◌}
use Rattle.ncc_picture.specs.Marks.{rect, titled}

-- where a place is drawn in a bar for so many bytes; what is past its end is drawn at its end
abbrev pub place : (far n : ℕ) → ℕ
place far n = if ltb far (2 ^ 64) then min n far * 1000 / max 1 far else min n far / (far / 1000)

-- how wide the bytes between two places are drawn: at least 1 unit
abbrev pub width : (far from to : ℕ) → ℕ
width far from to = max 1 (place far to - place far from)

-- the bytes from here up to there, with words
unfoldable pub span : (far y : ℕ) (class : List ℕ) (from to : ℕ) (title : List ℕ) → List ℕ
span far y class from to title = rect class (place far from) y (width far from to) 36 ++ titled title
