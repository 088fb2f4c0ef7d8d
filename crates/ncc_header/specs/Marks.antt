-- What a header's fields show beside its schema and placement: its marks, and where its begin fields are.
use Rattle.std.specs.Prelude.{ℕ, ◌-◌, List, [], ◌∷◌, Bool, true, if◌then◌else◌, ◌==◌, ◌&&◌}
use Rattle.std.specs.List.{flat_map}
use Rattle.ncc_schema.specs.declared.schema.Mark.{Mark}
use Rattle.ncc_schema.specs.declared.schema.Mark.TheVariants as of
use Rattle.ncc_header.specs.Grammar.{Label, Padding, CountOfTagged, Begin, Field, fields}
use Rattle.ncc_header.specs.Fields.{header}

abbrev pub all_zero : List ℕ → Bool
all_zero [] = true
all_zero (b ∷ bytes) = (b == 0) && all_zero bytes

-- a padding with a byte that isn't zero; a tag that isn't zero, four bytes before a number of items that is
abbrev pub mark_of : Label → (at : ℕ) → (bytes : List ℕ) → List Mark
mark_of Padding at bytes = if all_zero bytes then [] else of.Padding at ∷ []
mark_of CountOfTagged at bytes = if all_zero bytes then of.TaggedEmpty (at - 4) ∷ [] else []
mark_of _ at bytes = []

-- in the order of their offsets, as the fields are
abbrev pub marks : List Field → List Mark
marks fs = flat_map (λ f. mark_of f.label f.at f.bytes) fs

abbrev pub begin_of : Label → (at : ℕ) → List ℕ
begin_of Begin at = at ∷ []
begin_of _ at = []

-- where the begin fields start
abbrev pub begins : List Field → List ℕ
begins fs = flat_map (λ f. begin_of f.label f.at) fs

-- those of a header
abbrev pub header_marks : (header : List ℕ) → List Mark
header_marks b = marks (fields header 0 b)

abbrev pub header_begins : (header : List ℕ) → List ℕ
header_begins b = begins (fields header 0 b)
