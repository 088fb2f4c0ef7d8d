-- What a picture says: of variables what `ncc layout` says, with long names cut.
use Rattle.std.specs.Prelude.{ℕ, ◌+◌, ◌%◌, ltb, List, [], ◌∷◌, ◌++◌, Option, Some, None, length, take, if◌then◌else◌, codes, decimal}
use Rattle.ncc_schema.specs.declared.schema.Schema.{Schema}
use Rattle.ncc_places.specs.Words.{between_words, extent_words, variable_name}
use Rattle.ncc_picture.specs.declared.parts.Part.{Part}

-- at most 40 characters of a name
abbrev pub cut : List ℕ → List ℕ
cut name = if ltb 40 (length name) then take 40 name ++ codes ".." else name

-- a variable: its number and name, its kind, begin and end, and the gap before it or what it shares
unfoldable pub part_words : Schema → Part → List ℕ
part_words s p =
    codes "variable " ++ (decimal p.extent.variable ++ (codes " " ++ (cut (variable_name s p.extent.variable)
    ++ (extent_words p.extent ++ between_words p.past p.extent.begin))))

-- a word and a number
abbrev pub counted_words : (word : List ℕ) (n : ℕ) → List ℕ
counted_words word n = word ++ decimal n

-- what stands above the bars
unfoldable pub file_label : List ℕ
file_label = codes "the file, bytes 0 to "

unfoldable pub record_label : List ℕ
record_label = codes "one record, bytes 0 to "

-- so many variables without a line of their own, which have so many bytes
unfoldable pub others_words : (count bytes : ℕ) → List ℕ
others_words count bytes = codes "others " ++ (decimal count ++ (codes " bytes " ++ decimal bytes))

-- ---- classes

-- of a variable: nine colours again and again, and a tenth for those without a line of their own
abbrev pub class_of : (line : Option ℕ) → List ℕ
class_of None = 99 ∷ 57 ∷ []
class_of (Some line) = 99 ∷ (48 + line % 9) ∷ []
