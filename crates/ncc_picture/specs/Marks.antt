-- The markup of a picture: rectangles and texts.
use Rattle.std.specs.Prelude.{ℕ, ◌==◌, List, [], ◌∷◌, ◌++◌, if◌then◌else◌, codes, decimal}
use Rattle.std.specs.List.{flat_map}

-- ---- texts

-- a byte of a text, or what stands for it where it has a meaning in markup
abbrev pub entity : ℕ → List ℕ
entity b =
    if b == 38 then codes "&amp;"
    else if b == 60 then codes "&lt;"
    else if b == 62 then codes "&gt;"
    else if b == 34 then codes "&quot;"
    else b ∷ []

abbrev pub entities : List ℕ → List ℕ
entities text = flat_map entity text

-- ---- elements

-- a number by its name
unfoldable pub attribute : (name : List ℕ) (n : ℕ) → List ℕ
attribute name n = name ++ (codes "=\"" ++ (decimal n ++ codes "\""))

-- a rectangle of a class, up to its numbers
unfoldable pub rect_of : (class : List ℕ) → List ℕ
rect_of class = codes "<rect" ++ (codes " class=\"" ++ (class ++ codes "\""))

-- up to their end
unfoldable pub rect : (class : List ℕ) (x y width height : ℕ) → List ℕ
rect class x y width height =
    rect_of class ++ (attribute (codes " x") x ++ (attribute (codes " y") y
    ++ (attribute (codes " width") width ++ attribute (codes " height") height)))

-- its end, where it has no words of its own
abbrev pub bare : List ℕ
bare = codes "/>\n"

-- a text between two pieces of markup
unfoldable pub between : (start text end : List ℕ) → List ℕ
between start text end = start ++ (entities text ++ end)

-- its words, which a browser shows under the pointer, and its end
abbrev pub titled : (title : List ℕ) → List ℕ
titled title = between (codes "><title>") title (codes "</title></rect>\n")

-- a text that begins here
unfoldable pub text_at : (x y : ℕ) (text : List ℕ) → List ℕ
text_at x y text =
    codes "<text" ++ (attribute (codes " x") x ++ (attribute (codes " y") y
    ++ between (codes ">") text (codes "</text>\n")))
