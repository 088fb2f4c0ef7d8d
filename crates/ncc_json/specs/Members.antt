-- Members of the objects that `--json` prints, token by token.
use Rattle.std.specs.Prelude.{ℕ, ◌^◌, ltb, List, [], ◌∷◌, ◌++◌, codes, decimal, if◌then◌else◌}
use Rattle.std.specs.Str.{is_utf8}
use Rattle.hex.specs.Hex.{encode_lower}
use Rattle.json.specs.Token.{Token, begin_array, begin_object, end_object, key, number, string}

-- ---- values

-- two hexadecimal digits for each byte, in an object of their own
abbrev pub hex_value : (bytes : List ℕ) → List Token
hex_value bytes = (begin_object ∷ []) ++ ((key (codes "hex") ∷ []) ++ ((string (encode_lower bytes) ∷ []) ++ (end_object ∷ [])))

-- bytes as a text; where they aren't UTF-8, their digits
abbrev pub bytes_value : (bytes : List ℕ) → List Token
bytes_value bytes = if is_utf8 bytes then string bytes ∷ [] else hex_value bytes

-- a number; where it has more than 64 bits, a text with its digits
abbrev pub wide_value : ℕ → List Token
wide_value n = if ltb n (2 ^ 64) then number (decimal n) ∷ [] else string (decimal n) ∷ []

-- ---- members

unfoldable pub number_member : (name : List ℕ) (n : ℕ) → List Token
number_member name n = (key name ∷ []) ++ (number (decimal n) ∷ [])

unfoldable pub wide_member : (name : List ℕ) (n : ℕ) → List Token
wide_member name n = (key name ∷ []) ++ wide_value n

unfoldable pub text_member : (name text : List ℕ) → List Token
text_member name text = (key name ∷ []) ++ (string text ∷ [])

unfoldable pub bytes_member : (name bytes : List ℕ) → List Token
bytes_member name bytes = (key name ∷ []) ++ bytes_value bytes

-- a list, and an object, up to its first item
unfoldable pub list_start : (name : List ℕ) → List Token
list_start name = (key name ∷ []) ++ (begin_array ∷ [])

unfoldable pub object_start : (name : List ℕ) → List Token
object_start name = (key name ∷ []) ++ (begin_object ∷ [])

-- a fault with its offset
unfoldable pub fault_members : (fault : List ℕ) (offset : ℕ) → List Token
fault_members fault offset = text_member (codes "verdict") (codes "fault") ++ (text_member (codes "fault") fault ++ number_member (codes "offset") offset)
