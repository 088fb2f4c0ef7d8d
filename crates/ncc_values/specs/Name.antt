-- Names of dimensions, variables and attributes (NetCDF Classic Format Specification: `name` in the
-- grammar and "Note on names"): ([a-zA-Z0-9_]|{MUTF8})([^\x00-\x1F/\x7F-\xFF]|{MUTF8})*, with no space
-- at the end.
use Rattle.std.specs.Prelude.{ℕ, Bool, false, not, ◌&&◌, ◌||◌, ◌==◌, nat_le, List, [], ◌∷◌, length, slice_index, chars, IsTrue, IsUtf8}
use Rattle.std.specs.Char.{is_ascii_alphanumeric}
use Rattle.std.specs.Int.{is_in_range}
use Rattle.std.specs.List.{list_all}
use Rattle.std.specs.Str.{is_utf8}
use Rattle.unicode_normalization.specs.Forms.{IsInForm, is_nfc, Nfc}

abbrev pub space : ℕ
space = 0x20

abbrev pub slash : ℕ
slash = 0x2f

abbrev pub tilde : ℕ
tilde = 0x7e

abbrev pub underscore : ℕ
underscore = 0x5f

-- past ASCII (MUTF8)
abbrev pub is_multibyte : ℕ → Bool
is_multibyte c = nat_le 0x80 c

-- a letter, a digit, the underscore, or past ASCII
abbrev pub can_begin : ℕ → Bool
can_begin c = is_ascii_alphanumeric c || c == underscore || is_multibyte c

-- of ASCII any that prints but the slash, or past ASCII
abbrev pub can_follow : ℕ → Bool
can_follow c = (is_in_range space tilde c && not (c == slash)) || is_multibyte c

-- those of them that are ASCII
abbrev pub can_begin_plain : ℕ → Bool
can_begin_plain c = is_ascii_alphanumeric c || c == underscore

abbrev pub can_follow_plain : ℕ → Bool
can_follow_plain c = is_in_range space tilde c && not (c == slash)

-- the characters of a name: the first can begin it, each later one can follow, and the last is no space
abbrev pub are_name_characters : List ℕ → Bool
are_name_characters [] = false
are_name_characters (c ∷ cs) =
    can_begin c && (list_all can_follow cs && not (slice_index (c ∷ cs) (length cs) == space))

-- the bytes are a name: UTF-8, with such characters, in the normal form NFC
pub record FitsAsName (bytes : List ℕ) : Type 0 where
  pub utf8 : IsUtf8 bytes
  pub characters : IsTrue (are_name_characters (chars bytes))
  pub normal : IsInForm Nfc (chars bytes)

-- the same as a test
unfoldable pub is_name : List ℕ → Bool
is_name bytes = is_utf8 bytes && (are_name_characters (chars bytes) && is_nfc (chars bytes))
