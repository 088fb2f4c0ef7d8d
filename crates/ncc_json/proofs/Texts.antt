-- Bytes that are a text, and bytes that aren't.
use Rattle.std.proofs.Common.{◌≡◌, ℕ, Bool, true, false, List, [], ◌∷◌, refl}
use Rattle.std.specs.Str.{IsUtf8, is_utf8}
use Rattle.std.proofs.lemmas.Str.{IsUtf8-from_is_utf8, is_utf8-from_IsUtf8}
use Rattle.json.specs.Token.{Token, string}
use Rattle.ncc_json.specs.Members.{bytes_value, hex_value}

pub text_value : (bytes : List ℕ) → IsUtf8 bytes → string bytes ∷ [] ≡ bytes_value bytes
text_value bytes is = rw (is_utf8-from_IsUtf8 bytes is) refl

by_test : (bytes : List ℕ) (b : Bool) → is_utf8 bytes ≡ b → (IsUtf8 bytes → ⊥) → hex_value bytes ≡ bytes_value bytes
by_test bytes true e other = absurd (other (IsUtf8-from_is_utf8 bytes e))
by_test bytes false e other = rw e refl

pub digits_value : (bytes : List ℕ) → (IsUtf8 bytes → ⊥) → hex_value bytes ≡ bytes_value bytes
digits_value bytes other = by_test bytes (is_utf8 bytes) refl other
