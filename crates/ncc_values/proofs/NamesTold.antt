-- The rule of names, and its test.
use Rattle.std.proofs.Common.{◌≡◌, ◌↔◌, ℕ, true, ◌&&◌, List, chars}
use Rattle.std.specs.Prelude.{IsTrue}
use Rattle.std.specs.Str.{is_utf8}
use Rattle.std.proofs.lemmas.Bool.{and_parts}
use Rattle.std.proofs.lemmas.Slice.Eq.{bytes_eq-Decides}
use Rattle.std.proofs.lemmas.Str.{IsUtf8-from_is_utf8, is_utf8-from_IsUtf8}
use Rattle.unicode_normalization.specs.Forms.{nfc, is_nfc}
use Rattle.ncc_values.specs.Name.{are_name_characters, FitsAsName, is_name}

told_name : (name : List ℕ) → is_name name ≡ true → FitsAsName name
unfolding is_name
told_name name told =
    let text = and_parts (is_utf8 name) (are_name_characters (chars name) && is_nfc (chars name)) told in
    let form = and_parts (are_name_characters (chars name)) (is_nfc (chars name)) text.1 in
    record {
      utf8 = IsUtf8-from_is_utf8 name text.0;
      characters = form.0;
      normal = (bytes_eq-Decides (nfc (chars name)) (chars name)).0 form.1;
    }

pub name_is : (name : List ℕ) → FitsAsName name → is_name name ≡ true
unfolding is_name
name_is name fits =
    rw (is_utf8-from_IsUtf8 name fits.utf8, fits.characters) ((bytes_eq-Decides (nfc (chars name)) (chars name)).1 fits.normal)

pub name_told : (name : List ℕ) → IsTrue (is_name name) ↔ FitsAsName name
name_told name = (told_name name, name_is name)
