-- Fields that a row shows as they are.
use Rattle.std.specs.Prelude.{◌≡◌, ℕ, ◌<◌, false, List, [], ◌∷◌, ◌++◌, length}
use Rattle.std.specs.List.{flat_map}
use Rattle.csv.specs.Writing.{needs_quotes, default_writer}

-- a field with a byte, of which none calls for quotes
pub record IsPlain (field : List ℕ) : Type 0 where
  pub some : 0 < length field
  pub unquoted : needs_quotes default_writer field ≡ false

abbrev pub with_comma : (field : List ℕ) → List ℕ
with_comma field = field ++ 44 ∷ []

-- the fields, with a comma after each
abbrev pub with_commas : (fields : List (List ℕ)) → List ℕ
with_commas fields = flat_map with_comma fields
