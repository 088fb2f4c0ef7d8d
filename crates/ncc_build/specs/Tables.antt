-- The names of a list, and those of the attributes of each variable.
use Rattle.std.specs.Prelude.{◌≡◌, ◌<◌, ℕ, zero, suc, false, List, [], ◌∷◌, ◌++◌, length, map, get_or, take}
use Rattle.ncc_schema.specs.declared.schema.Schema.{Schema}
use Rattle.ncc_build.specs.Building.{attr_names, is_duplicate_name}

-- none of them is the same as one before it
abbrev pub NoneTwice : List (List ℕ) → Type 0
NoneTwice names = (k : ℕ) → k < length names → is_duplicate_name (get_or names k []) (take k names) ≡ false

-- in the order of the variables
abbrev pub names_of_attrs : Schema → List (List (List ℕ))
names_of_attrs s = map (λ x. attr_names x.attrs) s.vars

-- those of one variable
abbrev pub names_at : List (List (List ℕ)) → (var : ℕ) → List (List ℕ)
names_at tables n = get_or tables n []

-- with one name more of this variable
abbrev pub with_name : List (List (List ℕ)) → (var : ℕ) → (name : List ℕ) → List (List (List ℕ))
with_name [] n name = []
with_name (names ∷ tables) zero name = (names ++ name ∷ []) ∷ tables
with_name (names ∷ tables) (suc n) name = names ∷ with_name tables n name
