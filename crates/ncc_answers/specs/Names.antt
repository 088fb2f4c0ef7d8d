-- Lists of the names of files, each ended by a NUL byte.
use Rattle.std.specs.Prelude.{◌≡◌, ◌≢◌, ℕ, ◌<◌, Bool, true, false, List, [], ◌∷◌, ◌++◌, length}
use Rattle.std.specs.List.{flat_map, AllByRecursion}

-- a name and its end
abbrev pub ended : (name : List ℕ) → List ℕ
ended name = name ++ 0 ∷ []

-- no byte of it ends a name
abbrev pub IsName : List ℕ → Type 0
IsName name = AllByRecursion (λ b. b ≢ 0) name

-- The list is its names, each with its end; or the last of them is cut, and is what stands after the last end.
abbrev pub AreNames : (list : List ℕ) → (names : List (List ℕ)) → (is_cut : Bool) → Type 0
AreNames list names false = AllByRecursion IsName names × (list ≡ flat_map ended names)
AreNames list names true = (whole : List (List ℕ)) × (last : List ℕ) × (names ≡ whole ++ last ∷ [])
    × AllByRecursion IsName names × (0 < length last) × (list ≡ flat_map ended whole ++ last)
