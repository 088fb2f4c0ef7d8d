-- Lists of numbers in words of the command line.
use Rattle.std.specs.Prelude.{◌≡◌, ℕ, ◌^◌, ◌<◌, ◌==◌, List, [], ◌∷◌, ⊤}
use Rattle.std.specs.List.{slice_split}
use Rattle.std.specs.Str.Parse.{IsNumeral, digits_value}

-- digits alone, one at least, whose number is below 2^64
abbrev pub IsNumber : (text : List ℕ) → Type 0
IsNumber text = IsNumeral 10 text × (digits_value 10 text < 2 ^ 64)

-- each text is a number, and these are they
abbrev pub AreNumbers : (texts : List (List ℕ)) → (numbers : List ℕ) → Type 0
AreNumbers [] [] = ⊤
AreNumbers [] (n ∷ numbers) = ⊥
AreNumbers (t ∷ texts) [] = ⊥
AreNumbers (t ∷ texts) (n ∷ numbers) = IsNumber t × (n ≡ digits_value 10 t) × AreNumbers texts numbers

-- what stands between commas
abbrev pub between_commas : (text : List ℕ) → List (List ℕ)
between_commas text = slice_split (λ b. b == 44) text

-- numbers with single commas between them
abbrev pub IsListOf : (text : List ℕ) → (numbers : List ℕ) → Type 0
IsListOf text numbers = AreNumbers (between_commas text) numbers
