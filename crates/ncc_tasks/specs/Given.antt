-- What the words of a command line give.
use Rattle.std.specs.Prelude.{◌≡◌, ℕ, ◌⊎◌, Bool, true, false, List, [], Option, None, Some, codes}
use Rattle.std.specs.Str.Parse.{digits_value, without_leading_plus}
use Rattle.clap.specs.Matches.{first_value, found_of, one_text}
use Rattle.clap.specs.declared.parser.matches.ArgMatches.{ArgMatches}
use Rattle.ncc_csv.specs.Numbers.{IsListOf, IsNumber}
use Rattle.ncc_json.specs.declared.wording.Wording.{Wording}
use Rattle.ncc_json.specs.declared.wording.Wording.TheVariants.{Members, Words}
use Rattle.ncc_lines.specs.declared.style.FloatStyle.{FloatStyle}
use Rattle.ncc_lines.specs.declared.style.FloatStyle.TheVariants.{Bits, Decimal}

-- the word of an argument, where it is given
abbrev pub given : ArgMatches → (id : List ℕ) → Option (List ℕ)
given words id = first_value (found_of words) id

-- the word, or an empty one
abbrev pub word_or_none : Option (List ℕ) → List ℕ
word_or_none None = []
word_or_none (Some word) = word

-- the numbers of a word, or none where there is no word
abbrev pub GivesList : Option (List ℕ) → Option (List ℕ) → Type 0
GivesList None numbers = numbers ≡ None
GivesList (Some word) None = ⊥
GivesList (Some word) (Some numbers) = IsListOf word numbers

-- whether a flag is there
abbrev pub GivesFlag : ArgMatches → (id : List ℕ) → Bool → Type 0
GivesFlag words id on =
    ((one_text (found_of words) id ≡ None) ⊎ (one_text (found_of words) id ≡ Some (codes "false")) → on ≡ false)
    × (one_text (found_of words) id ≡ Some (codes "true") → on ≡ true)

-- the number of an argument, or another where it is not given
abbrev pub GivesNumber : ArgMatches → (id : List ℕ) → (other n : ℕ) → Type 0
GivesNumber words id other n =
    (one_text (found_of words) id ≡ None → n ≡ other)
    × ((word : List ℕ) → one_text (found_of words) id ≡ Some word → IsNumber (without_leading_plus word)
    → n ≡ digits_value 10 (without_leading_plus word))

-- how floats are shown
abbrev pub GivesStyle : ArgMatches → FloatStyle → Type 0
GivesStyle words style = (on : Bool) × GivesFlag words (codes "decimal") on × (on ≡ true → style ≡ Decimal) × (on ≡ false → style ≡ Bits)

-- how an answer is put
abbrev pub GivesWording : ArgMatches → Wording → Type 0
GivesWording words wording = (on : Bool) × GivesFlag words (codes "json") on × (on ≡ true → wording ≡ Members) × (on ≡ false → wording ≡ Words)
