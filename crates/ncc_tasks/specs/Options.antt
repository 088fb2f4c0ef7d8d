-- The options that take lists of numbers.
use Rattle.std.specs.Prelude.{◌≡◌, ℕ, IsSome, List, Some, codes}
use Rattle.clap.specs.declared.parser.matches.ArgMatches.{ArgMatches}
use Rattle.ncc_csv.specs.Numbers.{IsListOf}
use Rattle.ncc_tasks.specs.Given.{given}
use Rattle.ncc_tasks.specs.declared.picking.ListOption.{ListOption}
use Rattle.ncc_tasks.specs.declared.picking.ListOption.TheVariants.{Start, Count, Stride}

abbrev pub option_text : ListOption → List ℕ
option_text Start = codes "start"
option_text Count = codes "count"
option_text Stride = codes "stride"

-- the option is given, and its word is no list of numbers
abbrev pub IsNoList : ArgMatches → ListOption → Type 0
IsNoList words option = (word : List ℕ) × (given words (option_text option) ≡ Some word)
    × ((numbers : List ℕ) → IsListOf word numbers → ⊥)

-- a list is given
abbrev pub GivesSomeList : ArgMatches → Type 0
GivesSomeList words = (option : ListOption) × IsSome (given words (option_text option))
