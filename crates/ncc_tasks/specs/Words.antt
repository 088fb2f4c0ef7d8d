-- The bytes of the words of a command line.
use Rattle.std.specs.Prelude.{ℕ, List, [], ◌∷◌, if◌then◌else◌, nat_eq, string_bytes}
use Rattle.std.specs.Cmp.Lexicographic.{pointwise}
use Rattle.ncc_tasks.specs.declared.words.Alias.{Alias}
use Rattle.ncc_tasks.specs.declared.words.Words.{Words}

-- the bytes of the first of these words that has the text, or else the text
abbrev pub bytes_among : List Alias → List ℕ → List ℕ
bytes_among [] text = text
bytes_among (alias ∷ others) text =
    if pointwise nat_eq (string_bytes alias.text) text then alias.bytes.items else bytes_among others text

-- what a word stands for: a word that isn't UTF-8 has a text that stands for it
abbrev pub bytes_named : Words → List ℕ → List ℕ
bytes_named words = bytes_among words.aliases.items
