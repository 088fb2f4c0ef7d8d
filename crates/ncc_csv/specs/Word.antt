-- The text of an index.
use Rattle.std.specs.Prelude.{ℕ, List, drop}
use Rattle.ncc_csv.specs.declared.word.Word.{Word}

-- its bytes, which stand at the end
abbrev pub word_text : Word → List ℕ
word_text w = drop w.start w.bytes
