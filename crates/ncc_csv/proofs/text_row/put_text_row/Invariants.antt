use Rattle.std.proofs.Common.{◌≡◌, [], ◌∷◌, ◌==◌, ◌||◌, ◌&&◌, ◌++◌, map, take, not}
use Rattle.std.specs.Io.KnownBytes.{Appends}
use Rattle.csv.specs.Writing.{text_written, is_blank, row_body, default_writer}
use Rattle.ncc_csv.specs.Word.{word_text}
use Rattle.ncc_csv.proofs.text_row.put_text_row.Given as goal

abbrev pub invariant-loop-k : goal.invariant-loop-k
invariant-loop-k g l = record {
  setup : l.w.cfg ≡ default_writer;
  text : Appends (text_written g.W.Write.contents l.fn.w) (text_written g.W.Write.contents l.w) (row_body default_writer (take l.k (map word_text l.heads ++ l.text ∷ [])));
  count : l.w.fields ≡ l.k;
  blank : is_blank default_writer (take l.k (map word_text l.heads ++ l.text ∷ [])) ≡ (not l.w.wrote && ((l.k == 0) || (l.k == 1)));
}
