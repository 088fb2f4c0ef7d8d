-- Adding one text after another.
use Rattle.std.proofs.Common.{ℕ, List, [], ◌++◌, Option}
use Rattle.csv.proofs.WriteFacts.{appends-more, appends-none}
use Rattle.csv.specs.Writing.{text_written}
use Rattle.csv.specs.declared.writer.Writer.{Writer}
use Rattle.ncc_csv.specs.Rows.{IsBetween, Adds}

-- nothing yet
pub adds_none : {W : Type 0} (contents : W → Option (List ℕ)) (w : Writer W) → IsBetween w → Adds contents w w []
adds_none contents w between = record { between = between; text = appends-none (text_written contents w) }

-- two texts in turn
pub adds_both : {W : Type 0} (contents : W → Option (List ℕ)) (old mid new : Writer W) (a b : List ℕ) → Adds contents old mid a → Adds contents mid new b → Adds contents old new (a ++ b)
adds_both contents old mid new a b p q = record {
  between = q.between;
  text = appends-more (text_written contents old) (text_written contents mid) (text_written contents new) a b p.text q.text;
}
