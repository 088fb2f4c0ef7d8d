-- A list whose middle was overwritten by another, or whose end by a text.
use Rattle.std.proofs.Common.{◌≡◌, ℕ, ◌+◌, ◌≤◌, List, ◌++◌, length, take, drop, sym, ap, ◌∙◌, length-append, length-drop, arith}
use Rattle.std.proofs.lemmas.List.{take-take, drop-drop, drop_at, drop-append-le, length-take-le}
use borrow.Rule.Slice.PartMut.{put_mid}

-- what stands from an element of the other list on
pub drop_into : (a k s : ℕ) (xs ys : List ℕ) → a ≤ length xs → length ys ≡ k → s ≤ k → drop (a + s) (put_mid a k xs ys) ≡ drop s ys ++ drop (a + k) xs
drop_into a k s xs ys fits long le =
    sym (drop-drop s a (put_mid a k xs ys))
    ∙ ap (drop s) (drop_at (take a xs) (ys ++ drop k (drop a xs)) a (length-take-le a xs fits))
    ∙ drop-append-le s ys (drop k (drop a xs)) (omega (arith, long, le))
    ∙ ap (λ (l : List ℕ). drop s ys ++ l) (drop-drop k a xs)

-- where a text begins that stands before what was there, by where that begins
pub written_length : (new old text : List ℕ) (first end : ℕ) → length new ≡ length old → end ≤ length old → first ≤ end → drop first new ≡ text ++ drop end old
    → first + length text ≡ end
written_length new old text first end long within le is =
    omega (arith, long, within, le, ap length is, length-drop first new, length-append text (drop end old), length-drop end old)

-- what stands before an earlier place stays where it does before a later one
pub before_kept : (new old : List ℕ) (first next : ℕ) → first ≤ next → take next new ≡ take next old → take first new ≡ take first old
before_kept new old first next le is = sym (take-take first next new le) ∙ ap (take first) is ∙ take-take first next old le
