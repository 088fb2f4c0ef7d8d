-- Texts that were added one after the other, where no memory was refused.
use Rattle.std.proofs.Common.{◌≡◌, List, ◌++◌, ap, ◌∙◌, append_assoc}
use Rattle.std.specs.Prelude.{OnOk, Result, Ok, Err}

pub on_ok : {E : Type 0} (r : Result (Unit {0}) E) (P Q : Type 0) → (P → Q) → OnOk r P → OnOk r Q
on_ok (Ok x) P Q f p = f p
on_ok (Err e) P Q f p = p

-- two texts, the second of which may not have been added
pub two : {E A : Type 0} (r : Result (Unit {0}) E) (old x y a b : List A) → x ≡ old ++ a → OnOk r (y ≡ x ++ b) → OnOk r (y ≡ old ++ (a ++ b))
two r old x y a b p q = on_ok r (y ≡ x ++ b) (y ≡ old ++ (a ++ b)) (λ e. e ∙ ap (λ t. t ++ b) p ∙ append_assoc old a b) q

-- three, the third of which may not have been added
pub three : {E A : Type 0} (r : Result (Unit {0}) E) (old x y z a b c : List A) → x ≡ old ++ a → y ≡ x ++ b → OnOk r (z ≡ y ++ c) → OnOk r (z ≡ old ++ (a ++ (b ++ c)))
three r old x y z a b c p q s = two r old x z a (b ++ c) p (on_ok r (z ≡ y ++ c) (z ≡ x ++ (b ++ c)) (λ e. e ∙ ap (λ t. t ++ c) q ∙ append_assoc x b c) s)
