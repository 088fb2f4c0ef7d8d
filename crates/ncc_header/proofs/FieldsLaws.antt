-- The fields of a spelling.
use Rattle.std.proofs.Common.{◌≡◌, ℕ, ◌+◌, List, ◌∷◌, ◌++◌, length, Option, refl, sym, ap, ◌∙◌, append_assoc, arith}
use Rattle.std.proofs.lemmas.List.{take_at, drop_at, length-append}
use Rattle.ncc_header.specs.declared.fault.Wrong.{Wrong}
use Rattle.ncc_header.specs.Grammar.{Label, Grammar, done, field, Spells, fields, ◌>>=◌}

pub fields_first : {A : Type 0} (label : Label) (size : ℕ) (wrong : List ℕ → Option Wrong) (next : List ℕ → Grammar A) (at : ℕ) (front rest : List ℕ) → length front ≡ size
    → fields (field label size wrong next) at (front ++ rest) ≡ record { label = label; at = at; bytes = front } ∷ fields (next front) (at + size) rest
unfolding fields
fields_first label size wrong next at front rest len = rw (take_at front rest size len, drop_at front rest size len) refl

-- those of a joining are those of its first part, and then those of the rest
pub fields-join : {A B : Type 0} (g : Grammar A) (f : A → Grammar B) (a : A) (at : ℕ) (x y : List ℕ) → Spells g a x → fields (g >>= f) at (x ++ y) ≡ fields g at x ++ fields (f a) (at + length x) y
unfolding fields
fields-join (done z) f a at x y h = rw h.1 (ap (λ w. fields (f w) at y) h.0 ∙ ap (λ (n : ℕ). fields (f a) n y) (omega arith))
fields-join (field label size wrong next) f a at x y h =
    let len : length x ≡ size + length h.1 = ap length h.2 ∙ length-append h.0 h.1 ∙ ap (λ (n : ℕ). n + length h.1) h.3 in
    let parts : x ++ y ≡ h.0 ++ (h.1 ++ y) = ap (λ (t : List ℕ). t ++ y) h.2 ∙ append_assoc h.0 h.1 y in
    let rest = fields-join (next h.0) f a (at + size) h.1 y h.6 in
    let end : (at + size) + length h.1 ≡ at + length x = omega (arith, len) in
    ap (fields (field label size wrong (λ b. next b >>= f)) at) parts
    ∙ fields_first label size wrong (λ b. next b >>= f) at h.0 (h.1 ++ y) h.3
    ∙ ap (λ t. record { label = label; at = at; bytes = h.0 } ∷ t) (rest ∙ ap (λ (n : ℕ). fields (next h.0) (at + size) h.1 ++ fields (f a) n y) end)
    ∙ ap (λ t. t ++ fields (f a) (at + length x) y) (sym (ap (fields (field label size wrong next) at) h.2 ∙ fields_first label size wrong next at h.0 h.1 h.3))
