-- A point put among digits that are there.
use Rattle.std.proofs.Common.{◌≡◌, ℕ, zero, suc, ◌+◌, ◌-◌, ◌/◌, ◌%◌, ◌^◌, ◌<◌, ◌≤◌, List, [], ◌∷◌, ◌++◌, length, get_or, take, drop, decimal, inl, inr, refl, sym, ap, ◌∙◌, append_assoc, append-nil, drop-cons, arith}
use Rattle.std.proofs.lemmas.Bool.{cases_lt}
use Rattle.std.proofs.lemmas.Fmt.{decimal_digit, decimal_step}
use Rattle.std.proofs.lemmas.List.{length-append, length-take, length-drop, set_at, drop-drop}
use Rattle.std.proofs.Math.ListN.{set}
use Rattle.std.proofs.Math.Nat.{div-div-eq-div-mul, pow-suc, div-one, div-le_self}
use Rattle.std.proofs.Math.Seq.{paste, take-append_seam, drop-append_seam}
use Rattle.ncc_decimal.specs.Texts.{last_digits, pointed}

-- ---- a number, by its last digits

length-last : (f n : ℕ) → length (last_digits f n) ≡ f
unfolding last_digits
length-last zero n = refl
length-last (suc f) n = let more = length-last f n in omega (arith, more)

one_more_last : (f n : ℕ) → last_digits (suc f) n ≡ (48 + n / 10 ^ f % 10) ∷ last_digits f n
unfolding last_digits
one_more_last f n = refl

none_last : (n : ℕ) → last_digits 0 n ≡ []
unfolding last_digits
none_last n = refl

pub by_last : (f n : ℕ) → n < 2 ^ 64 → f < length (decimal n) → decimal n ≡ decimal (n / 10 ^ f) ++ last_digits f n
by_last zero n small lt =
    ap decimal (sym (div-one n)) ∙ sym (append-nil (decimal (n / 1))) ∙ ap (λ (l : List ℕ). decimal (n / 1) ++ l) (sym (none_last n))
by_last (suc f) n small lt =
    let before = by_last f n small (omega (arith, lt)) in
    let m = n / 10 ^ f in
    let less : m ≤ n = div-le_self n (10 ^ f) in
    let counted : length (decimal n) ≡ length (decimal m) + f = ap length before ∙ length-append (decimal m) (last_digits f n) ∙ omega (arith, length-last f n) in
    let large : 10 ≤ m =
    elim (cases_lt m 10) [
      | inl few ↦ absurd (let one = ap length (decimal_digit m few) in omega (arith, one, counted, lt))
      | inr many ↦ many
    ] in
    let next : m / 10 ≡ n / 10 ^ suc f = div-div-eq-div-mul n (10 ^ f) 10 ∙ ap (λ (x : ℕ). n / x) (sym (pow-suc 10 f)) in
    before
    ∙ ap (λ (l : List ℕ). l ++ last_digits f n) (decimal_step m large (omega (arith, less, small)))
    ∙ append_assoc (decimal (m / 10)) ((48 + m % 10) ∷ []) (last_digits f n)
    ∙ ap (λ (l : List ℕ). decimal (m / 10) ++ l) (sym (one_more_last f n))
    ∙ ap (λ (x : ℕ). decimal x ++ last_digits (suc f) n) next

-- ---- in the room

-- k bytes are moved by one to the front, and a point is put where the last of them was
point_set : (d : List ℕ) (first k : ℕ) → 0 < first → first + k ≤ length d → drop (first - 1) (set (paste d (first - 1) (drop first d) k) (first - 1 + k) 46) ≡ take k (drop first d) ++ 46 ∷ drop (first + k) d
point_set d first k some within =
    let at = first - 1 in
    let one : suc at ≡ first = omega (arith, some) in
    let front = take at d in
    let moved = take k (drop first d) in
    let rest : drop (at + k) d ≡ get_or d (at + k) 0 ∷ drop (first + k) d =
    drop-cons d (at + k) 0 (omega (arith, some, within)) ∙ ap (λ (n : ℕ). get_or d (at + k) 0 ∷ drop n d) (let same : suc (at + k) ≡ first + k = omega (arith, some) in same) in
    let long_front : length front ≡ at = omega (arith, length-take at d, within) in
    let long_moved : length moved ≡ k = omega (arith, length-take k (drop first d), length-drop first d, within) in
    let pasted : paste d at (drop first d) k ≡ (front ++ moved) ++ get_or d (at + k) 0 ∷ drop (first + k) d =
    ap (λ (l : List ℕ). (front ++ moved) ++ l) rest in
    ap (λ (l : List ℕ). drop at (set l (at + k) 46)) pasted
    ∙ ap (drop at) (set_at (front ++ moved) (get_or d (at + k) 0) (drop (first + k) d) 46 (at + k) (length-append front moved ∙ omega (arith, long_front, long_moved)))
    ∙ ap (drop at) (append_assoc front moved (46 ∷ drop (first + k) d))
    ∙ ap (λ (n : ℕ). drop n (front ++ (moved ++ 46 ∷ drop (first + k) d))) (sym long_front)
    ∙ drop-append_seam front (moved ++ 46 ∷ drop (first + k) d)

-- so the digits of n that stand there have a point before the last f
pub point_stands : (d text : List ℕ) (n first f start : ℕ) → n < 2 ^ 64 → 0 < first → f < length (decimal n) → first + length (decimal n) ≡ start → start ≤ length d
    → drop first d ≡ decimal n ++ text
    → drop (first - 1) (set (paste d (first - 1) (drop first d) (start - f - first)) (start - f - 1) 46) ≡ pointed f n ++ text
point_stands d text n first f start small some lt end within ahead =
    let front = decimal (n / 10 ^ f) in
    let split = by_last f n small lt in
    let counted : length (decimal n) ≡ length front + f = ap length split ∙ length-append front (last_digits f n) ∙ omega (arith, length-last f n) in
    let k : start - f - first ≡ length front = omega (arith, counted, end) in
    let point : start - f - 1 ≡ first - 1 + length front = omega (arith, counted, end, some) in
    let there : drop first d ≡ front ++ (last_digits f n ++ text) = ahead ∙ ap (λ (l : List ℕ). l ++ text) split ∙ append_assoc front (last_digits f n) text in
    ap (λ (m : ℕ). drop (first - 1) (set (paste d (first - 1) (drop first d) m) (start - f - 1) 46)) k
    ∙ ap (λ (m : ℕ). drop (first - 1) (set (paste d (first - 1) (drop first d) (length front)) m 46)) point
    ∙ point_set d first (length front) some (omega (arith, counted, end, within))
    ∙ ap (λ (l : List ℕ). take (length front) l ++ 46 ∷ drop (first + length front) d) there
    ∙ ap (λ (l : List ℕ). l ++ 46 ∷ drop (first + length front) d) (take-append_seam front (last_digits f n ++ text))
    ∙ ap (λ (l : List ℕ). front ++ 46 ∷ l) (sym (drop-drop (length front) first d) ∙ ap (drop (length front)) there ∙ drop-append_seam front (last_digits f n ++ text))
    ∙ sym (append_assoc front (46 ∷ last_digits f n) text)
