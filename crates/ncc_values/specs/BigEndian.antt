-- Numbers and their bytes, both ways. These lemmas stand in specs/ since the laws of `External` cite
-- them.
use Rattle.std.proofs.Common.{◌≡◌, ℕ, zero, suc, ◌+◌, ◌*◌, ◌/◌, ◌%◌, ◌^◌, ◌<◌, ◌≤◌, List, [], ◌∷◌, ◌++◌, length, take, drop, get_or, refl, ap, subst, ◌∙◌, append-nil, arith, mul-le-mul_right}
use Rattle.std.proofs.Math.Nat.{pow-suc}
use Rattle.ncc_values.specs.Numbers.{IsBytes, big_endian_onto, big_endian, number_onto, number_of}

-- ---- bytes

pub bytes-take : (n : ℕ) (b : List ℕ) → IsBytes b → IsBytes (take n b)
bytes-take zero b h = tt
bytes-take (suc n) [] h = tt
bytes-take (suc n) (x ∷ b) h = (h.0, bytes-take n b h.1)

pub bytes-drop : (n : ℕ) (b : List ℕ) → IsBytes b → IsBytes (drop n b)
bytes-drop zero b h = h
bytes-drop (suc n) [] h = tt
bytes-drop (suc n) (x ∷ b) h = bytes-drop n b h.1

pub bytes-append : (a b : List ℕ) → IsBytes a → IsBytes b → IsBytes (a ++ b)
bytes-append [] b h k = k
bytes-append (x ∷ a) b h k = (h.0, bytes-append a b h.1 k)

pub bytes-by_index : (bytes : List ℕ) → ((i : ℕ) → get_or bytes i 0 < 256) → IsBytes bytes
bytes-by_index [] h = tt
bytes-by_index (b ∷ bytes) h = (h 0, bytes-by_index bytes (λ i. h (suc i)))

-- ---- one number

length-onto : (w n : ℕ) (rest : List ℕ) → length (big_endian_onto w n rest) ≡ w + length rest
length-onto zero n rest = omega arith
length-onto (suc w) n rest = length-onto w (n / 256) (n % 256 ∷ rest) ∙ omega arith

pub length-big_endian : (w n : ℕ) → length (big_endian w n) ≡ w
length-big_endian w n = length-onto w n [] ∙ omega arith

bytes-onto : (w n : ℕ) (rest : List ℕ) → IsBytes rest → IsBytes (big_endian_onto w n rest)
bytes-onto zero n rest h = h
bytes-onto (suc w) n rest h = bytes-onto w (n / 256) (n % 256 ∷ rest) (omega arith, h)

pub bytes-big_endian : (w n : ℕ) → IsBytes (big_endian w n)
bytes-big_endian w n = bytes-onto w n [] tt

pow_suc : (w : ℕ) → 256 ^ suc w ≡ 256 ^ w * 256
pow_suc w = pow-suc 256 w

number-onto : (before w n : ℕ) (rest : List ℕ) → n < 256 ^ w → number_onto before (big_endian_onto w n rest) ≡ number_onto (before * 256 ^ w + n) rest
number-onto before zero n rest lt = ap (λ (m : ℕ). number_onto m rest) (omega arith)
number-onto before (suc w) n rest lt =
    let wider : before * 256 ^ suc w ≡ before * (256 ^ w * 256) = ap (λ (m : ℕ). before * m) (pow_suc w) in
    number-onto before w (n / 256) (n % 256 ∷ rest) (omega (arith, pow_suc w))
    ∙ ap (λ (m : ℕ). number_onto m rest) (omega (arith, wider))

pub number_of-big_endian : (w n : ℕ) → n < 256 ^ w → number_of (big_endian w n) ≡ n
number_of-big_endian w n lt = number-onto 0 w n [] lt ∙ omega arith

onto-number : (k w before : ℕ) (bytes rest : List ℕ) → IsBytes bytes → k ≡ w + length bytes → big_endian_onto k (number_onto before bytes) rest ≡ big_endian_onto w before (bytes ++ rest)
onto-number k w before [] rest h e =
    let same : k ≡ w = omega (arith, e) in
    ap (λ (m : ℕ). big_endian_onto m before rest) same
onto-number k w before (b ∷ bytes) rest h e =
    let quotient : (before * 256 + b) / 256 ≡ before = omega (arith, h.0) in
    let remainder : (before * 256 + b) % 256 ≡ b = omega (arith, h.0) in
    onto-number k (suc w) (before * 256 + b) bytes rest h.1 (omega (arith, e)) ∙ rw (quotient, remainder) refl

pub big_endian-number_of : (bytes : List ℕ) → IsBytes bytes → big_endian (length bytes) (number_of bytes) ≡ bytes
big_endian-number_of bytes h = onto-number (length bytes) 0 0 bytes [] h (omega arith) ∙ append-nil bytes

number_onto-lt : (before : ℕ) (bytes : List ℕ) → IsBytes bytes → number_onto before bytes < (before + 1) * 256 ^ length bytes
number_onto-lt before [] h = omega arith
number_onto-lt before (b ∷ bytes) h =
    let p = 256 ^ length bytes in
    let wider : (before + 1) * 256 ^ suc (length bytes) ≡ (before + 1) * (p * 256) = ap (λ (m : ℕ). (before + 1) * m) (pow_suc (length bytes)) in
    let low : (b + 1) * p ≤ 256 * p = mul-le-mul_right p (omega (arith, h.0)) in
    omega (arith, wider, low, number_onto-lt (before * 256 + b) bytes h.1)

pub number_of-lt : (w : ℕ) (bytes : List ℕ) → IsBytes bytes → length bytes ≡ w → number_of bytes < 256 ^ w
number_of-lt w bytes h e = subst (λ (k : ℕ). number_of bytes < 256 ^ k) e (omega (arith, number_onto-lt 0 bytes h))
