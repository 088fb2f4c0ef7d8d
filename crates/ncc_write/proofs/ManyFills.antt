-- Fill values, one after the other.
use Rattle.std.proofs.Common.{◌≡◌, ℕ, zero, suc, ◌+◌, ◌-◌, ◌*◌, ◌≤◌, List, [], ◌∷◌, ◌++◌, length, take, drop, replicate, refl, sym, ap, ◌∙◌, append_assoc, arith}
use Rattle.std.proofs.lemmas.List.{append-nil, replicate-append-replicate, length-append, length-take, take-take, drop-take}
use Rattle.std.proofs.lemmas.Nat.{mul-le}
use Rattle.std.proofs.Math.Seq.{take-append_seam, drop-append_seam}
use Rattle.std.proofs.Math.Nat.{add-mul}
use Rattle.std.specs.List.{concat}

concat_append : (xss yss : List (List ℕ)) → concat (xss ++ yss) ≡ concat xss ++ concat yss
concat_append [] yss = refl
concat_append (xs ∷ xss) yss = ap (λ (l : List ℕ). xs ++ l) (concat_append xss yss) ∙ sym (append_assoc xs (concat xss) (concat yss))

pub fills_join : (m n : ℕ) (fill : List ℕ) → concat (replicate m fill) ++ concat (replicate n fill) ≡ concat (replicate (m + n) fill)
fills_join m n fill = sym (concat_append (replicate m fill) (replicate n fill)) ∙ ap concat (replicate-append-replicate m n fill)

one_more : (n : ℕ) (fill : List ℕ) → concat (replicate n fill) ++ fill ≡ concat (replicate (n + 1) fill)
one_more n fill = ap (λ (l : List ℕ). concat (replicate n fill) ++ l) (sym (append-nil fill)) ∙ fills_join n 1 fill

-- one more of them
pub next_fill : (place n : ℕ) (fill old before after : List ℕ) → take (place + n * length fill) before ≡ take place old ++ concat (replicate n fill)
    → take (place + n * length fill + length fill) after ≡ take (place + n * length fill) before ++ fill
    → take (place + (n + 1) * length fill) after ≡ take place old ++ concat (replicate (n + 1) fill)
next_fill place n fill old before after so_far var_slab =
    let end : place + (n + 1) * length fill ≡ place + n * length fill + length fill = omega (arith, add-mul n 1 (length fill)) in
    ap (λ (k : ℕ). take k after) end ∙ var_slab ∙ ap (λ (l : List ℕ). l ++ fill) so_far ∙ append_assoc (take place old) (concat (replicate n fill)) fill
    ∙ ap (λ (l : List ℕ). take place old ++ l) (one_more n fill)

length-fills : (n : ℕ) (fill : List ℕ) → length (concat (replicate n fill)) ≡ n * length fill
length-fills zero fill = let none : 0 ≡ 0 * length fill = omega arith in none
length-fills (suc n) fill = length-append fill (concat (replicate n fill)) ∙ omega (arith, length-fills n fill)

-- the first m of more
first_fills : (m d : ℕ) (fill : List ℕ) → m ≤ d → take (m * length fill) (concat (replicate d fill)) ≡ concat (replicate m fill)
first_fills m d fill le =
    let whole : m + (d - m) ≡ d = omega (arith, le) in
    ap (λ (k : ℕ). take (m * length fill) (concat (replicate k fill))) (sym whole)
    ∙ ap (take (m * length fill)) (sym (fills_join m (d - m) fill))
    ∙ ap (λ (k : ℕ). take k (concat (replicate m fill) ++ concat (replicate (d - m) fill))) (sym (length-fills m fill))
    ∙ take-append_seam (concat (replicate m fill)) (concat (replicate (d - m) fill))

-- those that are there, copied behind themselves
pub more_fills : (place d m : ℕ) (fill old before after : List ℕ) → place ≤ length old → m ≤ d
    → take (place + d * length fill) before ≡ take place old ++ concat (replicate d fill)
    → take (place + d * length fill + m * length fill) after ≡ take (place + d * length fill) before ++ take (m * length fill) (drop place before)
    → take (place + (d + m) * length fill) after ≡ take place old ++ concat (replicate (d + m) fill)
more_fills place d m fill old before after within le so_far var_slab =
    let s = length fill in
    let end : place + (d + m) * s ≡ place + d * s + m * s = omega (arith, add-mul d m s) in
    let less : m * s ≤ d * s = mul-le m s d s le (omega arith) in
    let front : length (take place old) ≡ place = omega (arith, length-take place old, within) in
    let there : take (d * s) (drop place before) ≡ concat (replicate d fill) =
    sym (drop-take place (d * s) before) ∙ ap (drop place) so_far
    ∙ ap (λ (k : ℕ). drop k (take place old ++ concat (replicate d fill))) (sym front)
    ∙ drop-append_seam (take place old) (concat (replicate d fill)) in
    let piece : take (m * s) (drop place before) ≡ concat (replicate m fill) =
    sym (take-take (m * s) (d * s) (drop place before) less) ∙ ap (take (m * s)) there ∙ first_fills m d fill le in
    ap (λ (k : ℕ). take k after) end ∙ var_slab ∙ ap (λ (l : List ℕ). l ++ take (m * s) (drop place before)) so_far
    ∙ append_assoc (take place old) (concat (replicate d fill)) (take (m * s) (drop place before))
    ∙ ap (λ (l : List ℕ). take place old ++ (concat (replicate d fill) ++ l)) piece
    ∙ ap (λ (l : List ℕ). take place old ++ l) (fills_join d m fill)
