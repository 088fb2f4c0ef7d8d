-- Texts as numbers, one after the other.
use Rattle.std.proofs.Common.{◌≡◌, ℕ, zero, suc, ◌+◌, ◌<◌, List, [], ◌∷◌, ◌++◌, map, length, get_or, take, sym, ap, subst, ◌∙◌, arith}
use Rattle.std.proofs.lemmas.List.{length-map, get_or-map, take_more}
use Rattle.std.specs.Str.Parse.{digits_value}
use Rattle.ncc_csv.specs.Numbers.{IsNumber, AreNumbers}

-- one more number
pub one_more : (texts : List (List ℕ)) (numbers : List ℕ) (t : List ℕ) (n : ℕ) → AreNumbers texts numbers → IsNumber t → n ≡ digits_value 10 t → AreNumbers (texts ++ t ∷ []) (numbers ++ n ∷ [])
one_more [] [] t n are is e = (is, e, tt)
one_more [] (m ∷ numbers) t n are is e = absurd are
one_more (s ∷ texts) [] t n are is e = absurd are
one_more (s ∷ texts) (m ∷ numbers) t n are is e = (are.0, are.1, one_more texts numbers t n are.2 is e)

-- each of the texts is a number
pub each_is : (texts : List (List ℕ)) (numbers : List ℕ) (k : ℕ) → AreNumbers texts numbers → k < length texts → IsNumber (get_or texts k [])
each_is [] numbers k are lt = absurd (omega (arith, lt))
each_is (t ∷ texts) [] k are lt = absurd are
each_is (t ∷ texts) (n ∷ numbers) zero are lt = are.0
each_is (t ∷ texts) (n ∷ numbers) (suc k) are lt = each_is texts numbers k are.2 (omega (arith, lt))

-- ---- texts that stand in other items

text_at : {A : Type 0} (text : A → List ℕ) (items : List A) (texts : List (List ℕ)) (k : ℕ) (d : A) → map text items ≡ texts → k < length items → get_or texts k [] ≡ text (get_or items k d)
text_at text items texts k d same lt = ap (λ (l : List (List ℕ)). get_or l k []) (sym same) ∙ get_or-map text items k d [] lt

-- one of them is no number
pub no_list : {A : Type 0} (text : A → List ℕ) (items : List A) (texts : List (List ℕ)) (k : ℕ) (d : A) → map text items ≡ texts → k < length items → (IsNumber (text (get_or items k d)) → ⊥)
    → (numbers : List ℕ) → AreNumbers texts numbers → ⊥
no_list text items texts k d same lt not numbers are =
    not (subst IsNumber (text_at text items texts k d same lt) (each_is texts numbers k are (omega (arith, lt, length-map items text, ap (λ (l : List (List ℕ)). length l) same))))

-- the next of them is one
pub next_number : {A : Type 0} (text : A → List ℕ) (items : List A) (texts : List (List ℕ)) (k : ℕ) (d : A) (numbers more : List ℕ) (n : ℕ) → map text items ≡ texts → k < length items
    → AreNumbers (take k texts) numbers → IsNumber (text (get_or items k d)) → n ≡ digits_value 10 (text (get_or items k d)) → more ≡ numbers ++ n ∷ [] → AreNumbers (take (k + 1) texts) more
next_number text items texts k d numbers more n same lt are is e added =
    let here = text_at text items texts k d same lt in
    let whole : take (k + 1) texts ≡ take k texts ++ text (get_or items k d) ∷ [] =
    take_more texts k [] (omega (arith, lt, length-map items text, ap (λ (l : List (List ℕ)). length l) same)) ∙ ap (λ (t : List ℕ). take k texts ++ t ∷ []) here in
    let both = one_more (take k texts) numbers (text (get_or items k d)) n are is e in
    subst (λ (l : List (List ℕ)). AreNumbers l more) (sym whole) (subst (λ (ns : List ℕ). AreNumbers (take k texts ++ text (get_or items k d) ∷ []) ns) (sym added) both)
