-- Row-major numbers, and the variables of a dataset at their places.
use Rattle.std.proofs.Common.{◌≡◌, ℕ, suc, ◌+◌, ◌*◌, ◌<◌, List, [], ◌∷◌, ◌++◌, length, ap, ◌∙◌, arith}
use Rattle.std.proofs.lemmas.Nat.{mul-add-lt}
use Rattle.ncc_schema.specs.declared.schema.Dim.{Dim}
use Rattle.ncc_schema.specs.declared.schema.Schema.{Schema}
use Rattle.ncc_schema.specs.declared.schema.Var.{Var}
use Rattle.ncc_schema.specs.Schema.{Place}
use Rattle.ncc_layout.specs.Sizes.{product}
use Rattle.ncc_layout.specs.Standard.{standard_from, standard_place}
use Rattle.ncc_layout.specs.Elements.{placed_var, placed_from, var_at, row_major, Inside}

pub row_below : (ls is : List ℕ) → Inside ls is → row_major ls is < product ls
row_below [] [] h = omega arith
row_below [] (i ∷ is) h = absurd h
row_below (l ∷ ls) [] h = absurd h
row_below (l ∷ ls) (i ∷ is) h =
    let inner = row_below ls is h.1 in
    let both : i * product ls + row_major ls is < product ls * l =
    mul-add-lt i (product ls) (row_major ls is) l h.0 inner in
    let turned : product ls * l ≡ l * product ls = omega arith in
    omega (arith, both, turned)

pub var_placed : (dims : List Dim) (records m : ℕ) (front : List Var) (x : Var) (after : List Var)
    (places : List Place) (p : Place) (later : List Place) → length front ≡ length places
    → var_at (placed_from dims records m (front ++ x ∷ after) (places ++ p ∷ later))
    (length front) ≡ placed_var dims records (m + length front) x p
var_placed dims records m [] x after [] p later long =
    let same : m ≡ m + 0 = omega arith in
    ap (λ (n : ℕ). placed_var dims records n x p) same
var_placed dims records m [] x after (q ∷ places) p later long = absurd (omega (arith, long))
var_placed dims records m (y ∷ front) x after [] p later long = absurd (omega (arith, long))
var_placed dims records m (y ∷ front) x after (q ∷ places) p later long =
    let same : suc m + length front ≡ m + suc (length front) = omega arith in
    var_placed dims records (suc m) front x after places p later (omega (arith, long))
    ∙ ap (λ (n : ℕ). placed_var dims records n x p) same

pub standard_split : (s : Schema) (m : ℕ) (front : List Var) (x : Var) (after : List Var)
    → standard_from s m (front ++ x ∷ after) ≡ standard_from s m front ++ standard_place s
    (m + length front) x ∷ standard_from s (suc (m + length front)) after
standard_split s m [] x after =
    let same : m ≡ m + 0 = omega arith in
    ap (λ (n : ℕ). standard_place s n x ∷ standard_from s (suc n) after) same
standard_split s m (y ∷ front) x after =
    let same : suc m + length front ≡ m + suc (length front) = omega arith in
    ap (λ (l : List Place). standard_place s m y ∷ l)
    (standard_split s (suc m) front x after ∙ ap (λ (n : ℕ). standard_from s
    (suc m) front ++ standard_place s n x ∷ standard_from s (suc n) after) same)
