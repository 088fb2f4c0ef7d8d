-- Pieces that stand in bytes, and the element of a list at its number.
use Rattle.std.proofs.Common.{◌≡◌, ℕ, zero, suc, ◌+◌, ◌≤◌, ◌<◌, List, [], ◌∷◌, ◌++◌, length, take, drop, refl, sym, ap, ap₂, subst, ◌∙◌, arith, append_assoc, length-append, length-drop}
use Rattle.std.proofs.Math.Seq.{drop-append-add}
use Rattle.std.proofs.lemmas.List.{take-append-le, drop-append-le}
use Rattle.ncc_schema.specs.Names.{StandsAt}
use Rattle.ncc_write.specs.Holds.{bytes_at}

-- ---- a list at a number

pub record Split {A : Type 0} (xs : List A) (n : ℕ) : Type 0 where
  pub item : A
  pub front : List A
  pub after : List A
  pub joined : xs ≡ front ++ item ∷ after
  pub long : length front ≡ n

pub split_at : {A : Type 0} (xs : List A) (n : ℕ) → n < length xs → Split xs n
split_at [] n below = absurd (omega (arith, below))
split_at (x ∷ xs) zero below = record { item = x; front = []; after = xs; joined = refl; long = refl }
split_at (x ∷ xs) (suc n) below =
    let s = split_at xs n (omega (arith, below)) in
    record {
      item = s.item;
      front = x ∷ s.front;
      after = s.after;
      joined =
          ap (λ (l : List _). x ∷ l) s.joined;
      long = ap suc s.long;
    }

-- ---- pieces

-- at another offset that is the same
pub stands_same : (bytes piece : List ℕ) (m n : ℕ) → m ≡ n → StandsAt bytes piece m → StandsAt bytes piece n
stands_same bytes piece m n e st = subst (StandsAt bytes piece) e st

pub stands_first : (piece rest : List ℕ) → StandsAt (piece ++ rest) piece 0
stands_first piece rest = record { front = []; rest = rest; joined = refl; long = refl }

pub stands_before : (a b piece : List ℕ) (n : ℕ) → StandsAt a piece n → StandsAt (a ++ b) piece n
stands_before a b piece n st = record {
  front = st.front;
  rest = st.rest ++ b;
  joined = ap (λ (l : List ℕ). l ++ b) st.joined ∙ append_assoc st.front (piece ++ st.rest) b
      ∙ ap (λ (l : List ℕ). st.front ++ l) (append_assoc piece st.rest b);
  long = st.long;
}

pub stands_behind : (a b piece : List ℕ) (m n : ℕ) → length a ≡ m → StandsAt b piece n → StandsAt (a ++ b) piece (m + n)
stands_behind a b piece m n long st = record {
  front = a ++ st.front;
  rest = st.rest;
  joined = ap (λ (l : List ℕ). a ++ l) st.joined ∙ sym (append_assoc a st.front (piece ++ st.rest));
  long = length-append a st.front ∙ ap₂ (λ (x y : ℕ). x + y) long st.long;
}

-- a piece of a piece
pub stands_in : (bytes whole piece : List ℕ) (m n : ℕ) → StandsAt bytes whole m → StandsAt whole piece n
    → StandsAt bytes piece (m + n)
stands_in bytes whole piece m n outer inside =
    subst (λ (l : List ℕ). StandsAt l piece (m + n)) (sym outer.joined)
    (stands_behind outer.front (whole ++ outer.rest) piece m n outer.long
    (stands_before whole outer.rest piece n inside))

-- bytes in a piece
pub read_in : (bytes piece : List ℕ) (at k w : ℕ) → StandsAt bytes piece at → k + w ≤ length piece
    → bytes_at bytes (at + k) w ≡ bytes_at piece k w
read_in bytes piece at k w st fits =
    ap (λ (l : List ℕ). take w (drop (at + k) l)) st.joined
    ∙ ap (λ (m : ℕ). take w (drop (m + k) (st.front ++ (piece ++ st.rest)))) (sym st.long)
    ∙ ap (take w) (drop-append-add st.front (piece ++ st.rest) k)
    ∙ ap (take w) (drop-append-le k piece st.rest (omega (arith, fits)))
    ∙ take-append-le w (drop k piece) st.rest (omega (arith, fits, length-drop k piece))
