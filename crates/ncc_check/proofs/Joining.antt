-- Notes that join others.
use Rattle.std.proofs.Common.{◌≡◌, ℕ, ◌+◌, ◌<◌, ◌≤◌, List, sym, subst, ◌∙◌, ◌⊎◌, inl, inr, arith}
use Rattle.std.specs.Prelude.{Contains}
use Rattle.std.proofs.lemmas.Bool.{cases_lt}
use Rattle.ncc_check.specs.declared.note.Note.{Note}
use Rattle.ncc_check.specs.declared.note.NoteKind.{NoteKind}
use Rattle.ncc_check.specs.Noting.{Adds, NoteIf, Below}

pub nothing_joins : (P : Note → Type 0) (xs : List Note) → ((n : Note) → P n → ⊥) → Adds P xs xs
nothing_joins P xs none = record { kept = λ n h. h; due = λ n h. inl h; all = λ n p. absurd (none n p) }

pub none_below : (P : ℕ → Note → Type 0) (xs : List Note) → Adds (Below P 0) xs xs
none_below P xs = nothing_joins (Below P 0) xs (λ n p. omega (arith, p.1))

-- the same notes by other words
pub as_well : (P Q : Note → Type 0) (xs ys : List Note) → ((n : Note) → P n → Q n) → ((n : Note) → Q n → P n) → Adds P xs ys → Adds Q xs ys
as_well P Q xs ys to from a = record { kept = a.kept; due = λ n h. by n (a.due n h); all = λ n q. a.all n (from n q) }
  where
    by : (n : Note) → Contains xs n ⊎ P n → Contains xs n ⊎ Q n
    by n (inl h) = inl h
    by n (inr p) = inr (to n p)

-- one after the other
pub both_join : (P Q : Note → Type 0) (xs ys zs : List Note) → Adds P xs ys → Adds Q ys zs → Adds (λ n. P n ⊎ Q n) xs zs
both_join P Q xs ys zs a b = record { kept = λ n h. b.kept n (a.kept n h); due = λ n h. by n (b.due n h); all = all }
  where
    first : (n : Note) → Contains xs n ⊎ P n → Contains xs n ⊎ (P n ⊎ Q n)
    first n (inl h) = inl h
    first n (inr p) = inr (inl p)

    by : (n : Note) → Contains ys n ⊎ Q n → Contains xs n ⊎ (P n ⊎ Q n)
    by n (inl h) = first n (a.due n h)
    by n (inr q) = inr (inr q)

    all : (n : Note) → P n ⊎ Q n → Contains zs n
    all n (inl p) = b.kept n (a.all n p)
    all n (inr q) = b.all n q

-- those of one more item
pub one_more : (P : ℕ → Note → Type 0) (i : ℕ) (xs ys zs : List Note) → Adds (Below P i) xs ys → Adds (P i) ys zs → Adds (Below P (i + 1)) xs zs
one_more P i xs ys zs a b = as_well (λ n. Below P i n ⊎ P i n) (Below P (i + 1)) xs zs to from (both_join (Below P i) (P i) xs ys zs a b)
  where
    to : (n : Note) → Below P i n ⊎ P i n → Below P (i + 1) n
    to n (inl b) = (b.0, omega (arith, b.1), b.2)
    to n (inr p) = (i, omega arith, p)

    at : (n : Note) (k : ℕ) → k < i + 1 → P k n → (k < i) ⊎ (i ≤ k) → Below P i n ⊎ P i n
    at n k below p (inl less) = inl (k, less, p)
    at n k below p (inr more) = inr (subst (λ j. P j n) (omega arith) p)

    from : (n : Note) → Below P (i + 1) n → Below P i n ⊎ P i n
    from n (k, below, p) = at n k below p (cases_lt k i)

-- a note under other words for the same condition
pub note_as : (A B : Type 0) (kind kind' : NoteKind) (offset offset' : ℕ) (xs ys : List Note) → (A → B) → (B → A) → kind ≡ kind' → offset ≡ offset' → Adds (NoteIf A kind offset) xs ys → Adds (NoteIf B kind' offset') xs ys
note_as A B kind kind' offset offset' xs ys to from e f =
    as_well (NoteIf A kind offset) (NoteIf B kind' offset') xs ys
    (λ n a. record { is_due = to a.is_due; is = a.is ∙ (λ i. record { kind = e i; offset = f i }) })
    (λ n b. record { is_due = from b.is_due; is = b.is ∙ (λ i. record { kind = sym e i; offset = sym f i }) })
