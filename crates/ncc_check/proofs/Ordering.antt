-- Notes in order, each once.
use Rattle.std.proofs.Common.{◌≡◌, ℕ, zero, suc, ◌<◌, ◌≤◌, Bool, true, false, List, [], ◌∷◌, refl, sym, ap, subst, ◌∙◌, ◌⊎◌, inl, inr, arith, cond, true≢false}
use Rattle.std.specs.Prelude.{Contains}
use Rattle.std.specs.List.{AllByRecursion, dedup, dedup_from}
use Rattle.std.specs.List.Retain.{IsFiltered, DiffersFromLast}
use Rattle.std.specs.List.Sorted.{IsNonDecreasingBy, IsPermutation}
use Rattle.std.proofs.lemmas.Bool.{cases_lt}
use Rattle.std.proofs.lemmas.List.Filters.{dedup_is}
use Rattle.std.proofs.lemmas.List.Sorted.{Contains-permutation, IsPermutation-sym}
use Rattle.ncc_check.specs.declared.note.Note.{Note}
use Rattle.ncc_check.specs.declared.note.NoteKind.{NoteKind}
use Rattle.ncc_check.specs.declared.note.NoteKind.TheVariants.{VsizeField, HeaderPadding, TaggedEmpty, NameRule, DuplicateName, UnalignedBegin, Order, LargeCount}
use Rattle.ncc_check.specs.Notes.{rank, Precedes, AreInOrder}
use Rattle.ncc_check.specs.Noting.{SameInOrder, key_of}

-- membership by recursion
abbrev In : List Note → Note → Type 0
In [] n = ⊥
In (m ∷ ns) n = (m ≡ n) ⊎ In ns n

in_from_contains : (ns : List Note) (n : Note) → Contains ns n → In ns n
in_from_contains [] n (k, below, is) = absurd (omega (arith, below))
in_from_contains (m ∷ ns) n (zero, below, is) = inl is
in_from_contains (m ∷ ns) n (suc k, below, is) = inr (in_from_contains ns n (k, omega (arith, below), is))

contains_from_in : (ns : List Note) (n : Note) → In ns n → Contains ns n
contains_from_in [] n h = absurd h
contains_from_in (m ∷ ns) n (inl e) = (0, omega arith, e)
contains_from_in (m ∷ ns) n (inr h) = let t = contains_from_in ns n h in (suc t.0, omega (arith, t.1), t.2)

-- each key is at most those after it
abbrev Sorted : List Note → Type 0
Sorted [] = Unit {0}
Sorted (n ∷ ns) = ((m : Note) → In ns m → key_of n ≤ key_of m) × Sorted ns

sorted : (ns : List Note) → IsNonDecreasingBy key_of ns → Sorted ns
sorted [] h = tt
sorted (n ∷ ns) h = (
  (λ m t. let c = contains_from_in ns m t in subst (λ x. key_of n ≤ key_of x) c.2 (h 0 (suc c.0) m (omega arith) (omega (arith, c.1)))),
  sorted ns (λ i j d le below. h (suc i) (suc j) d (omega (arith, le)) (omega (arith, below))),
)

abbrev kind_of_rank : ℕ → NoteKind
kind_of_rank zero = LargeCount
kind_of_rank (suc zero) = VsizeField
kind_of_rank (suc (suc zero)) = HeaderPadding
kind_of_rank (suc (suc (suc zero))) = TaggedEmpty
kind_of_rank (suc (suc (suc (suc zero)))) = NameRule
kind_of_rank (suc (suc (suc (suc (suc zero))))) = DuplicateName
kind_of_rank (suc (suc (suc (suc (suc (suc zero)))))) = UnalignedBegin
kind_of_rank (suc (suc (suc (suc (suc (suc (suc zero))))))) = Order
kind_of_rank _ = LargeCount

of_own_rank : (k : NoteKind) → kind_of_rank (rank k) ≡ k
of_own_rank VsizeField = refl
of_own_rank HeaderPadding = refl
of_own_rank TaggedEmpty = refl
of_own_rank NameRule = refl
of_own_rank DuplicateName = refl
of_own_rank UnalignedBegin = refl
of_own_rank Order = refl
of_own_rank LargeCount = refl

small_rank : (k : NoteKind) → rank k < 16
small_rank VsizeField = omega arith
small_rank HeaderPadding = omega arith
small_rank TaggedEmpty = omega arith
small_rank NameRule = omega arith
small_rank DuplicateName = omega arith
small_rank UnalignedBegin = omega arith
small_rank Order = omega arith
small_rank LargeCount = omega arith

-- one note of a key
one_note : (m n : Note) → key_of m ≡ key_of n → m ≡ n
one_note m n e =
    let offsets : m.offset ≡ n.offset = omega (arith, e, small_rank m.kind, small_rank n.kind) in
    let ranks : rank m.kind ≡ rank n.kind = omega (arith, e, offsets) in
    let kinds : m.kind ≡ n.kind = sym (of_own_rank m.kind) ∙ ap kind_of_rank ranks ∙ of_own_rank n.kind in
    λ i. record { kind = kinds i; offset = offsets i }

precedes : (m n : Note) → key_of m < key_of n → Precedes m n
precedes m n less = by (cases_lt m.offset n.offset)
  where
    by : (m.offset < n.offset) ⊎ (n.offset ≤ m.offset) → Precedes m n
    by (inl h) = inl h
    by (inr h) =
        let same : m.offset ≡ n.offset = omega (arith, h, less, small_rank m.kind, small_rank n.kind) in
        inr (same, omega (arith, same, less))

-- ---- notes that are dropped where they follow the same one

module _ (E : Note → Note → Bool) (is_same : (m n : Note) → E m n ≡ true → m ≡ n) (is_itself : (n : Note) → E n n ≡ true) where
  abbrev Next : Bool → (k n : Note) → List Note → List Note
  Next b k n ns = cond b (dedup_from E k ns) (k ∷ dedup_from E n ns)

  skip : (k n m : Note) (ns : List Note) → In (k ∷ ns) m → In (k ∷ n ∷ ns) m
  skip k n m ns (inl e) = inl e
  skip k n m ns (inr h) = inr (inr h)

  from_by : (b : Bool) (k n m : Note) (ns : List Note) → (In (dedup_from E k ns) m → In (k ∷ ns) m) → (In (dedup_from E n ns) m → In (n ∷ ns) m) → In (Next b k n ns) m → In (k ∷ n ∷ ns) m
  from_by true k n m ns f g h = skip k n m ns (f h)
  from_by false k n m ns f g (inl e) = inl e
  from_by false k n m ns f g (inr h) = inr (g h)

  from : (k m : Note) (ns : List Note) → In (dedup_from E k ns) m → In (k ∷ ns) m
  from k m [] h = h
  from k m (n ∷ ns) h = from_by (E n k) k n m ns (from k m ns) (from n m ns) h

  all_by : (b : Bool) (k n m : Note) (ns : List Note) → E n k ≡ b → (In (k ∷ ns) m → In (dedup_from E k ns) m) → (In (n ∷ ns) m → In (dedup_from E n ns) m) → In (k ∷ n ∷ ns) m → In (Next b k n ns) m
  all_by true k n m ns e f g (inl is) = f (inl is)
  all_by true k n m ns e f g (inr (inl is)) = f (inl (sym (is_same n k e) ∙ is))
  all_by true k n m ns e f g (inr (inr h)) = f (inr h)
  all_by false k n m ns e f g (inl is) = inl is
  all_by false k n m ns e f g (inr h) = inr (g h)

  all : (k m : Note) (ns : List Note) → In (k ∷ ns) m → In (dedup_from E k ns) m
  all k m [] h = h
  all k m (n ∷ ns) h = all_by (E n k) k n m ns refl (all k m ns) (all n m ns) h

  -- the first note of a list in order is the least
  least : (n m : Note) (ns : List Note) → Sorted (n ∷ ns) → In (n ∷ ns) m → key_of n ≤ key_of m
  least n m ns order (inl is) = subst (λ (x : Note). key_of n ≤ key_of x) is (omega arith)
  least n m ns order (inr h) = order.0 m h

  -- another one after it is greater
  greater : (k n : Note) → key_of k ≤ key_of n → E n k ≡ false → (key_of k < key_of n) ⊎ (key_of n ≤ key_of k) → key_of k < key_of n
  greater k n le other (inl less) = less
  greater k n le other (inr ge) =
      let same : n ≡ k = one_note n k (omega (arith, le, ge)) in
      absurd (true≢false (sym (is_itself k) ∙ ap (λ (x : Note). E x k) (sym same) ∙ other))

  each : (n : Note) (ns : List Note) → ((m : Note) → In ns m → Precedes n m) → AllByRecursion (Precedes n) ns
  each n [] h = tt
  each n (m ∷ ns) h = (h m (inl refl), each n ns (λ k t. h k (inr t)))

  order_by : (b : Bool) (k n : Note) (ns : List Note) → E n k ≡ b → Sorted (k ∷ n ∷ ns) → AreInOrder (dedup_from E k ns) → AreInOrder (dedup_from E n ns) → AreInOrder (Next b k n ns)
  order_by true k n ns e order f g = f
  order_by false k n ns e order f g =
      let above = greater k n (order.0 n (inl refl)) e (cases_lt (key_of k) (key_of n)) in
      (each k (dedup_from E n ns) (λ m h. let le = least n m ns order.1 (from n m ns h) in precedes k m (omega (arith, above, le))), g)

  ordered : (k : Note) (ns : List Note) → Sorted (k ∷ ns) → AreInOrder (dedup_from E k ns)
  ordered k [] order = (tt, tt)
  ordered k (n ∷ ns) order = order_by (E n k) k n ns refl order (ordered k ns ((λ m h. order.0 m (inr h)), order.1.1)) (ordered n ns order.1)

  whole : (ns : List Note) → Sorted ns → SameInOrder ns (dedup E ns)
  whole [] order = record { from = λ n h. h; all = λ n h. h; in_order = tt }
  whole (k ∷ ns) order = record {
    from = λ n h. contains_from_in (k ∷ ns) n (from k n ns (in_from_contains (dedup_from E k ns) n h));
    all = λ n h. contains_from_in (dedup_from E k ns) n (all k n ns (in_from_contains (k ∷ ns) n h));
    in_order = ordered k ns order;
  }

  -- notes that were sorted, and each kept where it differs from the last one kept
  pub same_in_order : (notes ns kept : List Note) → IsPermutation notes ns → IsNonDecreasingBy key_of ns → IsFiltered (DiffersFromLast E) [] ns kept → SameInOrder notes kept
  same_in_order notes ns kept p order filtered =
      let all_of = whole ns (sorted ns order) in
      let e = dedup_is E ns kept filtered in
      record {
        from = λ n h. Contains-permutation ns notes n (IsPermutation-sym notes ns p) (all_of.from n (subst (λ xs. Contains xs n) e h));
        all = λ n h. subst (λ xs. Contains xs n) (sym e) (all_of.all n (Contains-permutation notes ns n p h));
        in_order = subst AreInOrder (sym e) all_of.in_order;
      }
