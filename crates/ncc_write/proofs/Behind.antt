-- Which slab comes next once one is full.
use Rattle.std.proofs.Common.{◌≡◌, ℕ, zero, suc, ◌+◌, ◌-◌, ◌*◌, ◌<◌, Bool, true, false, cond, not, List, [], ◌∷◌, ◌++◌, length, drop, Some, refl, sym, ap, subst, ◌∙◌, arith, length-append}
use Rattle.std.specs.Prelude.{filter, ltb, ◌/◌, ◌%◌, if◌then◌else◌}
use Rattle.std.specs.List.{AllByRecursion, flat_map, range_with_len}
use Rattle.std.proofs.lemmas.Bool.{ltb-true, ltb-false, lt-ltb, not-true}
use Rattle.std.proofs.lemmas.List.{drop-drop}
use Rattle.std.proofs.lemmas.List.Elements.{All-from_recursion, recursion_from_All, All-append}
use Rattle.ncc_values.specs.XType.{size_of}
use Rattle.ncc_values.specs.declared.version.Version.{Version}
use Rattle.ncc_values.specs.declared.xtype.XType.{XType}
use Rattle.ncc_schema.specs.declared.schema.Schema.{Schema}
use Rattle.ncc_schema.specs.declared.schema.Var.{Var}
use Rattle.ncc_schema.specs.Schema.{is_record_var, LegalVar, Sound}
use Rattle.ncc_layout.specs.Plans.{known}
use Rattle.ncc_layout.specs.Sizes.{slab}
use Rattle.ncc_layout.proofs.Membership.{all_filter}
use Rattle.ncc_layout.proofs.Positive.{slab_positive}
use Rattle.ncc_build.specs.Dataset.{Slab, elements, slabs_from, fixed_slabs, record_slabs, slabs_of}
use Rattle.ncc_write.specs.Writing.{Next, next_in, next_of, part_in, IsWhole, first_of, fixed_from, record_from, slabs_behind}
use Rattle.ncc_write.proofs.Ending.{choice, here, next_behind}
use Rattle.ncc_write.proofs.Growing.{by_size, part_by, filled}

-- ---- no slab is empty

abbrev pub HasBytes : Schema → Slab → Type 0
HasBytes s b = 0 < slab s.dims b.var

all_from : (s : Schema) (v : Version) (r n : ℕ) (vars : List Var) → AllByRecursion (LegalVar v s.dims) vars
    → AllByRecursion (HasBytes s) (slabs_from r n vars)
all_from s v r n [] all = tt
all_from s v r n (x ∷ vars) all = (slab_positive s.dims x all.0.dimids, all_from s v r (suc n) vars all.1)

all_both : (s : Schema) (a b : List Slab) → AllByRecursion (HasBytes s) a → AllByRecursion (HasBytes s) b
    → AllByRecursion (HasBytes s) (a ++ b)
all_both s a b h k = recursion_from_All (HasBytes s) (a ++ b)
    (All-append (HasBytes s) a b (All-from_recursion (HasBytes s) a h) (All-from_recursion (HasBytes s) b k))

all_records : (s : Schema) (start n : ℕ) → Sound s → AllByRecursion (HasBytes s)
    (flat_map (record_slabs s) (range_with_len start n))
all_records s start zero sound = tt
all_records s start (suc n) sound =
    all_both s (record_slabs s start) (flat_map (record_slabs s) (range_with_len (start + 1) n))
    (all_filter (HasBytes s) (λ b. is_record_var s.dims b.var) (slabs_from start 0 s.vars)
    (all_from s s.version start 0 s.vars sound.vars)) (all_records s (start + 1) n sound)

pub none_empty : (s : Schema) → Sound s → AllByRecursion (HasBytes s) (slabs_of s)
none_empty s sound =
    all_both s (fixed_slabs s) (flat_map (record_slabs s) (range_with_len 0 (known s.count)))
    (all_filter (HasBytes s) (λ b. not (is_record_var s.dims b.var)) (slabs_from 0 0 s.vars)
    (all_from s s.version 0 0 s.vars sound.vars)) (all_records s 0 (known s.count) sound)

-- ---- each slab with those after it

abbrev pub Tails : (Slab → List Slab → Type 0) → List Slab → Type 0
Tails P [] = Unit {0}
Tails P (b ∷ slabs) = P b slabs × Tails P slabs

tails_all : (s : Schema) (slabs : List Slab) → AllByRecursion (HasBytes s) slabs
    → Tails (λ b rest. AllByRecursion (HasBytes s) rest) slabs
tails_all s [] all = tt
tails_all s (b ∷ slabs) all = (all.1, tails_all s slabs all.1)

abbrev IsBehind : Schema → Slab → List Slab → Type 0
IsBehind s b rest = rest ≡ slabs_behind s b

abbrev slab_at : Var → (number in_record : ℕ) → Slab
slab_at x n r = record { var = x; number = n; in_record = r }

-- of the slabs of one kind, followed by those of tail
module _ (s : Schema) (r : ℕ) (kind : Var → Bool) (tail : List Slab) (P : Slab → List Slab → Type 0)
    (each : (n : ℕ) (x : Var) → kind x ≡ true → P (slab_at x n r)
    (filter (λ b. kind b.var) (slabs_from r (suc n) (drop (suc n) s.vars)) ++ tail)) (later : Tails P tail) where
  abbrev from : ℕ → List Var → List Slab
  from n vars = filter (λ b. kind b.var) (slabs_from r n vars)

  tails_first : (n : ℕ) (x : Var) (vars : List Var) (b : Bool) → kind x ≡ b → vars ≡ drop (suc n) s.vars
      → Tails P (from (suc n) vars ++ tail) → Tails P (cond b (slab_at x n r ∷ from (suc n) vars)
      (from (suc n) vars) ++ tail)
  tails_first n x vars true is rest tails = (
    subst (λ (l : List Var). P (slab_at x n r) (from (suc n) l ++ tail))
        (sym rest) (each n x is),
    tails,
  )
  tails_first n x vars false is rest tails = tails

  tails_of_kind : (n : ℕ) (vars : List Var) → vars ≡ drop n s.vars → Tails P (from n vars ++ tail)
  tails_of_kind n [] is = later
  tails_of_kind n (x ∷ vars) is =
      let next : n + 1 ≡ suc n = omega arith in
      let rest : vars ≡ drop (suc n) s.vars = ap (drop 1) is ∙ drop-drop 1 n s.vars
      ∙ ap (λ (k : ℕ). drop k s.vars) next in
      tails_first n x vars (kind x) refl rest (tails_of_kind (suc n) vars rest)

abbrev behind_by : Schema → Slab → Bool → List Slab
behind_by s b kind =
    if kind then record_from s b.in_record (suc b.number) ++ flat_map (record_slabs s)
    (range_with_len (b.in_record + 1) (known s.count - (b.in_record + 1)))
    else fixed_from s (suc b.number) ++ flat_map (record_slabs s) (range_with_len 0 (known s.count))

tails_of_records : (s : Schema) (r m : ℕ) → r + m ≡ known s.count
    → Tails (IsBehind s) (flat_map (record_slabs s) (range_with_len r m))
tails_of_records s r zero total = tt
tails_of_records s r (suc m) total =
    let left : m ≡ known s.count - (r + 1) = omega (arith, total) in
    tails_of_kind s r (is_record_var s.dims) (flat_map (record_slabs s) (range_with_len (r + 1) m)) (IsBehind s)
    (λ n x kind.
    ap (λ (k : ℕ). record_from s r (suc n) ++ flat_map (record_slabs s) (range_with_len (r + 1) k)) left
    ∙ ap (behind_by s (slab_at x n r)) (sym kind))
    (tails_of_records s (r + 1) m (omega (arith, total))) 0 s.vars refl

tails_of_all : (s : Schema) → Tails (IsBehind s) (slabs_of s)
tails_of_all s =
    tails_of_kind s 0 (λ x. not (is_record_var s.dims x))
    (flat_map (record_slabs s) (range_with_len 0 (known s.count))) (IsBehind s) (λ n x kind.
    ap (behind_by s (slab_at x n 0)) (sym (not-true (is_record_var s.dims x) kind)))
    (tails_of_records s 0 (known s.count) (omega arith)) 0 s.vars refl

-- ---- the next slab once one is full

pub record Following (s : Schema) (P : Slab → List Slab → Type 0) (slabs : List Slab) (m : ℕ) (n : Next) : Type 0 where
  rest : List Slab
  is : P n.slab rest
  next : next_in s slabs (m + n.left * size_of n.slab.var.xtype) ≡ next_in s rest 0

following_first : (s : Schema) (P : Slab → List Slab → Type 0) (b : Slab) (slabs : List Slab) (m : ℕ)
    → m < slab s.dims b.var → m % size_of b.var.xtype ≡ 0 → P b slabs → Following s P (b ∷ slabs) m (here s b m)
following_first s P b slabs m less whole p =
    let size = slab s.dims b.var in
    let all : m + (here s b m).left * size_of b.var.xtype ≡ size =
    (filled b.var.xtype (elements s.dims b.var) m (here s b m).left whole less).1 refl in
    let none : size - size ≡ 0 = omega arith in
    record {
      rest = slabs;
      is = p;
      next = ap (next_in s (b ∷ slabs)) all ∙ next_behind s b slabs size (omega arith) ∙ ap (next_in s slabs) none;
    }

following_by : (s : Schema) (P : Slab → List Slab → Type 0) (b : Slab) (slabs : List Slab) (m : ℕ) (n : Next)
    (few : Bool) → ltb m (slab s.dims b.var) ≡ few
    → choice few (here s b m) (next_in s slabs (m - slab s.dims b.var)) ≡ Some n → part_by s b slabs m few ≡ 0
    → P b slabs
    → (next_in s slabs (m - slab s.dims b.var) ≡ Some n → part_in s slabs (m - slab s.dims b.var) ≡ 0
    → Following s P slabs (m - slab s.dims b.var) n) → Following s P (b ∷ slabs) m n
following_by s P b slabs m n true is next whole p later =
    let same : here s b m ≡ n = cc in
    subst (Following s P (b ∷ slabs) m) same (following_first s P b slabs m (ltb-true m (slab s.dims b.var) is) whole p)
following_by s P b slabs m n false is next whole p later =
    let size = slab s.dims b.var in
    let enough = ltb-false m size is in
    let k = n.left * size_of n.slab.var.xtype in
    let f = later next whole in
    let behind : m + k - size ≡ m - size + k = omega (arith, enough) in
    record {
      rest = f.rest;
      is = f.is;
      next = next_behind s b slabs (m + k) (omega (arith, enough)) ∙ ap (next_in s slabs) behind ∙ f.next;
    }

following : (s : Schema) (P : Slab → List Slab → Type 0) (slabs : List Slab) (m : ℕ) (n : Next) → Tails P slabs
    → next_in s slabs m ≡ Some n → part_in s slabs m ≡ 0 → Following s P slabs m n
following s P [] m n tails next whole = absurd cc
following s P (b ∷ slabs) m n tails next whole =
    following_by s P b slabs m n (ltb m (slab s.dims b.var)) refl next whole tails.0
    (following s P slabs (m - slab s.dims b.var) n tails.1)

-- ---- the first of slabs that aren't empty

abbrev AllLeft : ℕ → Type 0
AllLeft w = (e : ℕ) → (e * w - 0) / w ≡ e

all_left : (t : XType) → AllLeft (size_of t)
all_left t = by_size AllLeft (λ e. omega arith) (λ e. omega arith) (λ e. omega arith) (λ e. omega arith) t

abbrev next_with : Slab → ℕ → Next
next_with b m = record { slab = b; left = m }

first_next : (s : Schema) (slabs : List Slab) → AllByRecursion (HasBytes s) slabs → next_in s slabs 0 ≡ first_of s slabs
first_next s [] all = refl
first_next s (b ∷ slabs) all =
    ap (λ (t : Bool). choice t (here s b 0) (next_in s slabs (0 - slab s.dims b.var)))
    (lt-ltb 0 (slab s.dims b.var) all.0)
    ∙ ap (λ (m : ℕ). Some (next_with b m)) (all_left b.var.xtype (elements s.dims b.var))

pub starts_first : (s : Schema) → Sound s → next_of s [] ≡ first_of s (slabs_of s)
starts_first s sound = first_next s (slabs_of s) (none_empty s sound)

tails_both : (P Q : Slab → List Slab → Type 0) (slabs : List Slab) → Tails P slabs → Tails Q slabs
    → Tails (λ b rest. P b rest × Q b rest) slabs
tails_both P Q [] h k = tt
tails_both P Q (b ∷ slabs) h k = ((h.0, k.0), tails_both P Q slabs h.1 k.1)

pub next_is_behind : (s : Schema) (taken bytes : List ℕ) (n : Next) → Sound s → IsWhole s taken
    → next_of s taken ≡ Some n → length bytes ≡ n.left * size_of n.slab.var.xtype
    → next_of s (taken ++ bytes) ≡ first_of s (slabs_behind s n.slab)
next_is_behind s taken bytes n sound whole next long =
    let full = λ (b : Slab) (rest : List Slab). AllByRecursion (HasBytes s) rest in
    let f = following s (λ b rest. IsBehind s b rest × full b rest) (slabs_of s) (length taken) n
    (tails_both (IsBehind s) full (slabs_of s) (tails_of_all s) (tails_all s (slabs_of s) (none_empty s sound)))
    next whole in
    ap (next_in s (slabs_of s)) (length-append taken bytes ∙ ap (λ (k : ℕ). length taken + k) long) ∙ f.next
    ∙ first_next s f.rest f.is.1 ∙ ap (first_of s) f.is.0
