-- When two slabs have the same bytes, and two lists the same items.
use Rattle.std.proofs.Common.{◌≡◌, ℕ, zero, suc, ◌+◌, ◌*◌, ◌<◌, Bool, true, false, cond, List, [], ◌∷◌, ◌++◌, length, take, drop, refl, sym, ap, ap₂, ◌∙◌, arith, length-drop}
use Rattle.std.specs.Prelude.{filter, ◌/◌, ◌%◌}
use Rattle.std.proofs.lemmas.List.{nil_from_length, take-append-drop, drop-drop}
use Rattle.std.proofs.lemmas.Nat.{div_below, mod_below, div-add-mod'}
use Rattle.ncc_values.specs.Values.{bytes_of, values_of}
use Rattle.ncc_values.specs.XType.{size_of}
use Rattle.ncc_values.specs.declared.values.Values.{Values}
use Rattle.ncc_values.specs.declared.xtype.XType.{XType}
use Rattle.ncc_values.proofs.ValuesLemmas.{values_of-bytes_of}
use Rattle.ncc_schema.specs.declared.schema.Dim.{Dim}
use Rattle.ncc_schema.specs.declared.schema.Var.{Var}
use Rattle.ncc_layout.specs.Sizes.{product}
use Rattle.ncc_layout.specs.Elements.{row_major, Inside}
use Rattle.ncc_build.specs.Dataset.{elements, IsSlabOf}
use Rattle.ncc_write.specs.Holds.{bytes_at}
use Rattle.ncc_write.proofs.Slabs.{length_slab}

-- ---- the index list of a row-major number

abbrev IndexOf : List ℕ → ℕ → Type 0
IndexOf ls k = (is : List ℕ) × Inside ls is × (row_major ls is ≡ k)

some_product : (k l p : ℕ) → k < l * p → 0 < p
some_product k l zero below = absurd (omega (arith, below))
some_product k l (suc p) below = omega arith

pub index_of : (ls : List ℕ) (k : ℕ) → k < product ls → IndexOf ls k
index_of [] k below = ([], tt, omega (arith, below))
index_of (l ∷ ls) k below =
    let p = product ls in
    let some = some_product k l p below in
    let rest = index_of ls (k % p) (mod_below k p some) in
    ((k / p) ∷ rest.0, (div_below k p l some below, rest.1), ap (λ (m : ℕ). k / p * p + m) rest.2 ∙ div-add-mod' k p)

-- ---- bytes

pub same_parts : (w e : ℕ) (a b : List ℕ) → length a ≡ e * w → length b ≡ e * w
    → ((k : ℕ) → k < e → bytes_at a (k * w) w ≡ bytes_at b (k * w) w) → a ≡ b
same_parts w zero a b m n same =
    let none : 0 * w ≡ 0 = omega arith in
    nil_from_length a (m ∙ none) ∙ sym (nil_from_length b (n ∙ none))
same_parts w (suc e) a b m n same =
    let more : suc e * w ≡ w + e * w = omega arith in
    let none : 0 ≡ 0 * w = omega arith in
    let at_none = λ (l : List ℕ). ap (λ (k : ℕ). take w (drop k l)) none in
    let first : take w a ≡ take w b = at_none a ∙ same 0 (omega arith) ∙ sym (at_none b) in
    let behind = λ (l : List ℕ) (k : ℕ). drop-drop (k * w) w l in
    let next = λ (k : ℕ). let e : w + k * w ≡ suc k * w = omega arith in e in
    let rest : drop w a ≡ drop w b = same_parts w e (drop w a) (drop w b) (omega (arith, m, more, length-drop w a))
    (omega (arith, n, more, length-drop w b)) (λ k below.
    ap (take w) (behind a k ∙ ap (λ (j : ℕ). drop j a) (next k)) ∙ same (suc k) (omega (arith, below))
    ∙ sym (ap (take w) (behind b k ∙ ap (λ (j : ℕ). drop j b) (next k)))) in
    sym (take-append-drop w a) ∙ ap₂ (λ (x y : List ℕ). x ++ y) first rest ∙ take-append-drop w b

-- ---- values

-- slabs of a variable whose elements have the same bytes
pub same_slabs : (dims : List Dim) (x : Var) (v w : Values) → IsSlabOf dims x v → IsSlabOf dims x w
    → ((k : ℕ) → k < elements dims x → bytes_at (bytes_of v) (k * size_of x.xtype) (size_of x.xtype) ≡ bytes_at
    (bytes_of w) (k * size_of x.xtype) (size_of x.xtype)) → v ≡ w
same_slabs dims x v w a b same =
    let bytes : bytes_of v ≡ bytes_of w = same_parts (size_of x.xtype) (elements dims x) (bytes_of v) (bytes_of w)
    (length_slab dims x v a) (length_slab dims x w b) same in
    sym (values_of-bytes_of v a.range) ∙ ap₂ (λ (t : XType) (l : List ℕ). values_of t l)
    (a.xtype ∙ sym b.xtype) bytes ∙ values_of-bytes_of w b.range

-- ---- the items that a test keeps

-- the item that stands there among those that the test keeps
pub record Kept (p : Var → Bool) (vars : List Var) (i : ℕ) : Type 0 where
  pub item : Var
  pub front : List Var
  pub after : List Var
  pub joined : vars ≡ front ++ item ∷ after
  pub passes : p item ≡ true
  pub number : length (filter p front) ≡ i

kept_later : (p : Var → Bool) (x : Var) (vars : List Var) (i : ℕ) (b : Bool) → p x ≡ b → (k : Kept p vars i)
    → (j : ℕ) → length (cond b (x ∷ filter p k.front) (filter p k.front)) ≡ j → Kept p (x ∷ vars) j
kept_later p x vars i b is k j number = record {
  item = k.item;
  front = x ∷ k.front;
  after = k.after;
  joined = ap (λ (l : List Var). x ∷ l) k.joined;
  passes = k.passes;
  number = ap (λ (t : Bool). length (cond t (x ∷ filter p k.front) (filter p k.front))) is ∙ number;
}

kept_by : (p : Var → Bool) (x : Var) (vars : List Var) (i : ℕ) (b : Bool) → p x ≡ b
    → ((j : ℕ) → j < length (filter p vars) → Kept p vars j)
    → i < length (cond b (x ∷ filter p vars) (filter p vars)) → Kept p (x ∷ vars) i
kept_by p x vars zero true is rest below = record {
  item = x;
  front = [];
  after = vars;
  joined = refl;
  passes =
      is;
  number = refl;
}
kept_by p x vars (suc i) true is rest below = let k =
    rest i (omega (arith, below)) in kept_later p x vars i true is k (suc i) (ap suc k.number)
kept_by p x vars zero false is rest below = let k = rest 0 below in kept_later p x vars 0 false is k 0 k.number
kept_by p x vars (suc i) false is rest below = let k =
    rest (suc i) below in kept_later p x vars (suc i) false is k (suc i) k.number

pub kept_at : (p : Var → Bool) (vars : List Var) (i : ℕ) → i < length (filter p vars) → Kept p vars i
kept_at p [] i below = absurd (omega (arith, below))
kept_at p (x ∷ vars) i below = kept_by p x vars i (p x) refl (kept_at p vars) below
