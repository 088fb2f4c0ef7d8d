-- Filling in what is left, slab by slab.
use Rattle.std.proofs.Common.{◌≡◌, ℕ, zero, suc, ◌+◌, ◌-◌, ◌*◌, ◌<◌, ◌≤◌, Bool, true, false, List, [], ◌∷◌, ◌++◌, length, take, drop, Option, Some, None, refl, sym, ap, ap₂, subst, ◌∙◌, arith, append-nil, length-append, length-drop}
use Rattle.std.specs.Prelude.{ltb, sum_by, ◌/◌, ◌%◌, if◌then◌else◌}
use Rattle.std.proofs.lemmas.Bool.{ltb-true, ltb-false}
use Rattle.std.proofs.lemmas.List.{take_all, drop_all, take-append-le, drop-append-le, take-append-drop, nil_from_length}
use Rattle.std.proofs.lemmas.List.Sums.{sum_by-cons}
use Rattle.ncc_values.specs.Fill.{fill_of}
use Rattle.ncc_values.specs.Numbers.{IsBytes}
use Rattle.ncc_values.specs.Values.{bytes_of}
use Rattle.ncc_values.specs.XType.{size_of}
use Rattle.ncc_values.specs.declared.xtype.XType.{XType}
use Rattle.ncc_values.specs.declared.xtype.XType.TheVariants.{Byte, Char, Short, Int, Float, Double, UByte, UShort, UInt, Int64, UInt64}
use Rattle.ncc_values.proofs.ValuesLemmas.{bytes-bytes_of}
use Rattle.ncc_schema.specs.declared.schema.Attr.{Attr}
use Rattle.ncc_schema.specs.declared.schema.Schema.{Schema}
use Rattle.ncc_schema.specs.declared.schema.Var.{Var}
use Rattle.ncc_layout.specs.Sizes.{slab}
use Rattle.ncc_build.specs.Dataset.{Slab, elements, slabs_of}
use Rattle.ncc_build.specs.Fill.{fill_name, named, is_fill, fill_by, fill_bytes, fills}
use Rattle.ncc_write.specs.Writing.{Next, next_in, next_of, part_in, IsWhole, filled_in, data_length}
use Rattle.ncc_write.proofs.Ending.{choice, no_first, here}
use Rattle.ncc_write.proofs.Growing.{by_size, part_by, filled}
use Rattle.ncc_write.proofs.Paddings.{length_fills}

-- ---- fill values are bytes

default_bytes : (t : XType) → IsBytes (fill_of t)
default_bytes Byte = (omega arith, tt)
default_bytes Char = (omega arith, tt)
default_bytes Short = (omega arith, (omega arith, tt))
default_bytes Int = (omega arith, (omega arith, (omega arith, (omega arith, tt))))
default_bytes Float = (omega arith, (omega arith, (omega arith, (omega arith, tt))))
default_bytes Double = (
  omega arith,
  (
    omega arith,
    (
      omega arith,
      (omega arith, (omega arith, (omega arith, (omega arith, (omega arith, tt))))),
    ),
  ),
)
default_bytes UByte = (omega arith, tt)
default_bytes UShort = (omega arith, (omega arith, tt))
default_bytes UInt = (omega arith, (omega arith, (omega arith, (omega arith, tt))))
default_bytes Int64 = (
  omega arith,
  (
    omega arith,
    (
      omega arith,
      (omega arith, (omega arith, (omega arith, (omega arith, (omega arith, tt))))),
    ),
  ),
)
default_bytes UInt64 = (
  omega arith,
  (
    omega arith,
    (
      omega arith,
      (omega arith, (omega arith, (omega arith, (omega arith, (omega arith, tt))))),
    ),
  ),
)

bytes_by_fit : (t : XType) (a : Attr) (fits : Bool) → IsBytes (if fits then bytes_of a.values else fill_of t)
bytes_by_fit t a true = bytes-bytes_of a.values
bytes_by_fit t a false = default_bytes t

bytes_by_attr : (t : XType) (o : Option Attr) → IsBytes (fill_by t o)
bytes_by_attr t None = default_bytes t
bytes_by_attr t (Some a) = bytes_by_fit t a (is_fill t a)

both_bytes : (a b : List ℕ) → IsBytes a → IsBytes b → IsBytes (a ++ b)
both_bytes [] b h k = k
both_bytes (x ∷ a) b h k = (h.0, both_bytes a b h.1 k)

pub fills_bytes : (n : ℕ) (x : Var) → IsBytes (fills n x)
fills_bytes zero x = tt
fills_bytes (suc n) x = both_bytes (fill_bytes x) (fills n x) (bytes_by_attr x.xtype (named fill_name x.attrs))
    (fills_bytes n x)

-- ---- one slab

-- nothing is filled in after bytes that are there
none_left : (t : XType) (size m : ℕ) → size ≤ m → (size - m) / size_of t ≡ 0
none_left t size m enough =
    let none : size - m ≡ 0 = omega (arith, enough) in
    ap (λ (k : ℕ). k / size_of t) none ∙ by_size (λ w. 0 / w ≡ 0) refl refl refl refl t

full_slab : (s : Schema) (b : Slab) (slabs : List Slab) (taken : List ℕ) → slab s.dims b.var ≤ length taken
    → filled_in s (b ∷ slabs) taken ≡ take (slab s.dims b.var) taken ++ filled_in s slabs
    (drop (slab s.dims b.var) taken)
full_slab s b slabs taken enough =
    let size = slab s.dims b.var in
    ap (λ (k : ℕ). take size taken ++ fills k b.var ++ filled_in s slabs (drop size taken))
    (none_left b.var.xtype size (length taken) enough)
    ∙ ap (λ (l : List ℕ). l ++ filled_in s slabs (drop size taken)) (append-nil (take size taken))

-- the same with the fill values taken
abbrev GoesOn : Schema → List Slab → List ℕ → Next → Type 0
GoesOn s slabs taken n = filled_in s slabs taken ≡ filled_in s slabs (taken ++ fills n.left n.slab.var)

first_goes_on : (s : Schema) (b : Slab) (slabs : List Slab) (taken : List ℕ) → length taken < slab s.dims b.var
    → length taken % size_of b.var.xtype ≡ 0 → GoesOn s (b ∷ slabs) taken (here s b (length taken))
first_goes_on s b slabs taken less whole =
    let size = slab s.dims b.var in
    let left = (size - length taken) / size_of b.var.xtype in
    let more = fills left b.var in
    let all : length taken + left * size_of b.var.xtype ≡ size =
    (filled b.var.xtype (elements s.dims b.var) (length taken) left whole less).1 refl in
    let long : length (taken ++ more) ≡ size = length-append taken more
    ∙ ap (λ (k : ℕ). length taken + k) (length_fills left b.var) ∙ all in
    let first : take size taken ++ more ≡ take size (taken ++ more) =
    ap (λ (l : List ℕ). l ++ more) (take_all size taken (omega (arith, less)))
    ∙ sym (take_all size (taken ++ more) (omega (arith, long))) in
    let rest : drop size taken ≡ drop size (taken ++ more) = drop_all size taken (omega (arith, less))
    ∙ sym (drop_all size (taken ++ more) (omega (arith, long))) in
    ap₂ (λ (x y : List ℕ). x ++ filled_in s slabs y) first rest
    ∙ sym (full_slab s b slabs (taken ++ more) (omega (arith, long)))

goes_on_by : (s : Schema) (b : Slab) (slabs : List Slab) (taken : List ℕ) (n : Next) (few : Bool)
    → ltb (length taken) (slab s.dims b.var) ≡ few
    → choice few (here s b (length taken)) (next_in s slabs (length taken - slab s.dims b.var)) ≡ Some n
    → part_by s b slabs (length taken) few ≡ 0
    → (next_in s slabs (length (drop (slab s.dims b.var) taken)) ≡ Some n
    → part_in s slabs (length (drop (slab s.dims b.var) taken)) ≡ 0
    → GoesOn s slabs (drop (slab s.dims b.var) taken) n) → GoesOn s (b ∷ slabs) taken n
goes_on_by s b slabs taken n true is next whole later =
    let same : here s b (length taken) ≡ n = cc in
    subst (GoesOn s (b ∷ slabs) taken) same (first_goes_on s b slabs taken
    (ltb-true (length taken) (slab s.dims b.var) is) whole)
goes_on_by s b slabs taken n false is next whole later =
    let size = slab s.dims b.var in
    let drops = length-drop size taken in
    let more = fills n.left n.slab.var in
    let enough : size ≤ length taken = ltb-false (length taken) size is in
    full_slab s b slabs taken enough
    ∙ ap (λ (l : List ℕ). take size taken ++ l) (later (ap (next_in s slabs) drops ∙ next)
    (ap (part_in s slabs) drops ∙ whole))
    ∙ sym (full_slab s b slabs (taken ++ more) (omega (arith, enough, length-append taken more))
    ∙ ap₂ (λ (x y : List ℕ). x ++ filled_in s slabs y) (take-append-le size taken more enough)
    (drop-append-le size taken more enough))

goes_on : (s : Schema) (slabs : List Slab) (taken : List ℕ) (n : Next) → next_in s slabs (length taken) ≡ Some n
    → part_in s slabs (length taken) ≡ 0 → GoesOn s slabs taken n
goes_on s [] taken n next whole = absurd cc
goes_on s (b ∷ slabs) taken n next whole = goes_on_by s b slabs taken n
    (ltb (length taken) (slab s.dims b.var)) refl next whole (goes_on s slabs (drop (slab s.dims b.var) taken) n)

pub filling_goes_on : (s : Schema) (taken : List ℕ) (n : Next) → IsWhole s taken → next_of s taken ≡ Some n
    → filled_in s (slabs_of s) taken ≡ filled_in s (slabs_of s) (taken ++ fills n.left n.slab.var)
filling_goes_on s taken n whole next = goes_on s (slabs_of s) taken n next whole

-- ---- at the end

no_more : (s : Schema) (slabs : List Slab) (taken : List ℕ) → next_in s slabs (length taken) ≡ None
    → length taken ≤ sum_by (λ b. slab s.dims b.var) slabs → filled_in s slabs taken ≡ taken
no_more s [] taken none within = sym (nil_from_length taken (omega (arith, within)))
no_more s (b ∷ slabs) taken none within =
    let size = slab s.dims b.var in
    let parts = no_first (ltb (length taken) size) (here s b (length taken))
    (next_in s slabs (length taken - size)) none in
    let enough = ltb-false (length taken) size parts.0 in
    let drops = length-drop size taken in
    full_slab s b slabs taken enough
    ∙ ap (λ (l : List ℕ). take size taken ++ l) (no_more s slabs (drop size taken)
    (ap (next_in s slabs) drops ∙ parts.1) (omega (
      arith,
      within,
      drops,
      enough,
      sum_by-cons
          (λ (c : Slab). slab s.dims c.var) b slabs,
    )))
    ∙ take-append-drop size taken

pub filled_at_end : (s : Schema) (taken : List ℕ) → next_of s taken ≡ None → length taken ≤ data_length s
    → filled_in s (slabs_of s) taken ≡ taken
filled_at_end s taken none within = no_more s (slabs_of s) taken none within
