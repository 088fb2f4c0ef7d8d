-- From one position to the next.
use Rattle.std.proofs.Common.{◌≡◌, ℕ, zero, suc, ◌+◌, ◌-◌, ◌*◌, ◌<◌, ◌≤◌, List, [], ◌∷◌, length, take, get_or, Some, None, refl, sym, ap, ◌∙◌, arith}
use Rattle.std.specs.Prelude.{Bool, sum_by, ◌/◌}
use Rattle.std.proofs.Math.Nat.{add-mul}
use Rattle.std.proofs.lemmas.Bool.{lt-ltb}
use Rattle.std.proofs.lemmas.List.{take_all, take_more}
use Rattle.std.proofs.lemmas.List.Sums.{sum_by-append, sum_by-cons}
use Rattle.std.proofs.lemmas.Nat.{mul-le}
use Rattle.ncc_values.specs.XType.{size_of}
use Rattle.ncc_values.specs.declared.xtype.XType.{XType}
use Rattle.ncc_schema.specs.declared.schema.Schema.{Schema}
use Rattle.ncc_schema.specs.Schema.{Sound}
use Rattle.ncc_layout.specs.Sizes.{slab}
use Rattle.ncc_build.specs.Dataset.{Slab, elements, slabs_of}
use Rattle.ncc_write.specs.Positions.{IsAt, no_slab, slab_at, end_of}
use Rattle.ncc_write.specs.Writing.{next_in, next_of, data_length}
use Rattle.ncc_write.proofs.Behind.{HasBytes, none_empty}
use Rattle.ncc_write.proofs.Ending.{choice, here, next_behind, ends_when_filled}
use Rattle.ncc_write.proofs.Growing.{by_size}
use Rattle.ncc_layout.proofs.ShapesInFile.{all_at}

-- ---- sums of sizes

abbrev size_in : Schema → Slab → ℕ
size_in s b = slab s.dims b.var

-- the slabs up to this one
up_to : (s : Schema) (slabs : List Slab) (k : ℕ) → k < length slabs → sum_by (size_in s) (take (k + 1) slabs) ≡ sum_by (size_in s) (take k slabs) + size_in s (get_or slabs k no_slab)
up_to s slabs k less =
    let b = get_or slabs k no_slab in
    ap (sum_by (size_in s)) (take_more slabs k no_slab less) ∙ sum_by-append (size_in s) (take k slabs) (b ∷ [])
    ∙ (let one = sum_by-cons (size_in s) b [] in omega (arith, one))

-- ---- the place in slabs

abbrev LeftIs : ℕ → Type 0
LeftIs w = (e n left : ℕ) → n + left * w ≡ e * w → (e * w - n) / w ≡ left

left_is : (t : XType) → LeftIs (size_of t)
left_is t = by_size LeftIs (λ e n left is. omega (arith, is)) (λ e n left is. omega (arith, is)) (λ e n left is. omega (arith, is)) (λ e n left is. omega (arith, is)) t

abbrev HasSome : ℕ → Type 0
HasSome w = (left : ℕ) → 0 < left → 0 < left * w

has_some : (t : XType) → HasSome (size_of t)
has_some t = by_size HasSome (λ left some. omega (arith, some)) (λ left some. omega (arith, some)) (λ left some. omega (arith, some)) (λ left some. omega (arith, some)) t

abbrev NextAt : Schema → List Slab → (number : ℕ) → Type 0
NextAt s slabs k = (left n : ℕ) → k < length slabs → 0 < left → left ≤ elements s.dims (get_or slabs k no_slab).var
    → n + left * size_of (get_or slabs k no_slab).var.xtype ≡ sum_by (size_in s) (take (k + 1) slabs)
    → next_in s slabs n ≡ Some (record { slab = get_or slabs k no_slab; left = left })

first_next : (s : Schema) (b : Slab) (slabs : List Slab) → NextAt s (b ∷ slabs) 0
first_next s b slabs left n less some most is =
    let t = b.var.xtype in
    let end : n + left * size_of t ≡ elements s.dims b.var * size_of t = omega (arith, is, sum_by-cons (size_in s) b []) in
    let room : n < slab s.dims b.var = omega (arith, end, has_some t left some) in
    ap (λ (f : Bool). choice f (here s b n) (next_in s slabs (n - slab s.dims b.var))) (lt-ltb n (slab s.dims b.var) room)
    ∙ ap (λ (m : ℕ). Some (record { slab = b; left = m })) (left_is t (elements s.dims b.var) n left end)

next_at : (s : Schema) (slabs : List Slab) (k : ℕ) → NextAt s slabs k
next_at s [] k left n less some most is = absurd (omega (arith, less))
next_at s (b ∷ slabs) zero left n less some most is = first_next s b slabs left n less some most is
next_at s (b ∷ slabs) (suc k) left n less some most is =
    let c = get_or slabs k no_slab in
    let there : k < length slabs = omega (arith, less) in
    let step : suc k + 1 ≡ suc (k + 1) = omega arith in
    let sum : sum_by (size_in s) (take (suc k + 1) (b ∷ slabs)) ≡ slab s.dims b.var + sum_by (size_in s) (take (k + 1) slabs) =
    ap (λ (m : ℕ). sum_by (size_in s) (take m (b ∷ slabs))) step ∙ sum_by-cons (size_in s) b (take (k + 1) slabs) in
    let here_most = mul-le left (size_of c.var.xtype) (elements s.dims c.var) (size_of c.var.xtype) most (omega arith) in
    let enough : slab s.dims b.var ≤ n = omega (arith, is, sum, up_to s slabs k there, here_most) in
    next_behind s b slabs n enough
    ∙ next_at s slabs k left (n - slab s.dims b.var) there some most (omega (arith, is, sum, enough))

-- ---- the next value

module _ (s : Schema) (taken : List ℕ) (k left : ℕ) (at : IsAt s (length taken) k left) where
  pub next_open : k < length (slabs_of s) → next_of s taken ≡ Some (record { slab = slab_at s k; left = left })
  next_open less = next_at s (slabs_of s) k left (length taken) less (at.some less) (at.most less) (at.ends less)

  pub next_done : k ≡ length (slabs_of s) → next_of s taken ≡ None
  next_done all =
      let whole : end_of s k ≡ data_length s = ap (sum_by (size_in s)) (take_all k (slabs_of s) (omega (arith, all))) in
      (ends_when_filled s taken).1 (omega (arith, whole, at.done all))

-- ---- each slab has an element

pub has_elements : (s : Schema) → Sound s → (k : ℕ) → k < length (slabs_of s) → 0 < elements s.dims (slab_at s k).var
has_elements s sound k less =
    some (elements s.dims (slab_at s k).var) (size_of (slab_at s k).var.xtype)
    (all_at (HasBytes s) (slabs_of s) k no_slab less (none_empty s sound))
  where
    some : (e w : ℕ) → 0 < e * w → 0 < e
    some zero w h = absurd (omega (arith, h))
    some (suc e) w h = omega arith

-- ---- from one position to the next

abbrev pub HaveElements : Schema → Type 0
HaveElements s = (k : ℕ) → k < length (slabs_of s) → 0 < elements s.dims (slab_at s k).var

-- a writer begins before the first slab
pub begins_at : (s : Schema) → HaveElements s → (left : ℕ) → (0 < length (slabs_of s) → left ≡ elements s.dims (slab_at s 0).var) → IsAt s 0 0 left
begins_at s have left is = record {
  within = omega arith;
  some = λ less. omega (arith, is less, have 0 less);
  most = λ less. omega (arith, is less);
  ends = λ less. ap (λ (n : ℕ). 0 + n * size_of (slab_at s 0).var.xtype) (is less) ∙ sym (up_to s (slabs_of s) 0 less ∙ refl);
  done = λ all. refl;
}

module _ (s : Schema) (taken k left : ℕ) (at : IsAt s taken k left) (less : k < length (slabs_of s)) where
  abbrev width : ℕ
  width = size_of (slab_at s k).var.xtype

  -- some elements more, and some are left
  pub moves : (c : ℕ) → c < left → IsAt s (taken + c * width) k (left - c)
  moves c few = record {
    within = at.within;
    some = λ h. omega (arith, few);
    most = λ h. omega (arith, few, at.most less);
    ends = λ h.
        let both : (c + (left - c)) * width ≡ c * width + (left - c) * width = add-mul c (left - c) width in
        let whole : (c + (left - c)) * width ≡ left * width = ap (λ (n : ℕ). n * width) (let sum : c + (left - c) ≡ left = omega (arith, few) in sum) in
        omega (arith, at.ends less, both, whole);
    done = λ all. absurd (omega (arith, all, less));
  }

-- all that are left
pub moves_on : (s : Schema) (taken k next : ℕ) → HaveElements s → k < length (slabs_of s) → taken ≡ end_of s (k + 1) → (k + 1 < length (slabs_of s) → next ≡ elements s.dims (slab_at s (k + 1)).var) → IsAt s taken (k + 1) next
moves_on s taken k next have less end is = record {
  within = omega (arith, less);
  some = λ h. omega (arith, is h, have (k + 1) h);
  most = λ h. omega (arith, is h);
  ends = λ h.
      ap (λ (n : ℕ). taken + n * size_of (slab_at s (k + 1)).var.xtype) (is h)
      ∙ ap (λ (n : ℕ). n + slab s.dims (slab_at s (k + 1)).var) end
      ∙ sym (up_to s (slabs_of s) (k + 1) h);
  done = λ all. end;
}
