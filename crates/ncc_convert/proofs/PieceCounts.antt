-- With each piece that is taken one piece less is still to come.
use Rattle.std.proofs.Common.{◌≡◌, ◌⊎◌, inl, inr, ℕ, ◌+◌, ◌-◌, ◌*◌, ◌<◌, ◌≤◌, ◌/◌, Bool, true, false, List, [], ◌∷◌, Some, refl, ap, subst, arith}
use Rattle.std.specs.Prelude.{ltb, if◌then◌else◌}
use Rattle.std.proofs.lemmas.Bool.{ltb-true, ltb-false, lt-ltb, le-ltb}
use Rattle.std.proofs.lemmas.Nat.{mul-le}
use Rattle.std.proofs.lemmas.List.Sums.{sum_by-cons}
use Rattle.ncc_values.specs.XType.{size_of}
use Rattle.ncc_values.specs.declared.xtype.XType.{XType}
use Rattle.ncc_values.specs.declared.xtype.XType.TheVariants.{Byte, Char, Short, Int, Float, Double, UByte, UShort, UInt, Int64, UInt64}
use Rattle.ncc_schema.specs.declared.schema.Schema.{Schema}
use Rattle.ncc_layout.specs.Sizes.{slab}
use Rattle.ncc_build.specs.Dataset.{Slab, elements}
use Rattle.ncc_write.specs.Writing.{Next, next_in, part_in}
use Rattle.ncc_write.proofs.Ending.{choice, here}
use Rattle.ncc_write.proofs.Growing.{filled, part_by}
use Rattle.ncc_convert.specs.Copying.{pieces, pieces_behind, pieces_of}

-- a whole buffer is a number of elements of each type
pub whole_buffer : (t : XType) → 65536 / size_of t * size_of t ≡ 65536
whole_buffer Byte = omega arith
whole_buffer Char = omega arith
whole_buffer Short = omega arith
whole_buffer Int = omega arith
whole_buffer Float = omega arith
whole_buffer Double = omega arith
whole_buffer UByte = omega arith
whole_buffer UShort = omega arith
whole_buffer UInt = omega arith
whole_buffer Int64 = omega arith
whole_buffer UInt64 = omega arith

module _ (s : Schema) where
  abbrev size : Slab → ℕ
  size b = slab s.dims b.var

  abbrev behind : Slab → List Slab → ℕ → Bool → ℕ
  behind b slabs t few = if few then pieces (size b - t) + pieces_of s slabs else pieces_behind s slabs (t - size b)

  pub at_first : (slabs : List Slab) → pieces_behind s slabs 0 ≤ pieces_of s slabs
  at_first [] = omega arith
  at_first (b ∷ slabs) = by (ltb 0 (size b)) refl (at_first slabs)
    where
      total : pieces_of s (b ∷ slabs) ≡ pieces (size b) + pieces_of s slabs
      total = sum_by-cons (λ (c : Slab). pieces (size c)) b slabs

      by : (few : Bool) → ltb 0 (size b) ≡ few → pieces_behind s slabs 0 ≤ pieces_of s slabs
          → pieces_behind s (b ∷ slabs) 0 ≤ pieces_of s (b ∷ slabs)
      by true is rest = omega (arith, ap (behind b slabs 0) is, total)
      by false is rest =
          let none : 0 - size b ≡ 0 = omega arith in
          omega (arith, ap (behind b slabs 0) is, total, rest, ap (pieces_behind s slabs) none)

  -- the piece ends the slab, or is a whole buffer
  abbrev pub Ends : (n : Next) → (k : ℕ) → Type 0
  Ends n k = (k ≡ n.left) ⊎ (k * size_of n.slab.var.xtype ≡ 65536)

  abbrev Falls : List Slab → (t m : ℕ) → Type 0
  Falls slabs t m = pieces_behind s slabs (t + m) + 1 ≤ pieces_behind s slabs t

  module _ (b : Slab) (slabs : List Slab) (t k : ℕ) where
    abbrev m : ℕ
    m = k * size_of b.var.xtype

    -- of the first slab
    in_slab : t < size b → t + (here s b t).left * size_of b.var.xtype ≡ size b → t + m ≤ size b
        → Ends (here s b t) k → Falls (b ∷ slabs) t m
    in_slab less all fits ends = by (ltb (t + m) (size b)) refl
      where
        before : pieces_behind s (b ∷ slabs) t ≡ pieces (size b - t) + pieces_of s slabs
        before = ap (behind b slabs t) (lt-ltb t (size b) less)

        full : Ends (here s b t) k → t + m < size b → m ≡ 65536
        full (inl last) some = absurd (omega (arith, all, some, ap (λ (j : ℕ). j * size_of b.var.xtype) last))
        full (inr is) some = is

        by : (few : Bool) → ltb (t + m) (size b) ≡ few → Falls (b ∷ slabs) t m
        by true is = omega (
          arith,
          before,
          ap (behind b slabs (t + m)) is,
          full ends (ltb-true (t + m) (size b) is),
          ltb-true (t + m) (size b) is,
        )
        by false is =
            let none : t + m - size b ≡ 0 = omega (arith, fits) in
            omega (arith, before, ap (behind b slabs (t + m)) is, ap (pieces_behind s slabs) none, at_first slabs, less)

    -- of a later one
    later : (m : ℕ) → size b ≤ t → Falls slabs (t - size b) m → Falls (b ∷ slabs) t m
    later m past falls =
        let same : t + m - size b ≡ t - size b + m = omega (arith, past) in
        omega (
          arith,
          falls,
          ap (behind b slabs t) (le-ltb t (size b) past),
          ap (behind b slabs (t + m)) (le-ltb (t + m) (size b) (omega (arith, past))),
          ap (pieces_behind s slabs) same,
        )

  by_room : (b : Slab) (slabs : List Slab) (t k : ℕ) (n : Next) (few : Bool) → ltb t (size b) ≡ few
      → choice few (here s b t) (next_in s slabs (t - size b)) ≡ Some n → part_by s b slabs t few ≡ 0
      → k ≤ n.left → Ends n k
      → (next_in s slabs (t - size b) ≡ Some n → part_in s slabs (t - size b) ≡ 0
      → Falls slabs (t - size b) (k * size_of n.slab.var.xtype))
      → Falls (b ∷ slabs) t (k * size_of n.slab.var.xtype)
  by_room b slabs t k n true is next whole few ends after =
      let same : here s b t ≡ n = cc in
      let less = ltb-true t (size b) is in
      let all : t + (here s b t).left * size_of b.var.xtype ≡ size b =
      (filled b.var.xtype (elements s.dims b.var) t (here s b t).left whole less).1 refl in
      subst (λ (o : Next). k ≤ o.left → Ends o k → Falls (b ∷ slabs) t (k * size_of o.slab.var.xtype)) same
      (λ few ends. in_slab b slabs t k less all (within few all) ends) few ends
    where
      within : k ≤ (here s b t).left → t + (here s b t).left * size_of b.var.xtype ≡ size b
          → t + k * size_of b.var.xtype ≤ size b
      within few all =
          omega (arith, all, mul-le k (size_of b.var.xtype) (here s b t).left (size_of b.var.xtype) few (omega arith))
  by_room b slabs t k n false is next whole few ends after =
      later b slabs t k (k * size_of n.slab.var.xtype) (ltb-false t (size b) is) (after next whole)

  pub falls : (slabs : List Slab) (t k : ℕ) (n : Next) → next_in s slabs t ≡ Some n → part_in s slabs t ≡ 0
      → k ≤ n.left → Ends n k → Falls slabs t (k * size_of n.slab.var.xtype)
  falls [] t k n next whole few ends = absurd (cc next)
  falls (b ∷ slabs) t k n next whole few ends = by_room b slabs t k n (ltb t (size b)) refl next whole few ends
      (λ more part. falls slabs (t - size b) k n more part few ends)
