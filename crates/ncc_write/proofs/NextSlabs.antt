-- The slab that comes next where so many bytes were taken.
use Rattle.std.proofs.Common.{◌≡◌, ℕ, zero, suc, ◌+◌, ◌-◌, ◌*◌, ◌<◌, Bool, true, false, Some, List, [], ◌∷◌, length, refl, ap, subst, arith}
use Rattle.std.specs.Prelude.{ltb, ◌%◌}
use Rattle.std.specs.List.{AllByRecursion}
use Rattle.std.proofs.lemmas.Bool.{ltb-true}
use Rattle.ncc_values.specs.XType.{size_of}
use Rattle.ncc_schema.specs.declared.schema.Schema.{Schema}
use Rattle.ncc_layout.specs.Sizes.{slab}
use Rattle.ncc_build.specs.Dataset.{Slab, elements, slabs_of}
use Rattle.ncc_write.specs.Writing.{IsWhole, Next, next_in, next_of, part_in}
use Rattle.ncc_write.proofs.Ending.{choice, here}
use Rattle.ncc_write.proofs.Growing.{filled, part_by}
use Rattle.ncc_write.proofs.SlabsAt.{IsAmong, all_among}

-- its next element is so far in it, and some elements are left
pub record IsNext (s : Schema) (n : Next) : Type 0 where
  pub among : IsAmong s n.slab
  pub offset : ℕ
  pub left_are : offset + n.left * size_of n.slab.var.xtype ≡ slab s.dims n.slab.var
  pub some : 0 < n.left

module _ (s : Schema) where
  first : (b : Slab) (t : ℕ) → IsAmong s b → t < slab s.dims b.var → t % size_of b.var.xtype ≡ 0 → IsNext s (here s b t)
  first b t among less whole = record {
    among = among;
    offset = t;
    left_are = all;
    some = by (here s b t).left refl;
  }
    where
      all : t + (here s b t).left * size_of b.var.xtype ≡ slab s.dims b.var
      all = (filled b.var.xtype (elements s.dims b.var) t (here s b t).left whole less).1 refl

      by : (k : ℕ) → (here s b t).left ≡ k → 0 < (here s b t).left
      by zero none = absurd (omega (arith, less, all, ap (λ (k : ℕ). t + k * size_of b.var.xtype) none))
      by (suc k) is = omega (arith, is)

  by_room : (b : Slab) (slabs : List Slab) (t : ℕ) (n : Next) (few : Bool) → ltb t (slab s.dims b.var) ≡ few
      → choice few (here s b t) (next_in s slabs (t - slab s.dims b.var)) ≡ Some n → part_by s b slabs t few ≡ 0
      → IsAmong s b
      → (next_in s slabs (t - slab s.dims b.var) ≡ Some n → part_in s slabs (t - slab s.dims b.var) ≡ 0 → IsNext s n)
      → IsNext s n
  by_room b slabs t n true is next whole among later =
      let same : here s b t ≡ n = cc in
      subst (IsNext s) same (first b t among (ltb-true t (slab s.dims b.var) is) whole)
  by_room b slabs t n false is next whole among later = later next whole

  among_slabs : (slabs : List Slab) (t : ℕ) (n : Next) → AllByRecursion (IsAmong s) slabs → next_in s slabs t ≡ Some n
      → part_in s slabs t ≡ 0 → IsNext s n
  among_slabs [] t n all next whole = absurd (cc next)
  among_slabs (b ∷ slabs) t n all next whole =
      by_room b slabs t n (ltb t (slab s.dims b.var)) refl next whole all.0
      (λ more part. among_slabs slabs (t - slab s.dims b.var) n all.1 more part)

  pub is_next : (taken : List ℕ) (n : Next) → next_of s taken ≡ Some n → IsWhole s taken → IsNext s n
  is_next taken n next whole = among_slabs (slabs_of s) (length taken) n (all_among s) next whole
