-- The bytes that come next of a dataset's values, where so many were taken.
use Rattle.std.proofs.Common.{◌≡◌, ℕ, ◌+◌, ◌-◌, ◌*◌, ◌<◌, ◌≤◌, Bool, true, false, Some, List, [], ◌∷◌, ◌++◌, length, take, drop, refl, sym, ap, subst, ◌∙◌, arith, length-drop}
use Rattle.std.specs.Prelude.{ltb, ◌%◌}
use Rattle.std.specs.List.{AllZip, flat_map}
use Rattle.std.proofs.Math.Seq.{drop-append-add}
use Rattle.std.proofs.lemmas.Bool.{ltb-true, ltb-false}
use Rattle.std.proofs.lemmas.List.{take-append-le, drop-append-le}
use Rattle.ncc_values.specs.Values.{bytes_of}
use Rattle.ncc_values.specs.XType.{size_of}
use Rattle.ncc_values.specs.declared.values.Values.{Values}
use Rattle.ncc_layout.specs.Sizes.{slab}
use Rattle.ncc_build.specs.Dataset.{Dataset, IsDataset, Slab, data_of, elements, in_order, slabs_of}
use Rattle.ncc_write.specs.Writing.{IsWhole, Next, next_in, next_of, part_in}
use Rattle.ncc_write.proofs.Ending.{choice, here}
use Rattle.ncc_write.proofs.Growing.{filled, part_by}
use Rattle.ncc_write.proofs.Slabs.{length_slab}
use Rattle.ncc_write.proofs.SlabsAt.{HasValues, all_have_values}

-- the values of the slab that comes next, how far its next element is in it, and that its bytes come next
pub record ComesFrom (d : Dataset) (bytes : List ℕ) (n : Next) : Type 0 where
  pub values : Values
  pub has : HasValues d n.slab values
  pub offset : ℕ
  pub left_are : offset + n.left * size_of n.slab.var.xtype ≡ slab d.schema.dims n.slab.var
  pub piece : (m : ℕ) → offset + m ≤ slab d.schema.dims n.slab.var → take m bytes ≡ take m (drop offset (bytes_of values))

module _ (d : Dataset) where
  abbrev size : Slab → ℕ
  size b = slab d.schema.dims b.var

  first : (b : Slab) (v : Values) (rest : List ℕ) (t : ℕ) → HasValues d b v → t < size b → t % size_of b.var.xtype ≡ 0
      → ComesFrom d (drop t (bytes_of v ++ rest)) (here d.schema b t)
  first b v rest t has less whole =
      let long : length (bytes_of v) ≡ size b = length_slab d.schema.dims b.var v has.slab_is in
      record {
        values = v;
        has = has;
        offset = t;
        left_are = (filled b.var.xtype (elements d.schema.dims b.var) t (here d.schema b t).left whole less).1 refl;
        piece = λ m fits. ap (take m) (drop-append-le t (bytes_of v) rest (omega (arith, long, less)))
            ∙ take-append-le m (drop t (bytes_of v)) rest (omega (arith, fits, long, length-drop t (bytes_of v)));
      }

  by_room : (b : Slab) (slabs : List Slab) (v : Values) (rest : List ℕ) (t : ℕ) (n : Next) (few : Bool)
      → ltb t (size b) ≡ few → choice few (here d.schema b t) (next_in d.schema slabs (t - size b)) ≡ Some n
      → part_by d.schema b slabs t few ≡ 0 → HasValues d b v
      → (next_in d.schema slabs (t - size b) ≡ Some n → part_in d.schema slabs (t - size b) ≡ 0
      → ComesFrom d (drop (t - size b) rest) n) → ComesFrom d (drop t (bytes_of v ++ rest)) n
  by_room b slabs v rest t n true is next whole has later =
      let same : here d.schema b t ≡ n = cc in
      subst (ComesFrom d (drop t (bytes_of v ++ rest))) same (first b v rest t has (ltb-true t (size b) is) whole)
  by_room b slabs v rest t n false is next whole has later =
      let enough = ltb-false t (size b) is in
      let long : length (bytes_of v) ≡ size b = length_slab d.schema.dims b.var v has.slab_is in
      let sum : t ≡ length (bytes_of v) + (t - size b) = omega (arith, enough, long) in
      let behind : drop t (bytes_of v ++ rest) ≡ drop (t - size b) rest =
      ap (λ (k : ℕ). drop k (bytes_of v ++ rest)) sum ∙ drop-append-add (bytes_of v) rest (t - size b) in
      subst (λ (l : List ℕ). ComesFrom d l n) (sym behind) (later next whole)

  among_slabs : (slabs : List Slab) (values : List Values) (t : ℕ) (n : Next) → AllZip (HasValues d) slabs values
      → next_in d.schema slabs t ≡ Some n → part_in d.schema slabs t ≡ 0
      → ComesFrom d (drop t (flat_map bytes_of values)) n
  among_slabs [] values t n all next whole = absurd (cc next)
  among_slabs (b ∷ slabs) [] t n all next whole = absurd all
  among_slabs (b ∷ slabs) (v ∷ values) t n all next whole =
      by_room b slabs v (flat_map bytes_of values) t n (ltb t (size b)) refl next whole all.0
      (λ more part. among_slabs slabs values (t - size b) n all.1 more part)

  -- where so many bytes of the values were taken
  pub comes_from : (taken : List ℕ) (n : Next) → IsDataset d → next_of d.schema taken ≡ Some n → IsWhole d.schema taken
      → ComesFrom d (drop (length taken) (data_of d)) n
  comes_from taken n is next whole =
      among_slabs (slabs_of d.schema) (in_order d) (length taken) n (all_have_values d is) next whole
