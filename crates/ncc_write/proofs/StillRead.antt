-- What is read of a selection, where the bytes of each of its elements are as before.
use Rattle.std.proofs.Common.{◌≡◌, ℕ, ◌<◌, Bool, true, false, cond, Option, Some, None, List, [], ◌∷◌, ◌++◌, length, take, drop, refl, ap, ap₂}
use Rattle.std.specs.List.{AllByRecursion, flat_map}
use Rattle.std.proofs.lemmas.Bool.{ltb-true}
use Rattle.ncc_values.specs.Values.{values_of}
use Rattle.ncc_values.specs.XType.{size_of}
use Rattle.ncc_layout.specs.declared.placed_file.Placed.{Placed}
use Rattle.ncc_layout.specs.Elements.{Inside, IsPlace, place_of, var_at}
use Rattle.ncc_layout.specs.Placed.{record_size_of_file, vars_of}
use Rattle.ncc_slab.specs.declared.fault.SlabFault.TheVariants.{NoVariable}
use Rattle.ncc_slab.specs.declared.slab.Slab.{Slab}
use Rattle.ncc_slab.specs.Laws.{SelectedIsInside}
use Rattle.ncc_slab.specs.Refusals.{shape_fault, slab_fault}
use Rattle.ncc_slab.specs.Selected.{element_bytes, values_at}
use Rattle.ncc_slab.specs.Selection.{indices_of}

none_then : {A : Type 0} (b : Bool) (o : Option A) (a : A) → cond b o (Some a) ≡ None → (b ≡ true) × (o ≡ None)
none_then true o a e = (refl, e)
none_then false o a e = absurd cc

same_elements : (f g : List ℕ → List ℕ) (P : List ℕ → Type 0) → ((index : List ℕ) → P index → f index ≡ g index)
    → (indices : List (List ℕ)) → AllByRecursion P indices → flat_map f indices ≡ flat_map g indices
same_elements f g P same [] all = refl
same_elements f g P same (index ∷ indices) all =
    ap₂ (λ (a b : List ℕ). a ++ b) (same index all.0) (same_elements f g P same indices all.1)

-- the same values in bytes in which each element is as before
pub still_read : SelectedIsInside → (bytes new : List ℕ) (p : Placed) (n : ℕ) (slab : Slab)
    → ((place : ℕ) (index : List ℕ) → IsPlace (record_size_of_file p) (vars_of p) n index (Some place)
    → take (size_of (var_at (vars_of p) n).xtype) (drop place new)
    ≡ take (size_of (var_at (vars_of p) n).xtype) (drop place bytes))
    → slab_fault (vars_of p) n slab ≡ None
    → values_at new (record_size_of_file p) (var_at (vars_of p) n) (indices_of slab)
    ≡ values_at bytes (record_size_of_file p) (var_at (vars_of p) n) (indices_of slab)
still_read inside bytes new p n slab same none =
    let x = var_at (vars_of p) n in
    let size = record_size_of_file p in
    let parts = none_then _ (shape_fault x.shape slab) NoVariable none in
    let there : n < length (vars_of p) = ltb-true n (length (vars_of p)) parts.0 in
    ap (values_of x.xtype) (same_elements (element_bytes new size x) (element_bytes bytes size x) (Inside x.shape)
    (λ index within. same (place_of size x index) index (there, within, refl)) (indices_of slab)
    (inside x.shape slab parts.1))
