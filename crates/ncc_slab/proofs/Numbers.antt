-- The numbers of the selected values.
use Rattle.std.proofs.Common.{◌≡◌, ℕ, ℤ, pos, List, [], ◌∷◌, map, length, unsigned_abs, refl, sym, ap, ◌∙◌}
use Rattle.std.specs.List.{AllByRecursion, flat_map}
use Rattle.ncc_values.specs.declared.xtype.XType.{XType}
use Rattle.ncc_values.specs.declared.xtype.XType.TheVariants.{Byte, Char, Short, Int, Float, Double, UByte, UShort, UInt, Int64, UInt64}
use Rattle.ncc_values.specs.External.{number_in}
use Rattle.ncc_values.specs.Raw.{char_of, float_of, double_of}
use Rattle.ncc_values.specs.XType.{size_of}
use Rattle.ncc_values.specs.Values.{elements_of, values_of}
use Rattle.ncc_layout.specs.declared.placed_var.PlacedVar.{PlacedVar}
use Rattle.ncc_slab.specs.Selected.{element_bytes, number_at, values_at, numbers_of}
use Rattle.ncc_slab.specs.Laws.{AreWhole}
use Rattle.ncc_slab.proofs.ValueParts.{numbers_by}

map_same : (xs : List ℤ) → map (λ z. z) xs ≡ xs
map_same [] = refl
map_same (x ∷ xs) = ap (λ l. x ∷ l) (map_same xs)

by_type : (t : XType) (f : List ℕ → List ℕ) (indices : List (List ℕ)) → AllByRecursion (λ i. length (f i) ≡ size_of t) indices
    → numbers_of (values_of t (flat_map f indices)) ≡ map (λ i. number_in t (f i)) indices
by_type Byte f indices all = sym (map_same (elements_of (λ z. z) Byte (flat_map f indices))) ∙ numbers_by (λ z. z) (λ z. z) Byte f (λ b. refl) indices all
by_type Char f indices all = numbers_by char_of (λ x. pos x.0) Char f (λ b. refl) indices all
by_type Short f indices all = sym (map_same (elements_of (λ z. z) Short (flat_map f indices))) ∙ numbers_by (λ z. z) (λ z. z) Short f (λ b. refl) indices all
by_type Int f indices all = sym (map_same (elements_of (λ z. z) Int (flat_map f indices))) ∙ numbers_by (λ z. z) (λ z. z) Int f (λ b. refl) indices all
by_type Float f indices all = numbers_by float_of (λ x. pos x.0) Float f (λ b. refl) indices all
by_type Double f indices all = numbers_by double_of (λ x. pos x.0) Double f (λ b. refl) indices all
by_type UByte f indices all = numbers_by unsigned_abs (λ x. pos x) UByte f (λ b. refl) indices all
by_type UShort f indices all = numbers_by unsigned_abs (λ x. pos x) UShort f (λ b. refl) indices all
by_type UInt f indices all = numbers_by unsigned_abs (λ x. pos x) UInt f (λ b. refl) indices all
by_type Int64 f indices all = sym (map_same (elements_of (λ z. z) Int64 (flat_map f indices))) ∙ numbers_by (λ z. z) (λ z. z) Int64 f (λ b. refl) indices all
by_type UInt64 f indices all = numbers_by unsigned_abs (λ x. pos x) UInt64 f (λ b. refl) indices all

pub numbers_are_there : (file : List ℕ) (record_size : ℕ) (x : PlacedVar) (indices : List (List ℕ)) → AreWhole file record_size x indices
    → numbers_of (values_at file record_size x indices) ≡ map (number_at file record_size x) indices
numbers_are_there file record_size x indices whole = by_type x.xtype (element_bytes file record_size x) indices whole
