-- The elements of a placed file lie before its records end.
use Rattle.std.proofs.Common.{◌≡◌, ℕ, zero, suc, ◌+◌, ◌*◌, ◌<◌, ◌≤◌, Bool, true, false, List, [], ◌∷◌, length, get_or, Some, refl, ap, subst, arith, inl, inr}
use Rattle.std.proofs.lemmas.Nat.{mul-le}
use Rattle.ncc_values.specs.XType.{size_of}
use Rattle.ncc_layout.specs.declared.extent.Extent.{Extent}
use Rattle.ncc_layout.specs.declared.placed_var.PlacedVar.{PlacedVar}
use Rattle.ncc_layout.specs.declared.placed_file.Placed.{Placed}
use Rattle.ncc_layout.specs.Extents.{records_of, LeastBegin}
use Rattle.ncc_layout.specs.Elements.{var_at, no_var, place_of, record_in, record_of, Inside, LiesInFile, LiesInSlab, IsShaped, HasShape}
use Rattle.ncc_layout.specs.Placed.{header_length_of, file_length_of, record_size_of_file, records_of_file, vars_of, extents_of_file, KeepsRules}
use Rattle.ncc_layout.specs.Rules.InHeader.{NotInHeader}
use Rattle.ncc_layout.proofs.Membership.{In, in_filter, in_map, all_in}
use Rattle.ncc_layout.proofs.Own.{lies_in_slab}
use Rattle.ncc_layout.proofs.OneMoreRoom.{record_ends, fixed_ends}
use Rattle.ncc_layout.proofs.ShapesInFile.{all_at}

at_is_in : {A : Type 0} (xs : List A) (n : ℕ) (d : A) → n < length xs → In xs (get_or xs n d)
at_is_in [] n d below = absurd (omega (arith, below))
at_is_in (x ∷ xs) zero d below = inl refl
at_is_in (x ∷ xs) (suc n) d below = inr (at_is_in xs n d (omega (arith, below)))

-- the record of an element is one of those that are there
record_below : (records size slab : ℕ) (ls is : List ℕ) → IsShaped records size slab true ls → Inside ls is → record_in true is < records
record_below records size slab [] is shaped inside = absurd shaped
record_below records size slab (l ∷ ls) [] shaped inside = absurd inside
record_below records size slab (l ∷ ls) (i ∷ is) shaped inside = omega (arith, shaped.0, inside.0)

module _ (p : Placed) (keeps : KeepsRules p) (begin n : ℕ) (index : List ℕ) (least : LeastBegin (records_of (extents_of_file p)) (Some begin))
    (there : n < length (vars_of p)) (inside : Inside (var_at (vars_of p) n).shape index) where
  abbrev x : PlacedVar
  x = var_at (vars_of p) n

  abbrev place : ℕ
  place = place_of (record_size_of_file p) x index

  shaped : HasShape (records_of_file p) x
  shaped = all_at (HasShape (records_of_file p)) (vars_of p) n no_var there keeps.shaped

  in_slab : LiesInSlab (record_size_of_file p) x index
  in_slab = lies_in_slab (record_size_of_file p) (records_of_file p) x index shaped inside

  among : In (extents_of_file p) x.extent
  among = in_map (λ (y : PlacedVar). y.extent) (vars_of p) x (at_is_in (vars_of p) n no_var there)

  not_in_header : header_length_of p ≤ place
  not_in_header = omega (arith, in_slab.begins, all_in (NotInHeader (header_length_of p)) (extents_of_file p) x.extent keeps.rules.not_in_header among)

  in_first : x.extent.is_record ≡ false → record_of x index ≡ 0
  in_first is = ap (λ (b : Bool). record_in b index) is

  fixed_below : x.extent.is_record ≡ false → place + size_of x.xtype ≤ begin
  fixed_below is =
      let first : record_of x index ≡ 0 = in_first is in
      let nothing : record_of x index * record_size_of_file p ≡ 0 * record_size_of_file p = ap (λ (k : ℕ). k * record_size_of_file p) first in
      let ends = fixed_ends (header_length_of p) (file_length_of p) (record_size_of_file p) (records_of_file p) (extents_of_file p) keeps.rules begin least x.extent among is in
      omega (arith, in_slab.ends, nothing, ends)

  record_ends_below : x.extent.is_record ≡ true → place + size_of x.xtype ≤ begin + records_of_file p * record_size_of_file p
  record_ends_below is =
      let shape = subst (λ (b : Bool). IsShaped (records_of_file p) (size_of x.xtype) x.extent.slab b x.shape) is shaped in
      let below : record_in true index < records_of_file p = record_below (records_of_file p) (size_of x.xtype) x.extent.slab x.shape index shape inside in
      let same : record_of x index ≡ record_in true index = ap (λ (b : Bool). record_in b index) is in
      let ends = record_ends (header_length_of p) (file_length_of p) (record_size_of_file p) (records_of_file p) (extents_of_file p) keeps.rules begin least x.extent
      (in_filter (λ (d : Extent). d.is_record) (extents_of_file p) x.extent is among) in
      let step : (record_of x index + 1) * record_size_of_file p ≤ records_of_file p * record_size_of_file p =
      mul-le (record_of x index + 1) (record_size_of_file p) (records_of_file p) (record_size_of_file p) (omega (arith, same, below)) (omega arith) in
      let next : (record_of x index + 1) * record_size_of_file p ≡ record_of x index * record_size_of_file p + record_size_of_file p = omega arith in
      omega (arith, in_slab.ends, ends, step, next)

  by_kind : (b : Bool) → x.extent.is_record ≡ b → place + size_of x.xtype ≤ begin + records_of_file p * record_size_of_file p
  by_kind true is = record_ends_below is
  by_kind false is = omega (arith, fixed_below is)

  pub before_end : LiesInFile (header_length_of p) (begin + records_of_file p * record_size_of_file p) x place
  before_end = (not_in_header, by_kind x.extent.is_record refl)

  pub before_records : x.extent.is_record ≡ false → LiesInFile (header_length_of p) begin x place
  before_records is = (not_in_header, fixed_below is)
