-- The elements of a variable of a placed file take no more bytes than the file has.
use Rattle.std.proofs.Common.{◌≡◌, ℕ, zero, suc, ◌+◌, ◌*◌, ◌<◌, ◌≤◌, Bool, true, false, cond, List, [], ◌∷◌, length, get_or, refl, sym, ap, subst, ◌∙◌, arith}
use Rattle.std.specs.Prelude.{filter}
use Rattle.std.specs.List.{AllByRecursion}
use Rattle.std.proofs.Math.Nat.{mul_assoc}
use Rattle.std.proofs.lemmas.Nat.{mul-le}
use Rattle.std.proofs.lemmas.List.{get_or-map, length-map}
use Rattle.ncc_values.specs.XType.{size_of}
use Rattle.ncc_layout.specs.declared.extent.Extent.{Extent}
use Rattle.ncc_layout.specs.declared.placed_var.PlacedVar.{PlacedVar}
use Rattle.ncc_layout.specs.declared.placed_file.Placed.{Placed}
use Rattle.ncc_layout.specs.Sizes.{product}
use Rattle.ncc_layout.specs.Extents.{end, records_of}
use Rattle.ncc_layout.specs.Rules.ByKind.{ByKind, EndsBy}
use Rattle.ncc_layout.specs.Rules.RecordWindow.{InRecordWindow}
use Rattle.ncc_layout.specs.Rules.Truncated.{LastNotTruncated, NotTruncated}
use Rattle.ncc_layout.specs.Elements.{var_at, no_var, IsShaped, HasShape}
use Rattle.ncc_layout.specs.Placed.{file_length_of, record_size_of_file, records_of_file, vars_of, extents_of_file, KeepsRules}

pub all_at : {A : Type 0} (P : A → Type 0) (xs : List A) (n : ℕ) (d : A) → n < length xs → AllByRecursion P xs → P (get_or xs n d)
all_at P [] n d lt all = absurd (omega (arith, lt))
all_at P (x ∷ xs) zero d lt all = all.0
all_at P (x ∷ xs) (suc n) d lt all = all_at P xs n d (omega (arith, lt)) all.1

-- ---- one extent among those of records

others_left : {A : Type 0} (P : A → Type 0) (b : Bool) (x : A) (xs : List A) → AllByRecursion P (cond b (x ∷ xs) xs) → AllByRecursion P xs
others_left P true x xs all = all.1
others_left P false x xs all = all

kept_at : {A : Type 0} (P : A → Type 0) (t : A → Bool) (xs : List A) (n : ℕ) (d : A) → n < length xs → t (get_or xs n d) ≡ true → AllByRecursion P (filter t xs) → P (get_or xs n d)
kept_at P t [] n d lt is all = absurd (omega (arith, lt))
kept_at P t (x ∷ xs) zero d lt is all = (subst (λ (b : Bool). AllByRecursion P (cond b (x ∷ filter t xs) (filter t xs))) is all).0
kept_at P t (x ∷ xs) (suc n) d lt is all = kept_at P t xs n d (omega (arith, lt)) is (others_left P (t x) x (filter t xs) all)

-- ---- the shape of a variable

module _ (p : Placed) (keeps : KeepsRules p) (n : ℕ) (there : n < length (vars_of p)) where
  abbrev x : PlacedVar
  x = var_at (vars_of p) n

  abbrev e : Extent
  e = get_or (extents_of_file p) n no_var.extent

  in_extents : n < length (extents_of_file p)
  in_extents = omega (arith, length-map (vars_of p) (λ (y : PlacedVar). y.extent), there)

  same : e ≡ x.extent
  same = get_or-map (λ (y : PlacedVar). y.extent) (vars_of p) n no_var no_var.extent there

  shaped : HasShape (records_of_file p) x
  shaped = all_at (HasShape (records_of_file p)) (vars_of p) n no_var there keeps.shaped

  -- a slab of a record ends by the end of the record
  slab_fits : x.extent.is_record ≡ true → x.extent.slab ≤ record_size_of_file p
  slab_fits is =
      let is_e : e.is_record ≡ true = ap (λ (y : Extent). y.is_record) same ∙ is in
      let rule : InRecordWindow (record_size_of_file p) (extents_of_file p) e = all_at (InRecordWindow (record_size_of_file p) (extents_of_file p)) (extents_of_file p) n no_var.extent in_extents keeps.rules.in_record_window in
      let ends : EndsBy (record_size_of_file p) (records_of (extents_of_file p)) e =
      subst (λ (b : Bool). ByKind b (EndsBy (record_size_of_file p) (records_of (extents_of_file p)) e) (Unit {0})) is_e rule in
      let own : end e ≤ e.begin + record_size_of_file p = kept_at (λ (r : Extent). end e ≤ r.begin + record_size_of_file p) (λ (y : Extent). y.is_record) (extents_of_file p) n no_var.extent in_extents is_e ends in
      omega (arith, own, ap (λ (y : Extent). y.slab) same)

  within : NotTruncated (file_length_of p) (record_size_of_file p) (records_of_file p) x.extent
  within =
      subst (NotTruncated (file_length_of p) (record_size_of_file p) (records_of_file p)) same
      (all_at (NotTruncated (file_length_of p) (record_size_of_file p) (records_of_file p)) (extents_of_file p) n no_var.extent in_extents keeps.rules.not_truncated)

  fixed_in_file : x.extent.is_record ≡ false → (ls : List ℕ) → IsShaped (records_of_file p) (size_of x.xtype) x.extent.slab false ls → product ls * size_of x.xtype ≤ file_length_of p
  fixed_in_file is ls shape =
      let ends : end x.extent ≤ file_length_of p =
      subst (λ (b : Bool). ByKind b (LastNotTruncated (file_length_of p) (record_size_of_file p) (records_of_file p) x.extent) (end x.extent ≤ file_length_of p)) is within in
      omega (arith, shape, ends)

  records_in_file : (records : ℕ) → LastNotTruncated (file_length_of p) (record_size_of_file p) records x.extent → x.extent.slab ≤ record_size_of_file p → records * x.extent.slab ≤ file_length_of p
  records_in_file zero last fits = omega arith
  records_in_file (suc m) last fits = omega (arith, last, mul-le m x.extent.slab m (record_size_of_file p) (omega arith) fits)

  record_in_file : x.extent.is_record ≡ true → (ls : List ℕ) → IsShaped (records_of_file p) (size_of x.xtype) x.extent.slab true ls → product ls * size_of x.xtype ≤ file_length_of p
  record_in_file is [] shape = absurd shape
  record_in_file is (m ∷ ls) shape =
      let last : LastNotTruncated (file_length_of p) (record_size_of_file p) (records_of_file p) x.extent =
      subst (λ (b : Bool). ByKind b (LastNotTruncated (file_length_of p) (record_size_of_file p) (records_of_file p) x.extent) (end x.extent ≤ file_length_of p)) is within in
      let bytes : m * product ls * size_of x.xtype ≡ records_of_file p * x.extent.slab =
      mul_assoc m (product ls) (size_of x.xtype) ∙ ap (λ (k : ℕ). m * k) (sym shape.1) ∙ ap (λ (k : ℕ). k * x.extent.slab) shape.0 in
      omega (arith, bytes, records_in_file (records_of_file p) last (slab_fits is))

  by_kind : (b : Bool) → x.extent.is_record ≡ b → product x.shape * size_of x.xtype ≤ file_length_of p
  by_kind true is = record_in_file is x.shape (subst (λ (b : Bool). IsShaped (records_of_file p) (size_of x.xtype) x.extent.slab b x.shape) is shaped)
  by_kind false is = fixed_in_file is x.shape (subst (λ (b : Bool). IsShaped (records_of_file p) (size_of x.xtype) x.extent.slab b x.shape) is shaped)

  pub shape_in_file : product x.shape * size_of x.xtype ≤ file_length_of p
  shape_in_file = by_kind x.extent.is_record refl

  -- a record variable has a first length
  pub has_first : x.extent.is_record ≡ true → 0 < length x.shape
  has_first is = not_empty x.shape (subst (λ (b : Bool). IsShaped (records_of_file p) (size_of x.xtype) x.extent.slab b x.shape) is shaped)
    where
      not_empty : (ls : List ℕ) → IsShaped (records_of_file p) (size_of x.xtype) x.extent.slab true ls → 0 < length ls
      not_empty [] shape = absurd shape
      not_empty (l ∷ ls) shape = omega arith
