-- The slabs of a placed file end in the file.
use Rattle.std.proofs.Common.{◌≡◌, ℕ, zero, suc, ◌+◌, ◌*◌, ◌<◌, ◌≤◌, Bool, true, false, length, subst, arith}
use Rattle.std.proofs.lemmas.Nat.{mul-le}
use Rattle.std.proofs.lemmas.List.{get_or-map, length-map}
use Rattle.ncc_layout.specs.declared.placed_var.PlacedVar.{PlacedVar}
use Rattle.ncc_layout.specs.declared.placed_file.Placed.{Placed}
use Rattle.ncc_layout.specs.Extents.{end}
use Rattle.ncc_layout.specs.Rules.ByKind.{ByKind}
use Rattle.ncc_layout.specs.Rules.Truncated.{LastNotTruncated, NotTruncated}
use Rattle.ncc_layout.specs.Elements.{var_at, no_var}
use Rattle.ncc_layout.specs.Placed.{file_length_of, record_size_of_file, records_of_file, vars_of, extents_of_file, KeepsRules}
use Rattle.ncc_layout.proofs.ShapesInFile.{all_at}

module _ (p : Placed) (keeps : KeepsRules p) (n : ℕ) (there : n < length (vars_of p)) where
  abbrev x : PlacedVar
  x = var_at (vars_of p) n

  within : NotTruncated (file_length_of p) (record_size_of_file p) (records_of_file p) x.extent
  within =
      subst (NotTruncated (file_length_of p) (record_size_of_file p) (records_of_file p)) (get_or-map (λ (y : PlacedVar). y.extent) (vars_of p) n no_var no_var.extent there)
      (all_at (NotTruncated (file_length_of p) (record_size_of_file p) (records_of_file p)) (extents_of_file p) n no_var.extent
      (omega (arith, length-map (vars_of p) (λ (y : PlacedVar). y.extent), there)) keeps.rules.not_truncated)

  by_kind : (b : Bool) → x.extent.is_record ≡ b → ByKind b (LastNotTruncated (file_length_of p) (record_size_of_file p) (records_of_file p) x.extent) (end x.extent ≤ file_length_of p)
  by_kind b is = subst (λ (b : Bool). ByKind b (LastNotTruncated (file_length_of p) (record_size_of_file p) (records_of_file p) x.extent) (end x.extent ≤ file_length_of p)) is within

  last_fits : (records number : ℕ) → LastNotTruncated (file_length_of p) (record_size_of_file p) records x.extent → number < records
      → x.extent.begin + number * record_size_of_file p + x.extent.slab ≤ file_length_of p
  last_fits zero number last less = absurd (omega (arith, less))
  last_fits (suc m) number last less = omega (arith, last, mul-le number (record_size_of_file p) m (record_size_of_file p) (omega (arith, less)) (omega arith))

  pub fixed_ends : x.extent.is_record ≡ false → x.extent.begin + x.extent.slab ≤ file_length_of p
  fixed_ends is = by_kind false is

  pub record_ends : (number : ℕ) → x.extent.is_record ≡ true → number < records_of_file p → x.extent.begin + number * record_size_of_file p + x.extent.slab ≤ file_length_of p
  record_ends number is less = last_fits (records_of_file p) number (by_kind true is) less
