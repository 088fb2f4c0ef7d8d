-- A selection of a variable of a placed file fits in that file.
use Rattle.std.proofs.Common.{◌≡◌, ℕ, ◌*◌, ◌^◌, ◌<◌, ◌≤◌, ltb, Bool, true, false, None, length, refl, sym, ap, subst, ◌∙◌, arith}
use Rattle.std.proofs.lemmas.Bool.{ltb-true}
use Rattle.ncc_values.specs.XType.{size_of}
use Rattle.ncc_layout.specs.declared.placed_file.Placed.{Placed}
use Rattle.ncc_layout.specs.declared.placed_var.PlacedVar.{PlacedVar}
use Rattle.ncc_layout.specs.Elements.{var_at, HasLengths, Own}
use Rattle.ncc_layout.specs.Placed.{header_length_of, file_length_of, record_size_of_file, vars_of, KeepsRules}
use Rattle.ncc_layout.specs.Sizes.{product}
use Rattle.ncc_layout.proofs.ShapesInFile.{has_first, shape_in_file}
use Rattle.ncc_slab.specs.declared.fault.SlabFault.TheVariants.{NoVariable}
use Rattle.ncc_slab.specs.declared.slab.Slab.{Slab}
use Rattle.ncc_slab.specs.Axes.{ArePositive, SelectsSome}
use Rattle.ncc_slab.specs.Refusals.{shape_fault, slab_fault}
use Rattle.ncc_slab.proofs.Fitting.{fits_from, if_none}
use Rattle.ncc_slab.proofs.InFile.{count_in_file, last_in_file, of_records}
use Rattle.ncc_ranges.specs.Steps.{FitsFile, inner_lengths}

module _ (p : Placed) (keeps : KeepsRules p) (own : Own (header_length_of p) (file_length_of p) (record_size_of_file p) (vars_of p)) (n : ℕ) (s : Slab) (none : slab_fault (vars_of p) n s ≡ None) (positive : ArePositive s.count) where
  abbrev x : PlacedVar
  x = var_at (vars_of p) n

  some : SelectsSome p n s
  some =
      let parts = if_none (ltb n (length (vars_of p))) (shape_fault x.shape s) NoVariable none in
      record { there = ltb-true n (length (vars_of p)) parts.0; fits = fits_from x.shape s parts.1; some = positive }

  has_lengths : (b : Bool) → x.extent.is_record ≡ b → HasLengths x
  has_lengths true is =
      let first : 0 < length x.shape = has_first p keeps n some.there is in
      subst (λ (b : Bool). Rattle.std.proofs.Common.cond b 1 0 ≤ length x.shape) (sym is) (omega (arith, first))
  has_lengths false is = subst (λ (b : Bool). Rattle.std.proofs.Common.cond b 1 0 ≤ length x.shape) (sym is) (omega arith)

  inner_bytes : (b : Bool) → x.extent.is_record ≡ b → product (inner_lengths b x.shape) * size_of x.xtype ≤ file_length_of p
  inner_bytes true is = (of_records p keeps own n s some is).bytes
  inner_bytes false is = shape_in_file p keeps n some.there

  pub fits_file : file_length_of p < 2 ^ 64 → FitsFile (record_size_of_file p) (file_length_of p) x s
  fits_file small = record {
    lengths = has_lengths x.extent.is_record refl;
    bytes = omega (arith, inner_bytes x.extent.is_record refl, small);
    elements = omega (arith, count_in_file p keeps own n s some, small);
    last = last_in_file p keeps own n s some;
  }
