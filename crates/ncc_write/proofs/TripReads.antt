-- A slab that is read.
use Rattle.std.proofs.Common.{◌≡◌, ℕ, ◌/◌, Bool, false, IsTrue, List, None, Err, length, refl, sym, ap, ◌∙◌, arith}
use Rattle.std.specs.Prelude.{◌%◌}
use Rattle.ncc_values.specs.Numbers.{IsBytes}
use Rattle.ncc_values.specs.Values.{bytes_of, values_of}
use Rattle.ncc_values.specs.XType.{size_of}
use Rattle.ncc_values.specs.declared.values.Values.{Values}
use Rattle.ncc_values.proofs.ValuesLemmas.{bytes_of-values_of}
use Rattle.ncc_layout.specs.declared.placed_file.Placed.{Placed}
use Rattle.ncc_layout.specs.declared.placed_var.PlacedVar.{PlacedVar}
use Rattle.ncc_layout.specs.Elements.{var_at}
use Rattle.ncc_layout.specs.Placed.{record_size_of_file, vars_of}
use Rattle.ncc_slab.specs.Answers.{ReadsAs}
use Rattle.ncc_slab.specs.Laws.{WholeSlabAdjoins}
use Rattle.ncc_slab.specs.Refusals.{slab_fault}
use Rattle.ncc_slab.specs.Selected.{Selected, bytes_at, bytes_of_elements}
use Rattle.ncc_slab.specs.Selection.{indices_of}
use Rattle.ncc_slab.specs.SlabPlaces.{HasSlab, slab_begin}
use Rattle.ncc_slab.specs.WholeSlabs.{SelectsSlab, whole_slab}
use Rattle.ncc_slab.specs.declared.fault.SlabFault.{SlabFault}
use Rattle.ncc_slab.specs.declared.fault.SlabFault.TheVariants as of
use Rattle.ncc_slab.specs.declared.slab.Slab.{Slab}
use Rattle.ncc_write.specs.Trips.{of_slab}
use Rattle.ncc_write.specs.declared.trip_fault.TripFault.TheVariants.{Memory}
use Rattle.ncc_write.proofs.TripValues.{is_product}

-- ---- refusals

-- the selection of a slab that is there is refused for want of memory alone
pub only_memory : (p : Placed) (var number : ℕ) → HasSlab p var number → (e : SlabFault)
    → SelectsSlab p var number (Err e) → of_slab e ≡ Memory
only_memory p var number has of.NoVariable selects = absurd (omega (arith, selects, has.there))
only_memory p var number has of.RankMismatch selects = absurd selects
only_memory p var number has (of.ZeroStride k) selects = absurd selects
only_memory p var number has (of.Outside k) selects = absurd (omega (arith, selects.3, has.in_records selects.2))
only_memory p var number has of.Device selects = absurd selects
only_memory p var number has of.Memory selects = refl

-- what isn't refused is read, unless the store fails or memory is refused
pub only_failure : (A : Type 0) (vars : List PlacedVar) (n : ℕ) (s : Slab) → slab_fault vars n s ≡ None → (e : SlabFault)
    → ReadsAs {A = A} vars n s (Err e) → of_slab e ≡ Memory
only_failure A vars n s none of.NoVariable reads = absurd (cc (sym none ∙ reads))
only_failure A vars n s none of.RankMismatch reads = absurd (cc (sym none ∙ reads))
only_failure A vars n s none (of.ZeroStride k) reads = absurd (cc (sym none ∙ reads))
only_failure A vars n s none (of.Outside k) reads = absurd (cc (sym none ∙ reads))
only_failure A vars n s none of.Device reads = refl
only_failure A vars n s none of.Memory reads = refl

-- ---- values

module _ (p : Placed) (file : List ℕ) (var number : ℕ) (has : HasSlab p var number) (s : Slab)
    (whole_is : s ≡ whole_slab (var_at (vars_of p) var) number) where
  abbrev x : PlacedVar
  x = var_at (vars_of p) var

  pub not_refused : ((q : Placed) (n r : ℕ) → HasSlab q n r → slab_fault (vars_of q) n (whole_slab (var_at (vars_of q) n) r) ≡ None)
      → slab_fault (vars_of p) var s ≡ None
  not_refused law = ap (slab_fault (vars_of p) var) whole_is ∙ law p var number has

  pub reads_so : WholeSlabAdjoins → (bytes : List ℕ) → IsBytes bytes → length bytes % size_of x.xtype ≡ 0
      → bytes_at file (slab_begin (record_size_of_file p) x number) x.extent.slab ≡ bytes → (values : Values)
      → Selected file (record_size_of_file p) x s values → bytes_of values ≡ bytes
  reads_so law bytes are whole there values selected =
      let k = length bytes / size_of x.xtype in
      let all : bytes_of_elements file (record_size_of_file p) x (indices_of s) ≡ bytes =
      ap (λ (t : Slab). bytes_of_elements file (record_size_of_file p) x (indices_of t)) whole_is
      ∙ law p file var number has ∙ there in
      ap bytes_of (selected ∙ ap (values_of x.xtype) all)
      ∙ bytes_of-values_of x.xtype k bytes are (is_product x.xtype (length bytes) k whole refl)

-- so they don't differ
pub never_differs : (same : Bool) (A B : Type 0) → same ≡ false → A → (A → IsTrue same) → B
never_differs same A B is a law = absurd (cc (sym is ∙ law a))
