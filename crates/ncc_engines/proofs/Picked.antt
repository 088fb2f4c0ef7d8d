-- The refusal of a pick, and the selection that it gives, by the variable that is picked from.
use Rattle.std.proofs.Common.{◌≡◌, ℕ, ◌<◌, Bool, Some, Err, List, length, ap, refl, ◌∙◌, if◌then◌else◌}
use Rattle.std.proofs.lemmas.Bool.{lt-ltb}
use Rattle.ncc_layout.specs.Elements.{var_at}
use Rattle.ncc_layout.specs.declared.placed_var.PlacedVar.{PlacedVar}
use Rattle.ncc_slab.specs.Refusals.{shape_fault, slab_fault}
use Rattle.ncc_slab.specs.declared.fault.SlabFault.{SlabFault}
use Rattle.ncc_slab.specs.declared.fault.SlabFault.TheVariants.{NoVariable, RankMismatch, ZeroStride, Outside, Device, Memory}
use Rattle.ncc_slab.specs.declared.slab.Slab.{Slab}
use Rattle.ncc_csv.specs.Laws.{PickFaultIsShapeFault}
use Rattle.ncc_csv.specs.Picks.{picked, pick_fault, PicksAs}
use Rattle.ncc_csv.specs.declared.pick.Pick.{Pick}

-- what is refused before a count is sought, where it isn't memory
before_count : (lengths : List ℕ) (p : Pick) (f : SlabFault) → (f ≡ Memory → ⊥) → PicksAs lengths p (Err f) → pick_fault (length lengths) p ≡ Some f
before_count lengths p NoVariable other is = is
before_count lengths p RankMismatch other is = is
before_count lengths p (ZeroStride k) other is = is
before_count lengths p (Outside k) other is = is
before_count lengths p Device other is = is
before_count lengths p Memory other is = absurd (other refl)

-- a fault of its shape is one of the variable
of_variable : (vars : List PlacedVar) (n : ℕ) (s : Slab) (f : SlabFault) → n < length vars → shape_fault (var_at vars n).shape s ≡ Some f → slab_fault vars n s ≡ Some f
of_variable vars n s f there refused =
    ap (λ (b : Bool). if b then shape_fault (var_at vars n).shape s else Some NoVariable) (lt-ltb n (length vars) there) ∙ refused

pub pick_refused : PickFaultIsShapeFault → (vars : List PlacedVar) (n : ℕ) (p : Pick) (f : SlabFault) → n < length vars → (f ≡ Memory → ⊥) → PicksAs (var_at vars n).shape p (Err f)
    → slab_fault vars n (picked (var_at vars n).shape p) ≡ Some f
pick_refused law vars n p f there other is =
    of_variable vars n (picked (var_at vars n).shape p) f there (law (var_at vars n).shape p f (before_count (var_at vars n).shape p f other is))
