-- A refusal is one whatever was asked for.
use Rattle.std.proofs.Common.{◌≡◌, ℕ, List, length, take, Result, Ok, Err, inl, sym, ap, subst, ◌∙◌}
use Rattle.ncc_values.specs.XType.{size_of}
use Rattle.ncc_layout.specs.declared.placed_var.PlacedVar.{PlacedVar}
use Rattle.ncc_slab.specs.declared.fault.SlabFault.TheVariants.{NoVariable, RankMismatch, ZeroStride, Outside, Device, Memory}
use Rattle.ncc_slab.specs.declared.slab.Slab.{Slab}
use Rattle.ncc_ranges.specs.declared.fault.RangeFault.{RangeFault}
use Rattle.ncc_ranges.specs.declared.fault.RangeFault.TheVariants.{Refused, NotInFile}
use Rattle.ncc_ranges.specs.declared.steps.Steps.{Steps}
use Rattle.ncc_ranges.specs.Steps.{RangesAs}
use Rattle.ncc_c.specs.declared.outcome.Outcome.{Outcome}
use Rattle.ncc_c.specs.declared.stepping.Stepped.{Stepped}
use Rattle.ncc_c.specs.Outcomes.{passes}
use Rattle.ncc_c.specs.Selecting.{PutsSteps}

pub err_ranges : {A B : Type 0} (record_size file : ℕ) (x : PlacedVar) (s : Slab) (P : A → Type 0) (Q : B → Type 0) (e : RangeFault) → RangesAs record_size file x s P (Err e) → RangesAs record_size file x s Q (Err e)
err_ranges record_size file x s P Q (Refused NoVariable) is = is
err_ranges record_size file x s P Q (Refused RankMismatch) is = is
err_ranges record_size file x s P Q (Refused (ZeroStride k)) is = is
err_ranges record_size file x s P Q (Refused (Outside k)) is = is
err_ranges record_size file x s P Q (Refused Device) is = is
err_ranges record_size file x s P Q (Refused Memory) is = is
err_ranges record_size file x s P Q NotInFile is = is

abbrev stepped : Outcome → (base size total : ℕ) → Stepped
stepped o base size total = record { outcome = o; base = base; size = size; total = total }

-- the steps of an answer are told
pub put_steps_of : (x : PlacedVar) (answer : Result Steps RangeFault) (t : Steps) (out steps : List ℕ) (o : Outcome) (size : ℕ) → answer ≡ Ok t → steps ≡ t.steps.items → o ≡ passes → size ≡ size_of x.xtype
    → take (length steps) out ≡ steps → PutsSteps x answer out (record { outcome = o; base = t.base; size = size; total = t.total })
put_steps_of x answer t out steps o size is steps_is o_is size_is all =
    subst (λ (r : Result Steps RangeFault). PutsSteps x r out (record { outcome = o; base = t.base; size = size; total = t.total })) (sym is)
    (inl (
      ap (λ (p : Outcome). stepped p t.base size t.total) o_is ∙ ap (λ (n : ℕ). stepped passes t.base n t.total) size_is,
      subst (λ (l : List ℕ). take (length l) out ≡ l) steps_is all,
    ))
