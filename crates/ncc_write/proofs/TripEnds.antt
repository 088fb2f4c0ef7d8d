-- A completed file, as it is checked and opened.
use Rattle.std.proofs.Common.{◌≡◌, ℕ, List, length, sym, ap, ◌∙◌}
use Rattle.std.proofs.Math.Logic.{∥∥₁_elim, ∥∥₁_map}
use Rattle.std.proofs.Props.{props}
use Rattle.std.specs.Prelude.{Ok}
use Rattle.ncc_schema.specs.declared.schema.Schema.{Schema}
use Rattle.ncc_layout.specs.Plans.{known}
use Rattle.ncc_check.specs.Checks.{Checks, Refuses}
use Rattle.ncc_check.specs.declared.fault.FileFault.{FileFault}
use Rattle.ncc_check.specs.declared.fault.Refusal.TheVariants.{Fault}
use Rattle.ncc_check.specs.declared.report.Report.{Report}
use Rattle.ncc_write.specs.declared.trip_checking.Due.{Due}
use Rattle.ncc_write.specs.Headline.{IsUnnoted, PassesAndReads}
use Rattle.ncc_write.specs.Trips.{IsDue, IsSaid}
use Rattle.ncc_write.specs.Writing.{dataset_of}

said_so : (s t : Schema) (d : Due) (r : Report) → t ≡ s → IsDue t d → IsUnnoted s r → IsSaid d r
said_so s t d r same due u = record {
  version = u.version ∙ sym (due.version ∙ ap (λ (v : Schema). v.version) same);
  records = u.records ∙ sym (due.records ∙ ap (λ (v : Schema). known v.count) same);
  variables = u.variables ∙ sym (due.variables ∙ ap (λ (v : Schema). length v.vars) same);
  notes = u.notes;
}

module _ (s : Schema) (bytes file : List ℕ) (limit : ℕ)
    (passes : ∥ PassesAndReads (dataset_of s bytes) s file limit ∥₁) where
  pub said : (t : Schema) (d : Due) → t ≡ s → IsDue t d → (r : Report) → Checks file limit (Ok r) → ∥ IsSaid d r ∥₁
  said t d same due r checked =
      ∥∥₁_map passes (λ (p : PassesAndReads (dataset_of s bytes) s file limit). said_so s t d r same due (p.unnoted r checked))

  pub no_fault : (f : FileFault) → Refuses file limit (Fault f) → ⊥
  no_fault f fails =
      ∥∥₁_elim passes (hlevel props) (λ (p : PassesAndReads (dataset_of s bytes) s file limit). p.no_fault f fails)
