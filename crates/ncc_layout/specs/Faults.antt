-- Which layout rule fails first, and for which variable.
use Rattle.std.specs.Prelude.{ℕ, zero, suc, List, [], ◌∷◌}
use Rattle.std.specs.List.{AllByRecursion}
use Rattle.ncc_schema.specs.declared.schema.Schema.{Schema}
use Rattle.ncc_schema.specs.Schema.{Place}
use Rattle.ncc_layout.specs.declared.extent.Extent.{Extent}
use Rattle.ncc_layout.specs.declared.fault.LayoutFaultKind.{LayoutFaultKind}
use Rattle.ncc_layout.specs.declared.fault.LayoutFaultKind.TheVariants.{TooLarge, InHeader, Overlap, RecordWindow, FixedAfterRecords, Truncated}
use Rattle.ncc_layout.specs.Sizes.{NoneTooLarge, FirstTooLarge, record_size_of}
use Rattle.ncc_layout.specs.Extents.{extents_of, fixed_of, records_of, record_count}
use Rattle.ncc_layout.specs.Rules.InHeader.{NotInHeader}
use Rattle.ncc_layout.specs.Rules.RecordWindow.{InRecordWindow}
use Rattle.ncc_layout.specs.Rules.FixedAfterRecords.{NotFixedAfterRecords}
use Rattle.ncc_layout.specs.Rules.Truncated.{NotTruncated}
use Rattle.ncc_layout.specs.Rules.Overlap.{FirstOverlap, NoOverlap}

-- ---- one rule

-- the first for which the rule fails is this one, by its place in the list
abbrev pub FailsFirst : {A : Type 0} → (A → Type 0) → List A → ℕ → Type 0
FailsFirst rule [] n = ⊥
FailsFirst rule (a ∷ items) zero = rule a → ⊥
FailsFirst rule (a ∷ items) (suc n) = rule a × FailsFirst rule items n

-- ---- all rules, in their order

-- this rule fails first, and those before it hold
abbrev pub RuleFails : (header length record_size records : ℕ) → List Extent → LayoutFaultKind → ℕ → Type 0
RuleFails header length record_size records es TooLarge n = ⊥
RuleFails header length record_size records es InHeader n = FailsFirst (NotInHeader header) es n
RuleFails header length record_size records es Overlap n =
    AllByRecursion (NotInHeader header) es × FirstOverlap es n
RuleFails header length record_size records es RecordWindow n =
    AllByRecursion (NotInHeader header) es × NoOverlap (fixed_of es) × NoOverlap (records_of es)
    × FailsFirst (InRecordWindow record_size es) es n
RuleFails header length record_size records es FixedAfterRecords n =
    AllByRecursion (NotInHeader header) es × NoOverlap (fixed_of es) × NoOverlap (records_of es)
    × AllByRecursion (InRecordWindow record_size es) es × FailsFirst (NotFixedAfterRecords es) es n
RuleFails header length record_size records es Truncated n =
    AllByRecursion (NotInHeader header) es × NoOverlap (fixed_of es) × NoOverlap (records_of es)
    × AllByRecursion (InRecordWindow record_size es) es × AllByRecursion (NotFixedAfterRecords es) es
    × FailsFirst (NotTruncated length record_size records) es n

abbrev pub PlaceFails : Schema → List Place → (header length : ℕ) → LayoutFaultKind → ℕ → Type 0
PlaceFails s places header length kind n =
    NoneTooLarge s.dims s.vars
    × RuleFails header length (record_size_of s) (record_count s places length) (extents_of s places) kind n

-- the first fault of a file of this length, with this header, and the number of the variable that has it
abbrev pub FirstFault : Schema → List Place → (header length : ℕ) → LayoutFaultKind → ℕ → Type 0
FirstFault s places header length TooLarge n = FirstTooLarge s n
FirstFault s places header length InHeader n = PlaceFails s places header length InHeader n
FirstFault s places header length Overlap n = PlaceFails s places header length Overlap n
FirstFault s places header length RecordWindow n = PlaceFails s places header length RecordWindow n
FirstFault s places header length FixedAfterRecords n = PlaceFails s places header length FixedAfterRecords n
FirstFault s places header length Truncated n = PlaceFails s places header length Truncated n
