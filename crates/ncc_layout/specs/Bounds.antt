-- What the judging of the rules computes.
use Rattle.std.specs.Prelude.{ℕ, ltb, ◌==◌, if◌then◌else◌, ◌+◌, ◌-◌, ◌/◌, ◌*◌, ◌^◌, ◌<◌, max, min, List, [], ◌∷◌, Option, Some, None}
use Rattle.std.specs.List.{AllByRecursion, IsDistinct}
use Rattle.std.specs.Option.{option_or}
use Rattle.ncc_layout.specs.declared.extent.Extent.{Extent}
use Rattle.ncc_layout.specs.Extents.{end, fixed_of, records_of}
use Rattle.ncc_layout.specs.Rules.RecordWindow.{InRecordWindow}
use Rattle.ncc_layout.specs.Rules.FixedAfterRecords.{NotFixedAfterRecords}
use Rattle.ncc_layout.specs.Rules.Truncated.{NotTruncated}
use Rattle.ncc_layout.specs.Rules.{Rules}
use Rattle.ncc_layout.specs.Faults.{FailsFirst, RuleFails}
use Rattle.ncc_layout.specs.declared.fault.LayoutFaultKind.{LayoutFaultKind}
use Rattle.ncc_layout.specs.declared.fault.LayoutFaultKind.TheVariants.{RecordWindow, FixedAfterRecords, Truncated}

-- orders extents by begin, and then by variable
abbrev pub rank : Extent → ℕ
rank e = e.begin * 2 ^ 64 + e.variable

-- ---- the first begin and the last end, of a list that goes on

abbrev pub least_from : ℕ → List Extent → ℕ
least_from m [] = m
least_from m (e ∷ es) = least_from (min m e.begin) es

abbrev pub first_begin_from : Option ℕ → List Extent → Option ℕ
first_begin_from None [] = None
first_begin_from None (e ∷ es) = Some (least_from e.begin es)
first_begin_from (Some m) es = Some (least_from m es)

abbrev pub first_begin : List Extent → Option ℕ
first_begin es = first_begin_from None es

abbrev pub greatest_from : ℕ → List Extent → ℕ
greatest_from m [] = m
greatest_from m (e ∷ es) = greatest_from (max m (end e)) es

abbrev pub last_end_from : Option ℕ → List Extent → Option ℕ
last_end_from None [] = None
last_end_from None (e ∷ es) = Some (greatest_from (end e) es)
last_end_from (Some m) es = Some (greatest_from m es)

abbrev pub last_end : List Extent → Option ℕ
last_end es = last_end_from None es

abbrev pub end_later : Option ℕ → ℕ → ℕ
end_later None n = n
end_later (Some m) n = max m n

-- how many records end by this length, where the last slab of record 0 ends there
abbrev pub records_by : (end record_size length : ℕ) → ℕ
records_by end record_size length = if ltb length end then 0 else 1 + (length - end) / record_size

-- ---- neighbours

-- the first that begins before the one in front of it ends, where what is in front of the list ends at `at`
abbrev pub inside_from : (at : ℕ) → List Extent → Option ℕ
inside_from at [] = None
inside_from at (e ∷ es) = if ltb e.begin at then Some e.variable else inside_from (end e) es

-- the first fixed variable that begins before the one in front of it ends, else the first record variable
abbrev pub inside : List Extent → Option ℕ
inside es = option_or (inside_from 0 (fixed_of es)) (inside_from 0 (records_of es))

-- ---- what a search for a failing extent found

-- the rule holds of all, or fails first of this one
abbrev pub Finds : {A : Type 0} → (A → Type 0) → List A → Option ℕ → Type 0
Finds rule items None = AllByRecursion rule items
Finds rule items (Some n) = FailsFirst rule items n

-- a variable with a number of the machine, that has bytes
abbrev pub HasBytes : Extent → Type 0
HasBytes e = (0 < e.slab) × (e.variable < 2 ^ 64)

-- their variables have different numbers
abbrev pub AreNumbered : List Extent → Type 0
AreNumbered es = IsDistinct (λ d e. d.variable == e.variable) es

-- ---- what the judging of all rules found

-- the rules on records: of their windows, and of the fixed variables before them
abbrev pub RecordsJudged : (record_size : ℕ) → List Extent → Option (LayoutFaultKind × ℕ) → Type 0
RecordsJudged record_size es None = AllByRecursion (InRecordWindow record_size es) es × AllByRecursion (NotFixedAfterRecords es) es
RecordsJudged record_size es (Some (RecordWindow, n)) = FailsFirst (InRecordWindow record_size es) es n
RecordsJudged record_size es (Some (FixedAfterRecords, n)) =
    AllByRecursion (InRecordWindow record_size es) es × FailsFirst (NotFixedAfterRecords es) es n
RecordsJudged record_size es (Some (_, n)) = ⊥

-- the rules after that of overlaps
abbrev pub JudgedLater : (length record_size records : ℕ) → List Extent → Option (LayoutFaultKind × ℕ) → Type 0
JudgedLater length record_size records es None =
    RecordsJudged record_size es None × AllByRecursion (NotTruncated length record_size records) es
JudgedLater length record_size records es (Some (Truncated, n)) =
    RecordsJudged record_size es None × FailsFirst (NotTruncated length record_size records) es n
JudgedLater length record_size records es (Some (kind, n)) = RecordsJudged record_size es (Some (kind, n))

abbrev pub Judged : (header length record_size records : ℕ) → List Extent → Option (LayoutFaultKind × ℕ) → Type 0
Judged header length record_size records es None = Rules header length record_size records es
Judged header length record_size records es (Some (kind, n)) = RuleFails header length record_size records es kind n
