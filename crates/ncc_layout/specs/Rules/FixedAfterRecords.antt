-- FixedAfterRecords: each fixed variable ends before the records begin.
use Rattle.std.specs.Prelude.{ℕ, ltb, List, Bool, ◌&&◌, not}
use Rattle.ncc_layout.specs.declared.extent.Extent.{Extent}
use Rattle.ncc_layout.specs.Extents.{end, records_of}
use Rattle.ncc_layout.specs.Rules.ByKind.{ByKind, EndsBy}

-- the rule: a fixed variable ends before the records begin
abbrev pub NotFixedAfterRecords : List Extent → Extent → Type 0
NotFixedAfterRecords es e = ByKind e.is_record (Unit {0}) (EndsBy 0 (records_of es) e)

-- the test that finds the fault
abbrev pub is_fixed_after_records : (begin : ℕ) → Extent → Bool
is_fixed_after_records begin e = not e.is_record && ltb begin (end e)
