-- RecordWindow: each slab of record 0 ends before record 1 begins.
use Rattle.std.specs.Prelude.{ℕ, ◌+◌, ◌*◌, ◌≤◌, ltb, List, Bool, ◌&&◌}
use Rattle.ncc_layout.specs.declared.extent.Extent.{Extent}
use Rattle.ncc_layout.specs.Extents.{end, records_of}
use Rattle.ncc_layout.specs.Rules.ByKind.{ByKind, EndsBy}

-- the rule: a slab of record 0 ends before record 1 begins
abbrev pub InRecordWindow : (record_size : ℕ) → List Extent → Extent → Type 0
InRecordWindow record_size es e = ByKind e.is_record (EndsBy record_size (records_of es) e) (Unit {0})

-- the test that finds the fault
abbrev pub is_past_record_window : (window_end : ℕ) → Extent → Bool
is_past_record_window window_end e = e.is_record && ltb window_end (end e)

-- what follows: the slab of each record lies in its record, where the records begin
pub record InRecord (record_size begin number : ℕ) (e : Extent) : Type 0 where
  pub begins : begin + number * record_size ≤ e.begin + number * record_size
  pub ends : end e + number * record_size ≤ begin + (number + 1) * record_size
