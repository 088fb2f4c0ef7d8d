-- Truncated: each fixed variable, and each slab of the last record, ends in the file.
use Rattle.std.specs.Prelude.{ℕ, zero, suc, ◌+◌, ◌*◌, ◌≤◌, ltb, Bool, false, if◌then◌else◌, Option, Some, None}
use Rattle.ncc_layout.specs.declared.extent.Extent.{Extent}
use Rattle.ncc_layout.specs.Extents.{end}
use Rattle.ncc_layout.specs.Rules.ByKind.{ByKind}

-- the slab of the last record lies in a file of this length
abbrev pub LastNotTruncated : (length record_size records : ℕ) → Extent → Type 0
LastNotTruncated length record_size zero e = Unit {0}
LastNotTruncated length record_size (suc n) e = end e + n * record_size ≤ length

-- the rule: a fixed variable, and the slab of the last record, ends in the file
abbrev pub NotTruncated : (length record_size records : ℕ) → Extent → Type 0
NotTruncated length record_size records e = ByKind e.is_record (LastNotTruncated length record_size records e) (end e ≤ length)

-- where the last record begins, counted from record 0
abbrev pub last_record : (record_size records : ℕ) → Option ℕ
last_record record_size zero = None
last_record record_size (suc n) = Some (n * record_size)

-- the test that finds the fault
abbrev pub is_truncated : (length : ℕ) → Option ℕ → Extent → Bool
is_truncated length None e = if e.is_record then false else ltb length (end e + 0)
is_truncated length (Some further) e = if e.is_record then ltb length (end e + further) else ltb length (end e + 0)
