-- InHeader: no variable begins before the header ends.
use Rattle.std.specs.Prelude.{ℕ, ◌≤◌, ltb, Bool}
use Rattle.ncc_layout.specs.declared.extent.Extent.{Extent}

-- the rule: it begins past the header
abbrev pub NotInHeader : (header : ℕ) → Extent → Type 0
NotInHeader header e = header ≤ e.begin

-- the test that finds the fault
abbrev pub is_in_header : (header : ℕ) → Extent → Bool
is_in_header header e = ltb e.begin header
