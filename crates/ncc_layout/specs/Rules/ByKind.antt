-- What a rule says of fixed variables, and of record variables.
use Rattle.std.specs.Prelude.{ℕ, ◌+◌, ◌≤◌, List, Bool, true, false}
use Rattle.std.specs.List.{AllByRecursion}
use Rattle.ncc_layout.specs.declared.extent.Extent.{Extent}
use Rattle.ncc_layout.specs.Extents.{end}

-- one rule for the extents of record variables, and one for the fixed ones
abbrev pub ByKind : (is_record : Bool) → (of_record of_fixed : Type 0) → Type 0
ByKind true of_record of_fixed = of_record
ByKind false of_record of_fixed = of_fixed

-- it ends by the begin of each record variable, or so many bytes further on
abbrev pub EndsBy : (further : ℕ) → List Extent → Extent → Type 0
EndsBy further records e = AllByRecursion (λ r. end e ≤ r.begin + further) records
