-- What is found out of a header and the length of its file.
use Rattle.std.specs.Prelude.{◌≡◌, ℕ, Result, Ok, Err}
use Rattle.ncc_schema.specs.declared.schema.Header.{Header}
use Rattle.ncc_schema.specs.Schema.{places_of}
use Rattle.ncc_layout.specs.declared.fault.LayoutFaultKind.TheVariants.{TooLarge}
use Rattle.ncc_layout.specs.declared.placed_file.Placed.{Placed}
use Rattle.ncc_layout.specs.Extents.{record_count}
use Rattle.ncc_layout.specs.Rules.{IsPlaced}
use Rattle.ncc_layout.specs.Placed.{Holds}
use Rattle.ncc_check.specs.declared.fault.FileFault.TheVariants.{Header as OfHeader, Layout as OfLayout}
use Rattle.ncc_check.specs.declared.fault.Refusal.{Refusal}
use Rattle.ncc_check.specs.declared.fault.Refusal.TheVariants.{Fault, Device, Memory}
use Rattle.ncc_check.specs.Faults.{HasLayoutFault}

-- a refusal of a file of this length: its first layout fault, unless memory was refused
abbrev pub RefusedLayout : Header → (file : ℕ) → Refusal → Type 0
RefusedLayout h file (Fault (OfHeader f)) = ⊥
RefusedLayout h file (Fault (OfLayout f)) = HasLayoutFault h file f
RefusedLayout h file Device = ⊥
RefusedLayout h file Memory = Unit {0}

-- that a variable of this header is too large, in a file of this length, unless memory was refused
abbrev pub RefusesSizes : Header → (file : ℕ) → Refusal → Type 0
RefusesSizes h file (Fault (OfHeader f)) = ⊥
RefusesSizes h file (Fault (OfLayout f)) = HasLayoutFault h file f × (f.kind ≡ TooLarge)
RefusesSizes h file Device = ⊥
RefusesSizes h file Memory = Unit {0}

-- its variables at their places, which keep all rules
abbrev pub LaysOut : Header → (file : ℕ) → Result Placed Refusal → Type 0
LaysOut h file (Ok p) = IsPlaced h.schema (places_of h.places) h.length file × Holds h.schema (places_of h.places) h.length file p
LaysOut h file (Err r) = RefusedLayout h file r

-- its variables keep all rules, and there are so many records
abbrev pub CountsRecords : Header → (file : ℕ) → Result ℕ Refusal → Type 0
CountsRecords h file (Ok n) = IsPlaced h.schema (places_of h.places) h.length file × (n ≡ record_count h.schema (places_of h.places) file)
CountsRecords h file (Err r) = RefusedLayout h file r
