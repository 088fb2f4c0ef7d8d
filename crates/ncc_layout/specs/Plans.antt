-- What the program answers for a standard placement.
use Rattle.std.specs.Prelude.{◌≡◌, ℕ, ◌+◌, List, length, map}
use Rattle.std.specs.List.{flat_map}
use Rattle.ncc_schema.specs.declared.schema.Count.{Count}
use Rattle.ncc_schema.specs.declared.schema.Count.TheVariants.{Known, Streaming}
use Rattle.ncc_schema.specs.declared.schema.Schema.{Schema}
use Rattle.ncc_schema.specs.declared.schema.Var.{Var}
use Rattle.ncc_schema.specs.declared.schema.VarPlace.{VarPlace}
use Rattle.ncc_schema.specs.Schema.{places_of}
use Rattle.ncc_schema.specs.Names.{capped, list_size, vars_at, canon_unplaced, header_length}
use Rattle.ncc_layout.specs.declared.fault.SizeError.{SizeError}
use Rattle.ncc_layout.specs.declared.fault.SizeError.TheVariants as size_error
use Rattle.ncc_layout.specs.declared.plan_fault.PlanFault.{PlanFault}
use Rattle.ncc_layout.specs.declared.plan_fault.PlanFault.TheVariants.{SizeForVersion, OffsetForVersion, Memory}
use Rattle.ncc_layout.specs.declared.planning.Ends.{Ends}
use Rattle.ncc_layout.specs.Sizes.{record_sum}
use Rattle.ncc_layout.specs.Standard.{fixed_sum, standard_places, begin_fields, FitsVersion, OffsetsFit}

-- ---- the number of records

abbrev pub IsKnown : Count → Type 0
IsKnown (Known n) = Unit {0}
IsKnown Streaming = ⊥

abbrev pub known : Count → ℕ
known (Known n) = n
known Streaming = 0

-- ---- answers

-- each variable has its standard place, and the offset of its begin field
pub record IsStandard (s : Schema) (places : List VarPlace) : Type 0 where
  pub places_are : places_of places ≡ standard_places s
  pub fields_are : map (λ p. p.begin_at) places ≡ begin_fields s

-- the places of a schema that the version can tell
pub record IsPlan (s : Schema) (records : ℕ) (places : List VarPlace) : Type 0 where
  pub fits : FitsVersion s records
  pub offsets : OffsetsFit s
  pub standard : IsStandard s places

abbrev pub PlanFails : Schema → (records : ℕ) → PlanFault → Type 0
PlanFails s records SizeForVersion = FitsVersion s records → ⊥
PlanFails s records OffsetForVersion = FitsVersion s records × (OffsetsFit s → ⊥)
PlanFails s records Memory = Unit {0}

abbrev pub plan_fault : SizeError → PlanFault
plan_fault (size_error.TooLarge n) = SizeForVersion
plan_fault size_error.Memory = Memory

-- ---- the ends of a run over the variables

-- of these variables in the header
abbrev pub header_end : Schema → List Var → ℕ
header_end s vars = vars_at s + list_size s.version + length (flat_map (canon_unplaced s.version) vars)

-- of the fixed ones among them
abbrev pub fixed_end : Schema → List Var → ℕ
fixed_end s vars = header_length s + fixed_sum s.dims vars

-- of the slabs of the record variables among them in record 0, after all fixed variables
abbrev pub slabs_end : Schema → List Var → ℕ
slabs_end s vars = header_length s + fixed_sum s.dims s.vars + record_sum s.dims vars

pub record AreEnds (s : Schema) (vars : List Var) (e : Ends) : Type 0 where
  pub header : e.header ≡ capped (header_end s vars)
  pub fixed : e.fixed ≡ capped (fixed_end s vars)
  pub slabs : e.slabs ≡ capped (slabs_end s vars)
