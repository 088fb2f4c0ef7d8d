-- What is told of a file that is to be written.
use Rattle.std.specs.Prelude.{◌≡◌, ◌⊎◌, ◌<◌, ℕ, List, length, map, take, Result, Ok, Err}
use Rattle.ncc_values.specs.Version.{byte_of}
use Rattle.ncc_values.specs.declared.version.Version.{Version}
use Rattle.ncc_schema.specs.Schema.{with_count}
use Rattle.ncc_layout.specs.declared.placed_var.PlacedVar.{PlacedVar}
use Rattle.ncc_layout.specs.Placed.{record_size_of_file, vars_of}
use Rattle.ncc_build.specs.declared.fault.WriteFault.{WriteFault}
use Rattle.ncc_build.specs.Building.{RebuildsAs}
use Rattle.ncc_plan.specs.declared.planning.Plan.{Plan}
use Rattle.ncc_plan.specs.Plans.{IsOfSchema, IsPlanOf}
use Rattle.ncc_c.specs.declared.outcome.Outcome.{Outcome}
use Rattle.ncc_c.specs.declared.planning.PlaceRow.{PlaceRow}
use Rattle.ncc_c.specs.declared.planning.Planned.{Planned}
use Rattle.ncc_c.specs.declared.rows.AttrRow.{AttrRow}
use Rattle.ncc_c.specs.declared.rows.DimRow.{DimRow}
use Rattle.ncc_c.specs.declared.rows.VarRow.{VarRow}
use Rattle.ncc_c.specs.Describing.{RowsFit, schema_by}
use Rattle.ncc_c.specs.Outcomes.{misused, no_room, of_write_fault, passes}

-- no version has this number, or the rows don't fit
abbrev pub NoSchema : (version : ℕ) (text : List ℕ) → List DimRow → List AttrRow → List VarRow → (ids : List ℕ) → Type 0
NoSchema n text dims attrs vars ids =
    ((v : Version) → byte_of v ≡ n → ⊥) ⊎ (RowsFit text dims attrs vars ids → ⊥)

-- the rows give a schema of this version
pub record Gives (version : ℕ) (text : List ℕ) (dims : List DimRow) (attrs : List AttrRow) (vars : List VarRow) (ids : List ℕ) (v : Version) : Type 0 where
  pub number : byte_of v ≡ version
  pub fit : RowsFit text dims attrs vars ids

-- the plan of the schema that the rows give, with so many records, or why there is none: the number that a refusal of a
-- schema has is never that of misused
abbrev pub PlansBy : (version records : ℕ) (text : List ℕ) → List DimRow → List AttrRow → List VarRow → (ids : List ℕ)
    → Result Plan Outcome → Type 0
PlansBy n records text dims attrs vars ids (Ok p) = (v : Version) × Gives n text dims attrs vars ids v
    × RebuildsAs {T = Plan} v (schema_by v text dims attrs vars ids) records (Ok p)
    × IsPlanOf (with_count (schema_by v text dims attrs vars ids) records) records p
PlansBy n records text dims attrs vars ids (Err o) = ((o ≡ misused) × NoSchema n text dims attrs vars ids)
    ⊎ ((v : Version) × Gives n text dims attrs vars ids v
    × (f : WriteFault) × IsOfSchema f × (o ≡ of_write_fault f)
    × RebuildsAs {T = Plan} v (schema_by v text dims attrs vars ids) records (Err f))

-- ---- what is told

abbrev pub no_plan : Outcome → Planned
no_plan o = record { outcome = o; header_length = 0; record_size = 0; file_length = 0; vars = 0 }

abbrev pub numbers_of : Plan → Outcome → Planned
numbers_of p o = record {
  outcome = o;
  header_length = length p.header.items;
  record_size = record_size_of_file p.placed;
  file_length = p.file_length;
  vars = length (vars_of p.placed);
}

abbrev pub place_row : PlacedVar → PlaceRow
place_row x = record { begin = x.extent.begin; slab = x.extent.slab }

-- all of the items, or there is no room for them
abbrev pub PutsAll : {A : Type 0} → Plan → List A → (out : List A) → Planned → Type 0
PutsAll p items out x =
    ((x ≡ numbers_of p passes) × (take (length items) out ≡ items))
    ⊎ ((x ≡ numbers_of p no_room) × (length out < length items))

abbrev pub PutsPlaces : Result Plan Outcome → (out : List PlaceRow) → Planned → Type 0
PutsPlaces (Ok p) out x = PutsAll p (map place_row (vars_of p.placed)) out x
PutsPlaces (Err o) out x = x ≡ no_plan o

abbrev pub PutsHeader : Result Plan Outcome → (out : List ℕ) → Planned → Type 0
PutsHeader (Ok p) out x = PutsAll p p.header.items out x
PutsHeader (Err o) out x = x ≡ no_plan o

-- the places, or the header's bytes, of the plan
pub record TellsPlan {A : Type 0} (version records : ℕ) (text : List ℕ) (dims : List DimRow) (attrs : List AttrRow) (vars : List VarRow) (ids : List ℕ)
    (Puts : Result Plan Outcome → List A → Planned → Type 0) (out : List A) (x : Planned) : Type 0 where
  pub answer : Result Plan Outcome
  pub plans : PlansBy version records text dims attrs vars ids answer
  pub told : Puts answer out x
