-- An open file holds a dataset, by each schema that is planned for it.
use Rattle.std.proofs.Common.{◌≡◌, ℕ, ◌<◌, List, length, refl, sym, ap, subst, ◌∙◌}
use Rattle.ncc_values.specs.Numbers.{IsBytes}
use Rattle.ncc_values.specs.declared.version.Version.{Version}
use Rattle.ncc_schema.specs.declared.schema.Schema.{Schema}
use Rattle.ncc_schema.specs.declared.schema.Header.{Header}
use Rattle.ncc_schema.specs.Schema.{Place, Sound, places_of, with_count}
use Rattle.ncc_layout.specs.declared.placed_file.Placed.{Placed}
use Rattle.ncc_layout.specs.declared.placed_var.PlacedVar.{PlacedVar}
use Rattle.ncc_layout.specs.Elements.{Inside, var_at}
use Rattle.ncc_layout.specs.Extents.{record_count}
use Rattle.ncc_layout.specs.Placed.{record_size_of_file, records_of_file}
use Rattle.ncc_check.specs.Checks.{Opens}
use Rattle.ncc_build.specs.Dataset.{Dataset, IsDataset, as_version, with_version}
use Rattle.ncc_write.specs.Holds.{stored_at, value_at, vars_of as vars_of_dataset}
use Rattle.ncc_write.proofs.FoundDatasets.{HasRoom, dataset_in, is_dataset}
use Rattle.ncc_write.proofs.FoundValues.{values_held}
use Rattle.ncc_write.specs.Planned.{IsPlanned}
use Rattle.ncc_convert.specs.Found.{IsOf}

module _ (bytes : List ℕ) (limit : ℕ) (s : Schema) (p : Placed) (opens : Opens bytes limit s p) (are : IsBytes bytes) where
  abbrev h : Header
  h = opens.header

  abbrev places : List Place
  places = places_of h.places

  abbrev records : ℕ
  records = record_count h.schema places (length bytes)

  -- the schema of the header with the number of records that were found, in a version
  module _ (v : Version) (sound : Sound (with_version (with_count h.schema records) v)) where
    abbrev t : Schema
    t = with_version (with_count h.schema records) v

    abbrev d : Dataset
    d = dataset_in t places bytes

    room : HasRoom t places bytes
    room =
        let begun = opens.passes.begins.is_header in
        record {
          are = are;
          sound = sound;
          typed = record { dims = begun.typed.dims; gatts = begun.typed.gatts; vars = begun.typed.vars };
          counted = tt;
          many = begun.legal.number;
          within = opens.passes.placed.rules.not_truncated;
        }

    abbrev Held : ℕ → List PlacedVar → Type 0
    Held size vars = (n : ℕ) (index : List ℕ) → n < length d.schema.vars → Inside (var_at vars n).shape index
        → stored_at bytes size (var_at vars n) index ≡ value_at d (var_at vars n) n index

    of : IsOf bytes p t d
    of = record {
      schema_is = refl;
      values = subst (λ (vars : List PlacedVar). Held (record_size_of_file p) vars) (sym opens.placed_is.vars_are)
          (subst (λ (size : ℕ). Held size (vars_of_dataset d places)) (sym opens.placed_is.size_is) (values_held t places bytes room));
    }

    pub found : (e : Dataset) × IsDataset e × IsOf bytes p t e
    found = (d, is_dataset t places bytes room, of)

  planned_is : (t : Schema) → IsPlanned s p t → t ≡ with_version (with_count h.schema records) t.version
  planned_is t planned = planned
      ∙ ap (λ (u : Schema). with_version (with_count u (records_of_file p)) t.version) opens.schema_is
      ∙ ap (λ (n : ℕ). with_version (with_count h.schema n) t.version) opens.placed_is.records_are

  pub planned_found : (t : Schema) → IsPlanned s p t → Sound t → (e : Dataset) × IsDataset e × IsOf bytes p t e
  planned_found t planned sound =
      let is = planned_is t planned in
      subst (λ (u : Schema). (e : Dataset) × IsDataset e × IsOf bytes p u e) (sym is) (found t.version (subst Sound is sound))

-- ---- another version

pub is_version : (d : Dataset) (v : Version) → IsDataset d → Sound (with_version d.schema v) → IsDataset (as_version d v)
is_version d v is sound = record {
  sound = sound;
  typed = record { dims = is.typed.dims; gatts = is.typed.gatts; vars = is.typed.vars };
  counted = is.counted;
  fixed = is.fixed;
  records_number = is.records_number;
  records = is.records;
}

pub of_version : (bytes : List ℕ) (p : Placed) (t : Schema) (v : Version) (d : Dataset) → IsOf bytes p t d
    → IsOf bytes p (with_version t v) (as_version d v)
of_version bytes p t v d of = record {
  schema_is = ap (λ (u : Schema). with_version u v) of.schema_is;
  values = of.values;
}
