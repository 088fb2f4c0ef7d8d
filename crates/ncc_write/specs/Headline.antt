-- What `check`, `open`, `read_slab` and `finish` say together.
use Rattle.std.specs.Prelude.{◌≡◌, ℕ, ◌<◌, ◌↔◌, None, Ok, List, [], map, length}
use Rattle.std.specs.List.{AllByRecursion, flat_map}
use Rattle.ncc_values.specs.Values.{no_values, values_of}
use Rattle.ncc_values.specs.XType.{size_of}
use Rattle.ncc_values.specs.declared.values.Values.{Values}
use Rattle.ncc_schema.specs.declared.schema.Schema.{Schema}
use Rattle.ncc_layout.specs.Elements.{Inside, var_at}
use Rattle.ncc_layout.specs.Placed.{record_size_of_file, vars_of}
use Rattle.ncc_layout.specs.Plans.{known}
use Rattle.ncc_layout.specs.declared.placed_file.Placed.{Placed}
use Rattle.ncc_layout.specs.declared.placed_var.PlacedVar.{PlacedVar}
use Rattle.ncc_check.specs.Checks.{Checks, Opens, Refuses}
use Rattle.ncc_check.specs.declared.fault.FileFault.{FileFault}
use Rattle.ncc_check.specs.declared.fault.Refusal.TheVariants.{Fault}
use Rattle.ncc_check.specs.declared.report.Report.{Report}
use Rattle.ncc_slab.specs.Laws.{TakesAll}
use Rattle.ncc_slab.specs.Refusals.{slab_fault, FitsIn}
use Rattle.ncc_slab.specs.Selected.{Selected, number_at, numbers_of, places_of}
use Rattle.ncc_slab.specs.Selection.{indices_of}
use Rattle.ncc_slab.specs.declared.slab.Slab.{Slab}
use Rattle.ncc_build.specs.Dataset.{Dataset}
use Rattle.ncc_write.specs.Holds.{value_at}
use Rattle.ncc_write.specs.Laws.{PassesUnnoted}

-- ---- reading

-- a hyperslab of a variable is refused unless the variable is there and each index is inside its shape; what is read is
-- the number at each of these indices, in their order; and the parts of a reader, one after another until none is left,
-- are what is read at once
pub record ReadsThere (bytes : List ℕ) (p : Placed) (n : ℕ) (s : Slab) : Type 0 where
  pub refused : (slab_fault (vars_of p) n s ≡ None) ↔ ((n < length (vars_of p)) × FitsIn (var_at (vars_of p) n).shape s)
  pub inside : slab_fault (vars_of p) n s ≡ None → AllByRecursion (Inside (var_at (vars_of p) n).shape) (indices_of s)
  pub values : (values : Values) → slab_fault (vars_of p) n s ≡ None
      → Selected bytes (record_size_of_file p) (var_at (vars_of p) n) s values
      → numbers_of values ≡ map (number_at bytes (record_size_of_file p) (var_at (vars_of p) n)) (indices_of s)
  pub parts : (counts : List ℕ) (values : Values)
      → TakesAll bytes (size_of (var_at (vars_of p) n).xtype) counts (places_of (record_size_of_file p) (var_at (vars_of p) n) s)
      (no_values (var_at (vars_of p) n).xtype) values → Selected bytes (record_size_of_file p) (var_at (vars_of p) n) s values

-- ---- reading back

-- the dataset's values of a hyperslab, in its order
abbrev pub written_values : Dataset → PlacedVar → (number : ℕ) → Slab → Values
written_values d x n s = values_of x.xtype (flat_map (value_at d x n) (indices_of s))

-- every hyperslab that isn't refused reads as it was written
abbrev pub ReadsBack : Dataset → (file : List ℕ) → Placed → Type 0
ReadsBack d file p = (n : ℕ) (s : Slab) (values : Values) → slab_fault (vars_of p) n s ≡ None
    → Selected file (record_size_of_file p) (var_at (vars_of p) n) s values
    → values ≡ written_values d (var_at (vars_of p) n) n s

-- the report of a file of this schema in which nothing is noted
pub record IsUnnoted (s : Schema) (r : Report) : Type 0 where
  pub version : r.version ≡ s.version
  pub records : r.records ≡ known s.count
  pub variables : r.variables ≡ length s.vars
  pub notes : r.notes ≡ []

-- the file passes without a note and has no fault, and whoever opens it has the schema that was built and reads the
-- dataset's values
pub record PassesAndReads (d : Dataset) (s : Schema) (file : List ℕ) (limit : ℕ) : Type 0 where
  pub passes : PassesUnnoted file limit s
  pub unnoted : (r : Report) → Checks file limit (Ok r) → IsUnnoted s r
  pub no_fault : (f : FileFault) → Refuses file limit (Fault f) → ⊥
  pub schema : (t : Schema) (p : Placed) → Opens file limit t p → t ≡ s
  pub reads : (t : Schema) (p : Placed) → Opens file limit t p → ReadsBack d file p
