-- The dataset that an open file holds, and where its slabs stand.
use Rattle.std.specs.Prelude.{◌≡◌, ℕ, ◌<◌, List, length}
use Rattle.ncc_schema.specs.declared.schema.Schema.{Schema}
use Rattle.ncc_layout.specs.declared.placed_file.Placed.{Placed}
use Rattle.ncc_layout.specs.declared.placed_var.PlacedVar.{PlacedVar}
use Rattle.ncc_layout.specs.Elements.{Inside, var_at}
use Rattle.ncc_layout.specs.Placed.{record_size_of_file, vars_of}
use Rattle.ncc_slab.specs.SlabPlaces.{slab_begin}
use Rattle.ncc_build.specs.Dataset.{Dataset, Slab}
use Rattle.ncc_write.specs.Holds.{bytes_at, stored_at, value_at}

-- the dataset of an open file, by this schema: the bytes of each element in the file are those of its value
pub record IsOf (file : List ℕ) (p : Placed) (t : Schema) (d : Dataset) : Type 0 where
  pub schema_is : d.schema ≡ t
  pub values : (n : ℕ) (index : List ℕ) → n < length d.schema.vars → Inside (var_at (vars_of p) n).shape index
      → stored_at file (record_size_of_file p) (var_at (vars_of p) n) index ≡ value_at d (var_at (vars_of p) n) n index

-- the variable of a slab, at its place
abbrev pub placed_of_slab : Placed → Slab → PlacedVar
placed_of_slab p b = var_at (vars_of p) b.number

-- the bytes of a slab
abbrev pub slab_bytes : (file : List ℕ) → Placed → Slab → List ℕ
slab_bytes file p b =
    let x = placed_of_slab p b in bytes_at file (slab_begin (record_size_of_file p) x b.in_record) x.extent.slab
