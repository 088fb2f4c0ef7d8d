-- What is put for the slab of each variable, and in which order.
use Rattle.std.specs.Prelude.{◌≡◌, ℕ, ◌+◌, ◌-◌, ◌/◌, ◌%◌, ltb, Bool, true, false, List, [], ◌++◌, length, map, take, get_or, replicate, if◌then◌else◌}
use Rattle.ncc_values.specs.XType.{size_of}
use Rattle.ncc_values.specs.declared.xtype.XType.TheVariants.{Byte}
use Rattle.ncc_schema.specs.declared.schema.Schema.{Schema}
use Rattle.ncc_schema.specs.declared.schema.Var.{Var}
use Rattle.ncc_build.specs.Fill.{fill_bytes}
use Rattle.ncc_build.specs.Dataset.{Slab, elements, fixed_slabs, record_slabs, slabs_of}
use Rattle.ncc_build.specs.File.{padding_in}
use Rattle.ncc_write.specs.declared.var_slab.VarSlab.{VarSlab}
use Rattle.ncc_write.specs.declared.slab_order.SlabOrder.{SlabOrder}

-- ---- a slab

-- the bytes of a fill value
abbrev pub var_slab_fill : VarSlab → List ℕ
var_slab_fill t = take (size_of t.xtype) t.fill

-- as many elements as the slab has, and its padding in fill values
abbrev pub var_slab_for : Schema → Slab → VarSlab
var_slab_for s b = record {
  var = b.number;
  xtype = b.var.xtype;
  elements = elements s.dims b.var;
  padding = padding_in s b.var / size_of b.var.xtype;
  fill = fill_bytes b.var ++ replicate (8 - size_of b.var.xtype) 0;
}

-- a variable that isn't there
abbrev pub no_var : Var
no_var = record { name = []; dims = []; attrs = []; xtype = Byte }

abbrev pub no_var_slab : VarSlab
no_var_slab = record { var = 0; xtype = Byte; elements = 0; padding = 0; fill = replicate 8 0 }

-- ---- all slabs

-- the slabs of a record, or of the fixed variables
abbrev pub slabs_of_kind : Schema → (records : Bool) → List Slab
slabs_of_kind s true = record_slabs s 0
slabs_of_kind s false = fixed_slabs s

-- the VarSlabs of the fixed variables, and after them those of a record
pub record IsSlabOrder (s : Schema) (c : SlabOrder) : Type 0 where
  pub var_slabs : c.var_slabs.items ≡ map (var_slab_for s) (fixed_slabs s ++ record_slabs s 0)
  pub fixed : c.fixed ≡ length (fixed_slabs s)
  pub slabs : c.slabs ≡ length (slabs_of s)

-- the number of a slab's VarSlab, and its record
abbrev pub var_slab_number : SlabOrder → (slab : ℕ) → ℕ
var_slab_number c k = if ltb k c.fixed then k else c.fixed + (k - c.fixed) % (length c.var_slabs.items - c.fixed)

abbrev pub var_slab_at : SlabOrder → (slab : ℕ) → VarSlab
var_slab_at c k = get_or c.var_slabs.items (var_slab_number c k) no_var_slab

abbrev pub record_at : SlabOrder → (slab : ℕ) → ℕ
record_at c k = if ltb k c.fixed then 0 else (k - c.fixed) / (length c.var_slabs.items - c.fixed)
