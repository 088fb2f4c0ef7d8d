-- What the parts of a selection are made of.
use Rattle.std.specs.Prelude.{◌≡◌, ℕ, List}
use Rattle.ncc_values.specs.declared.xtype.XType.{XType}
use Rattle.ncc_layout.specs.Elements.{var_at}
use Rattle.ncc_layout.specs.Placed.{file_length_of, record_size_of_file, vars_of}
use Rattle.ncc_layout.specs.declared.placed_file.Placed.{Placed}
use Rattle.ncc_slab.specs.declared.slab.Slab.{Slab}
use Rattle.ncc_slab.specs.declared.parts.SlabParts.{SlabParts}
use Rattle.ncc_slab.specs.Grids.{grid_rest}
use Rattle.ncc_slab.specs.Selected.{places_of}

abbrev pub parts_type : SlabParts → XType
parts_type p = p.xtype

-- the length of the file that they were made for
abbrev pub parts_length : SlabParts → ℕ
parts_length p = p.file_length

-- the places of the elements that are left
abbrev pub parts_left : SlabParts → List ℕ
parts_left p = grid_rest p.grid p.taken

-- the parts of a selection of this variable, from its first element on
pub record BeginsParts (placed : Placed) (number : ℕ) (s : Slab) (p : SlabParts) : Type 0 where
  pub type_is : parts_type p ≡ (var_at (vars_of placed) number).xtype
  pub left_is : parts_left p ≡ places_of (record_size_of_file placed) (var_at (vars_of placed) number) s
  pub length_is : parts_length p ≡ file_length_of placed
