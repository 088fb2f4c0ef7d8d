-- What a reader of a selection is made of.
use Rattle.std.specs.Prelude.{◌≡◌, ℕ, List}
use Rattle.ncc_values.specs.declared.xtype.XType.{XType}
use Rattle.ncc_store.specs.declared.store.Store.{Ghosts}
use Rattle.ncc_layout.specs.Elements.{var_at}
use Rattle.ncc_layout.specs.Placed.{record_size_of_file, vars_of}
use Rattle.ncc_check.specs.declared.file.NcFile.{NcFile}
use Rattle.ncc_check.specs.Files.{placed_of}
use Rattle.ncc_slab.specs.declared.slab.Slab.{Slab}
use Rattle.ncc_slab.specs.declared.reader.SlabReader.{SlabReader}
use Rattle.ncc_slab.specs.SlabParts.{parts_type, parts_left}
use Rattle.ncc_slab.specs.Selected.{places_of}

-- the open file as it is now
abbrev pub file_in : {S : Type 0} {g : Ghosts S} → SlabReader S g → NcFile S g
file_in r = r.file.now

abbrev pub type_in : {S : Type 0} {g : Ghosts S} → SlabReader S g → XType
type_in r = parts_type r.parts

-- the places of the elements that are left
abbrev pub left_in : {S : Type 0} {g : Ghosts S} → SlabReader S g → List ℕ
left_in r = parts_left r.parts

-- it reads a selection of this variable from its first element on
pub record Begins {S : Type 0} {g : Ghosts S} (file : NcFile S g) (number : ℕ) (s : Slab) (r : SlabReader S g) : Type 0 where
  pub file_is : file_in r ≡ file
  pub type_is : type_in r ≡ (var_at (vars_of (placed_of file)) number).xtype
  pub left_is : left_in r ≡ places_of (record_size_of_file (placed_of file)) (var_at (vars_of (placed_of file)) number) s
