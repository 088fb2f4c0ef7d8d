-- Selections that were worked by hand.
use Rattle.std.proofs.Common.{◌≡◌, ℕ, List, [], ◌∷◌, Some, None, pos, negsuc, true, false, refl}
use Rattle.ncc_values.specs.declared.xtype.XType.TheVariants.{Short}
use Rattle.ncc_values.specs.declared.values.Values.TheVariants.{Shorts}
use Rattle.ncc_layout.specs.declared.placed_var.PlacedVar.{PlacedVar}
use Rattle.ncc_slab.specs.declared.slab.Slab.{Slab}
use Rattle.ncc_slab.specs.declared.fault.SlabFault.TheVariants.{NoVariable, RankMismatch, ZeroStride, Outside}
use Rattle.ncc_slab.specs.Selection.{selected_indices, indices_of, fitting_count}
use Rattle.ncc_slab.specs.Selected.{values_at}
use Rattle.ncc_slab.specs.Refusals.{shape_fault, slab_fault}

-- along one dimension
abbrev one : (start count stride : ℕ) → Slab
one start count stride = record { start = start ∷ []; count = count ∷ []; stride = stride ∷ [] }

-- the last two columns of a 2 by 3 array
columns : selected_indices (0 ∷ 1 ∷ []) (2 ∷ 2 ∷ []) (1 ∷ 1 ∷ []) ≡ (0 ∷ 1 ∷ []) ∷ (0 ∷ 2 ∷ []) ∷ (1 ∷ 1 ∷ []) ∷ (1 ∷ 2 ∷ []) ∷ []
columns = refl

every_second : selected_indices (0 ∷ []) (2 ∷ []) (2 ∷ []) ≡ (0 ∷ []) ∷ (2 ∷ []) ∷ []
every_second = refl

scalar : selected_indices [] [] [] ≡ [] ∷ []
scalar = refl

nothing : selected_indices (3 ∷ []) (0 ∷ []) (1 ∷ []) ≡ []
nothing = refl

-- of a dimension of length 3
fits_twice : shape_fault (3 ∷ []) (one 0 2 2) ≡ None
fits_twice = refl

third_is_past : shape_fault (3 ∷ []) (one 0 3 2) ≡ Some (Outside 0)
third_is_past = refl

stays : shape_fault (3 ∷ []) (one 0 1 0) ≡ Some (ZeroStride 0)
stays = refl

none_at_the_end : shape_fault (3 ∷ []) (one 3 0 1) ≡ None
none_at_the_end = refl

none_past_the_end : shape_fault (3 ∷ []) (one 4 0 1) ≡ Some (Outside 0)
none_past_the_end = refl

two_starts : shape_fault (3 ∷ []) (record { start = 0 ∷ 0 ∷ []; count = 1 ∷ []; stride = 1 ∷ [] }) ≡ Some RankMismatch
two_starts = refl

-- a later dimension without a stride comes before an earlier one that is outside
stride_first : shape_fault (3 ∷ 3 ∷ []) (record { start = 4 ∷ 0 ∷ []; count = 1 ∷ 1 ∷ []; stride = 1 ∷ 0 ∷ [] }) ≡ Some (ZeroStride 1)
stride_first = refl

no_variable : slab_fault [] 0 (one 0 1 1) ≡ Some NoVariable
no_variable = refl

-- short m(y, x) of lengths 2 and 3, with the values 1 to 6, after a header of 2 bytes
abbrev m : PlacedVar
m = record { xtype = Short; shape = 2 ∷ 3 ∷ []; extent = record { begin = 2; slab = 12; variable = 0; is_record = false } }

abbrev file : List ℕ
file = 255 ∷ 255 ∷ 0 ∷ 1 ∷ 0 ∷ 2 ∷ 0 ∷ 3 ∷ 0 ∷ 4 ∷ 0 ∷ 5 ∷ 0 ∷ 6 ∷ []

abbrev last_columns : Slab
last_columns = record { start = 0 ∷ 1 ∷ []; count = 2 ∷ 2 ∷ []; stride = 1 ∷ 1 ∷ [] }

column_values : values_at file 0 m (indices_of last_columns) ≡ Shorts (pos 2 ∷ pos 3 ∷ pos 5 ∷ pos 6 ∷ [])
column_values = refl

-- short v(t) of 3 records of 4 bytes, a record variable that begins at 1: the records 0 and 2
abbrev v : PlacedVar
v = record { xtype = Short; shape = 3 ∷ []; extent = record { begin = 1; slab = 2; variable = 0; is_record = true } }

every_second_record : values_at (9 ∷ 0 ∷ 1 ∷ 9 ∷ 9 ∷ 0 ∷ 2 ∷ 9 ∷ 9 ∷ 255 ∷ 255 ∷ []) 4 v (indices_of (one 0 2 2)) ≡ Shorts (pos 1 ∷ negsuc 0 ∷ [])
every_second_record = refl

-- where no count is given
two_of_three : fitting_count 3 0 2 ≡ 2
two_of_three = refl

none_from_the_end : fitting_count 3 3 1 ≡ 0
none_from_the_end = refl
