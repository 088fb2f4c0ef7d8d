-- The selection of a whole slab.
use Rattle.std.specs.Prelude.{◌≡◌, ℕ, ◌<◌, ◌≤◌, Bool, true, false, List, [], ◌∷◌, length, replicate, Result, Ok, Err}
use Rattle.ncc_layout.specs.declared.placed_var.PlacedVar.{PlacedVar}
use Rattle.ncc_layout.specs.declared.placed_file.Placed.{Placed}
use Rattle.ncc_layout.specs.Elements.{var_at}
use Rattle.ncc_layout.specs.Placed.{records_of_file, vars_of}
use Rattle.ncc_slab.specs.declared.slab.Slab.{Slab}
use Rattle.ncc_slab.specs.declared.fault.SlabFault.{SlabFault}
use Rattle.ncc_slab.specs.declared.fault.SlabFault.TheVariants.{NoVariable, Outside, Memory}
use Rattle.ncc_slab.specs.SlabPlaces.{HasSlab}

-- from the first index of each dimension on, but of a record variable from this record on
abbrev pub slab_start : (is_record : Bool) → (number : ℕ) → (lengths : List ℕ) → List ℕ
slab_start true number (n ∷ ls) = number ∷ replicate (length ls) 0
slab_start true number [] = []
slab_start false number ls = replicate (length ls) 0

-- as many indices as each dimension has, but of a record variable one record
abbrev pub slab_count : (is_record : Bool) → (lengths : List ℕ) → List ℕ
slab_count true (n ∷ ls) = 1 ∷ ls
slab_count true [] = []
slab_count false ls = ls

-- all elements of a fixed variable, or of a record variable in one record
abbrev pub whole_slab : PlacedVar → (number : ℕ) → Slab
whole_slab x number = record {
  start = slab_start x.extent.is_record number x.shape;
  count = slab_count x.extent.is_record x.shape;
  stride = replicate (length x.shape) 1;
}

-- the whole slab, or want of memory, exactly where it is there; else what isn't there: the variable, or its record
abbrev pub SelectsSlab : Placed → (var number : ℕ) → Result Slab SlabFault → Type 0
SelectsSlab p var number (Ok s) = HasSlab p var number × (s ≡ whole_slab (var_at (vars_of p) var) number)
SelectsSlab p var number (Err Memory) = HasSlab p var number
SelectsSlab p var number (Err NoVariable) = length (vars_of p) ≤ var
SelectsSlab p var number (Err (Outside k)) = (k ≡ 0) × (var < length (vars_of p))
    × ((var_at (vars_of p) var).extent.is_record ≡ true) × (records_of_file p ≤ number)
SelectsSlab p var number (Err fault) = ⊥
