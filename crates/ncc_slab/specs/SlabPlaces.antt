-- Slabs, and where they lie: the elements of a fixed variable, and those of a record variable in one record.
use Rattle.std.specs.Prelude.{◌≡◌, ℕ, ◌+◌, ◌*◌, ◌<◌, length, Option, Some, None, true, if◌then◌else◌}
use Rattle.ncc_layout.specs.declared.placed_var.PlacedVar.{PlacedVar}
use Rattle.ncc_layout.specs.declared.placed_file.Placed.{Placed}
use Rattle.ncc_layout.specs.Elements.{var_at}
use Rattle.ncc_layout.specs.Placed.{record_size_of_file, records_of_file, vars_of}

-- the record that a slab is in; a fixed variable has but one slab
abbrev pub slab_record : PlacedVar → (number : ℕ) → ℕ
slab_record x number = if x.extent.is_record then number else 0

-- the first byte of a slab
abbrev pub slab_begin : (record_size : ℕ) → PlacedVar → (number : ℕ) → ℕ
slab_begin record_size x number = x.extent.begin + slab_record x number * record_size

-- the variable is there, and of a record variable the record with this number
pub record HasSlab (p : Placed) (var number : ℕ) : Type 0 where
  pub there : var < length (vars_of p)
  pub in_records : (var_at (vars_of p) var).extent.is_record ≡ true → number < records_of_file p

-- the slab is there, and this is the place of its first byte
abbrev pub IsSlabPlace : Placed → (var number : ℕ) → Option ℕ → Type 0
IsSlabPlace p var number None = HasSlab p var number → ⊥
IsSlabPlace p var number (Some place) =
    HasSlab p var number × (place ≡ slab_begin (record_size_of_file p) (var_at (vars_of p) var) number)
