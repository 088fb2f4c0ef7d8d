-- Where the next value goes.
use Rattle.std.specs.Prelude.{◌≡◌, ℕ, ◌+◌, ◌*◌, ◌<◌, ◌≤◌, length, take, get_or, sum_by}
use Rattle.ncc_values.specs.XType.{size_of}
use Rattle.ncc_schema.specs.declared.schema.Schema.{Schema}
use Rattle.ncc_layout.specs.Sizes.{slab}
use Rattle.ncc_build.specs.Dataset.{Slab, elements, slabs_of}
use Rattle.ncc_write.specs.VarSlabs.{no_var}

-- a slab that isn't there
abbrev pub no_slab : Slab
no_slab = record { var = no_var; number = 0; in_record = 0 }

abbrev pub slab_at : Schema → (number : ℕ) → Slab
slab_at s k = get_or (slabs_of s) k no_slab

-- the bytes of the first slabs
abbrev pub end_of : Schema → (slabs : ℕ) → ℕ
end_of s k = sum_by (λ b. slab s.dims b.var) (take k (slabs_of s))

-- so many bytes were taken where all slabs before this one are full and so many of its elements are left; all slabs
-- are full where there is none of this number
pub record IsAt (s : Schema) (taken number left : ℕ) : Type 0 where
  pub within : number ≤ length (slabs_of s)
  pub some : number < length (slabs_of s) → 0 < left
  pub most : number < length (slabs_of s) → left ≤ elements s.dims (slab_at s number).var
  pub ends : number < length (slabs_of s) → taken + left * size_of (slab_at s number).var.xtype ≡ end_of s (number + 1)
  pub done : number ≡ length (slabs_of s) → taken ≡ end_of s number
