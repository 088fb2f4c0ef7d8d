-- All values have been taken exactly where no slab is left to fill.
use Rattle.std.proofs.Common.{◌≡◌, ℕ, ◌-◌, ◌≤◌, Bool, true, false, List, [], ◌∷◌, length, Option, Some, None, refl, ap, ◌∙◌, arith}
use Rattle.std.specs.Prelude.{ltb, sum_by, ◌/◌, if◌then◌else◌, ◌↔◌}
use Rattle.std.proofs.lemmas.Bool.{ltb-false, le-ltb}
use Rattle.std.proofs.lemmas.List.Sums.{sum_by-cons}
use Rattle.ncc_values.specs.XType.{size_of}
use Rattle.ncc_schema.specs.declared.schema.Schema.{Schema}
use Rattle.ncc_layout.specs.Sizes.{slab}
use Rattle.ncc_build.specs.Dataset.{Slab, slabs_of}
use Rattle.ncc_write.specs.Writing.{Next, next_in, next_of, data_length}

-- the first slab if it has room, else what comes later
abbrev pub choice : (b : Bool) → Next → Option Next → Option Next
choice b n later = if b then Some n else later

pub no_first : (b : Bool) (n : Next) (later : Option Next) → choice b n later ≡ None → (b ≡ false) × (later ≡ None)
no_first true n later h = absurd cc
no_first false n later h = (refl, h)

-- the place in this slab
abbrev pub here : Schema → Slab → ℕ → Next
here s b n = record { slab = b; left = (slab s.dims b.var - n) / size_of b.var.xtype }

filled_at_end : (s : Schema) (slabs : List Slab) (n : ℕ) → next_in s slabs n ≡ None
    → sum_by (λ b. slab s.dims b.var) slabs ≤ n
filled_at_end s [] n none = omega arith
filled_at_end s (b ∷ slabs) n none =
    let size = slab s.dims b.var in
    let parts = no_first (ltb n size) (here s b n) (next_in s slabs (n - size)) none in
    let rest : sum_by (λ b. slab s.dims b.var) slabs ≤ n - size = filled_at_end s slabs (n - size) parts.1 in
    omega (arith, ltb-false n size parts.0, rest, sum_by-cons (λ (c : Slab). slab s.dims c.var) b slabs)

pub next_behind : (s : Schema) (b : Slab) (slabs : List Slab) (n : ℕ) → slab s.dims b.var ≤ n
    → next_in s (b ∷ slabs) n ≡ next_in s slabs (n - slab s.dims b.var)
next_behind s b slabs n enough = ap (λ (c : Bool). choice c (here s b n) (next_in s slabs (n - slab s.dims b.var)))
    (le-ltb n (slab s.dims b.var) enough)

end_if_filled : (s : Schema) (slabs : List Slab) (n : ℕ) → sum_by (λ b. slab s.dims b.var) slabs ≤ n
    → next_in s slabs n ≡ None
end_if_filled s [] n filled = refl
end_if_filled s (b ∷ slabs) n filled =
    let size = slab s.dims b.var in
    let total = sum_by-cons (λ (c : Slab). slab s.dims c.var) b slabs in
    next_behind s b slabs n (omega (arith, filled, total))
    ∙ end_if_filled s slabs (n - size) (omega (arith, filled, total))

pub ends_when_filled : (s : Schema) (taken : List ℕ) → (next_of s taken ≡ None) ↔ (data_length s ≤ length taken)
ends_when_filled s taken = (filled_at_end s (slabs_of s) (length taken), end_if_filled s (slabs_of s) (length taken))
