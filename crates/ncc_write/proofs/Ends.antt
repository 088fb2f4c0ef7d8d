-- A file that has all its values.
use Rattle.std.proofs.Common.{◌≡◌, ℕ, ◌<◌, List, length, ap, subst, ◌∙◌, arith}
use Rattle.std.specs.Prelude.{sum_by}
use Rattle.std.proofs.lemmas.List.{take_all}
use Rattle.std.proofs.Math.Logic.{∥∥₁_elim, ∥∥₁_map, ∥∥₁_prop}
use Rattle.ncc_values.specs.Numbers.{IsBytes}
use Rattle.ncc_schema.specs.declared.schema.Schema.{Schema}
use Rattle.ncc_schema.specs.Schema.{count_limit}
use Rattle.ncc_layout.specs.Plans.{IsKnown, known}
use Rattle.ncc_layout.specs.Sizes.{slab}
use Rattle.ncc_build.specs.Building.{IsBuilt}
use Rattle.ncc_build.specs.Dataset.{slabs_of}
use Rattle.ncc_build.specs.File.{IsWritable}
use Rattle.ncc_write.specs.Laws.{IsCompleted, TakingAllCompletes}
use Rattle.ncc_write.specs.Positions.{IsAt}
use Rattle.ncc_write.specs.Writing.{data_length, written}

pub all_taken : (s : Schema) (taken : List ℕ) (k left : ℕ) → IsAt s (length taken) k left → k ≡ length (slabs_of s) → length taken ≡ data_length s
all_taken s taken k left at all = at.done all ∙ ap (sum_by (λ b. slab s.dims b.var)) (take_all k (slabs_of s) (omega (arith, all)))

pub completed : (s t : Schema) (taken : List ℕ) → s ≡ t → TakingAllCompletes → ∥ IsBuilt s ∥₁ → ∥ IsKnown s.count × (known s.count < count_limit s.version) ∥₁ → ∥ IsWritable s ∥₁ → IsBytes taken → length taken ≡ data_length t
    → ∥ IsCompleted t taken (written t taken) ∥₁
completed s t taken same completes built counted writable are long =
    subst (λ (u : Schema). length taken ≡ data_length u → ∥ IsCompleted u taken (written u taken) ∥₁) same
    (λ all.
    ∥∥₁_elim built ∥∥₁_prop (λ (b : IsBuilt s).
    ∥∥₁_elim counted ∥∥₁_prop (λ (c : IsKnown s.count × (known s.count < count_limit s.version)).
    ∥∥₁_map writable (λ (f : IsWritable s). completes s taken b c.0 c.1 f are all)))) long
