use Rattle.std.proofs.Common.{◌≡◌, ◌⊎◌, ◌-◌, ◌≤◌, ℕ, List, [], length}
use Rattle.ncc_header.specs.Fields.{dimid}
use Rattle.ncc_header.specs.Grammar.{repeat}
use Rattle.ncc_header.specs.AtFront.{AtFront}
use Rattle.ncc_header.proofs.rules.whole_var.whole_ids.Given as goal

abbrev pub invariant-loop-i : goal.invariant-loop-i
invariant-loop-i l = record {
  goes : (final after : List ℕ) → AtFront (repeat (dimid l.version l.dims) l.ids.items (l.rank - l.i)) final l.rest after
      → AtFront (repeat (dimid l.version l.dims) [] l.rank) final l.initial.rest after;
  first : (l.i ≡ 0) × (l.ids.items ≡ []) × (l.rest ≡ l.initial.rest) ⊎ ((id : ℕ) × (mid : List ℕ) × AtFront (dimid l.version l.dims []) id l.initial.rest mid);
  less : length l.rest ≤ length l.initial.rest;
}
