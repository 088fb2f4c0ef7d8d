use Rattle.std.proofs.Common.{sym, subst, rules}
use Rattle.std.specs.List.Sorted.{IsNonDecreasingBy}
use Rattle.std.proofs.lemmas.List.Sorted.{IsNonDecreasingBy-from_sort_by_key, IsPermutation-refl}
use Rattle.ncc_layout.specs.Bounds.{rank}
use Rattle.ncc_layout.specs.Rules.Overlap.{Overlaps}
use Rattle.ncc_layout.proofs.Sharing.{none_overlaps, overlaps}
use Rattle.ncc_layout.proofs.rules.overlap.overlap.Goals as goal

pub returns-in_err-inside-clause-found : goal.returns-in_err-inside-clause-found
returns-in_err-inside-clause-found c = subst (Overlaps c.args.extents.now) (sym c.from_residual.ensures) (none_overlaps c.args.extents.now c.requires.bytes c.in_err-inside.ensures)

pub returns-in_err-inside-clause-moved : goal.returns-in_err-inside-clause-moved
returns-in_err-inside-clause-moved c = IsPermutation-refl c.args.extents.now

pub returns-clause-found : goal.returns-clause-found
returns-clause-found c =
    let xs = c.args.extents.now in
    let ys = c.sort_unstable_by_key.new.self in
    let sorted : IsNonDecreasingBy rank ys = IsNonDecreasingBy-from_sort_by_key rank ys c.sort_unstable_by_key.ensures.sorted (λ a r q k. search rules) in
    overlaps xs ys c.sort_unstable_by_key.ensures.permutation c.requires.bytes c.requires.numbered sorted c.inside-2.result c.inside-2.ensures
