use Rattle.std.proofs.Common.{rules}
use Rattle.std.specs.List.Sorted.{IsNonDecreasingBy}
use Rattle.std.proofs.lemmas.List.Sorted.{IsNonDecreasingBy-from_sort_by_key}
use Rattle.ncc_layout.specs.Bounds.{rank}
use Rattle.ncc_places.proofs.Ordered.{sorted_is}
use Rattle.ncc_places.proofs.ordering.order.Goals as goal

pub returns : goal.returns
returns c =
    let ys = c.sort_unstable_by_key.new.self in
    let sorted : IsNonDecreasingBy rank ys = IsNonDecreasingBy-from_sort_by_key rank ys c.sort_unstable_by_key.ensures.sorted (λ a r q k. search rules) in
    sorted_is c.args.extents.now ys c.sort_unstable_by_key.ensures.permutation c.requires.numbered c.requires.few sorted
