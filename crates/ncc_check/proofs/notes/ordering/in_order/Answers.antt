use Rattle.std.proofs.Common.{rules}
use Rattle.std.specs.List.Sorted.{IsNonDecreasingBy}
use Rattle.std.proofs.lemmas.List.Sorted.{IsNonDecreasingBy-from_sort_by_key}
use Rattle.ncc_check.specs.Noting.{key_of}
use Rattle.ncc_check.proofs.Ordering.{same_in_order}
use Rattle.ncc_check.proofs.notes.ordering.in_order.Goals as goal

pub returns : goal.returns
returns c =
    let ns = c.sort_unstable_by_key.new.self.items in
    let order : IsNonDecreasingBy key_of ns = IsNonDecreasingBy-from_sort_by_key key_of ns c.sort_unstable_by_key.ensures.sorted (λ a r q k. search rules) in
    same_in_order _ (λ m n e. search rules) (λ n. search rules) c.args.notes.items ns c.dedup.new.self.items c.sort_unstable_by_key.ensures.permutation order c.dedup.ensures.filtered
