use Rattle.ncc_write.proofs.Passing.{passes_as, passes_unnoted}
use Rattle.ncc_write.proofs.laws.file_passes.Goals as goal

pub returns-clause-placed : goal.returns-clause-placed
returns-clause-placed c = λ d limit is writable within. passes_as (record {
  canonical = c.canonical_header.ensures;
  unmarked = c.canonical_is_unmarked.ensures;
  begun = c.header_is_begun.ensures;
  one = c.one_header.ensures;
  placed = c.standard_places_keep_all_rules.ensures;
  in_turn = c.standard_places_are_in_turn.ensures;
  aligned = c.standard_places_are_aligned.ensures;
}) d limit is writable within

pub returns-clause-unnoted : goal.returns-clause-unnoted
returns-clause-unnoted c = λ d limit f within. passes_unnoted (record {
  canonical = c.canonical_header.ensures;
  unmarked = c.canonical_is_unmarked.ensures;
  begun = c.header_is_begun.ensures;
  one = c.one_header.ensures;
  placed = c.standard_places_keep_all_rules.ensures;
  in_turn = c.standard_places_are_in_turn.ensures;
  aligned = c.standard_places_are_aligned.ensures;
}) d limit f.dataset f.writable within f.built f.count
