use Rattle.std.proofs.Common.{sym, ◌∙◌}
use Rattle.std.proofs.lemmas.List.{length-map}
use Rattle.ncc_schema.specs.Names.{no_place, unplaced}
use Rattle.ncc_schema.proofs.Sizes.{length-canon}
use Rattle.ncc_schema.proofs.laws.one_length.Goals as goal

pub returns : goal.returns
returns c s places number = length-canon s places number ∙ sym (length-canon s (unplaced s.vars) (length-map s.vars (λ x. no_place)))
