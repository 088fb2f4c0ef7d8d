use Rattle.std.proofs.Common.{ℕ, ◌*◌, ap, subst}
use Rattle.ncc_header.specs.AtFront.{AtFront, padded}
use Rattle.ncc_header.proofs.rules.whole_attr.whole_values.Goals as goal

pub returns-clause-at_front : goal.returns-clause-at_front
returns-clause-at_front c =
    subst (λ (n : ℕ). AtFront (padded n) c.in_ok-values.values.now c.args.piece.now c.in_ok-values.after.now)
    (ap (λ (s : ℕ). c.args.k * s) c.size.ensures) c.in_ok-values.ensures.at_front
