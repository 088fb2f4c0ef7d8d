use Rattle.std.proofs.Common.{IsTrue, sym, ◌∙◌}
use Rattle.std.proofs.Math.Logic.{∥∥₁_elim}
use Rattle.std.proofs.Props.{props}
use Rattle.ncc_write.specs.Trips.{IsSaid}
use Rattle.ncc_write.proofs.trip_checking.passes.Goals as goal

pub returns-else-is_said-clause-memory : goal.returns-else-is_said-clause-memory
returns-else-is_said-clause-memory g c =
    let r = c.in-Ok.report in
    let said = c.requires.said r (c.in-Ok.ensures.answers c.requires.told) in
    let yes : IsTrue c.is_said.result =
    ∥∥₁_elim said (hlevel props) (λ (i : IsSaid c.args.due r). c.is_said.ensures.1 i) in
    absurd (cc (sym c.if-is_said.false ∙ yes))
