use Rattle.std.proofs.Common.{rules}
use Rattle.ncc_csv.proofs.Filling.{gathers_as}
use Rattle.ncc_csv.proofs.gathering.gather_chars.Goals as goal

pub returns-in-Ok : goal.returns-in-Ok
returns-in-Ok c = gathers_as _ _ _ _ _ _ (λ t a. search rules) c.in_ok-put_chars.ensures
