use Rattle.ncc_c.proofs.Codes.{same_fit, same_places, same_var}
use Rattle.ncc_c.proofs.laws.one_variable.Goals as goal

pub returns : goal.returns
returns c = record { same = same_var; places = same_places; fits = same_fit }
