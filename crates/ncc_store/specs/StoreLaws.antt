-- Laws of `Store` that several stores cite. An implementation can cite them only in specs/.
use Rattle.std.proofs.Common.{rules}
use Rattle.std.specs.Prelude.{IsTrue, false}

-- what doesn't tell needs no law
pub untold : {A : Type 0} → IsTrue false → A
untold told = absurd (search rules)
