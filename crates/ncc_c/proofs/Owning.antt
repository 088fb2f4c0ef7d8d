-- Where the state is 0 the answer is a judgement.
use Rattle.std.proofs.Common.{◌≡◌, Result, Ok, Err, ap, ◌∙◌, sym, arith}
use Rattle.std.specs.Prelude.{OnOk}
use Rattle.ncc_front.specs.declared.judging.FrontRefusal.{FrontRefusal}
use Rattle.ncc_front.specs.declared.judging.FrontRefusal.TheVariants.{Fault, More, Memory}
use Rattle.ncc_front.specs.declared.judging.Judgement.{Judgement}
use Rattle.ncc_c.specs.declared.verdict.Verdict.{Verdict}
use Rattle.ncc_c.specs.Verdicts.{verdict_of}

pub holds_where_passed : (answer : Result Judgement FrontRefusal) (P : Type 0) (v : Verdict) → v ≡ verdict_of answer → v.outcome.state ≡ 0 → OnOk answer P → P
holds_where_passed (Ok j) P v is passed p = p
holds_where_passed (Err (Fault f)) P v is passed p = absurd (omega (arith, sym (ap (λ (x : Verdict). x.outcome.state) is) ∙ passed))
holds_where_passed (Err (More at)) P v is passed p = absurd (omega (arith, sym (ap (λ (x : Verdict). x.outcome.state) is) ∙ passed))
holds_where_passed (Err Memory) P v is passed p = absurd (omega (arith, sym (ap (λ (x : Verdict). x.outcome.state) is) ∙ passed))
