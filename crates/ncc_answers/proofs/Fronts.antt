-- A front of a text, where the output failed.
use Rattle.std.proofs.Common.{◌≡◌, List, ℕ, ◌++◌, Option, Result, Ok, Err, ap, subst, sym, ◌∙◌, append_assoc}
use Rattle.std.specs.Prelude.{IfErr}
use Rattle.std.specs.Result.{IsErrAnd}
use Rattle.std.proofs.lemmas.Result.{err_from_is_err_and}
use Rattle.ncc_values.specs.declared.failures.Device.{Device}
use Rattle.ncc_schema.specs.Device.{Puts, WritesAll}
use Rattle.ncc_schema.proofs.Writing.{SoFar}

-- where a part didn't go out, a front of all of it did
pub front_of : {T : Type 0} (old new : Option (List ℕ)) (text a b : List ℕ) (r : Result T Device) (e : Device) → text ≡ a ++ b → WritesAll old new (Err e) a
    → IfErr r (λ x. (out : List ℕ) × (rest : List ℕ) × (text ≡ out ++ rest) × Puts old new out)
front_of old new text a b (Ok x) e parts w = tt
front_of old new text a b (Err x) e parts w = (w.0, w.1 ++ b, parts ∙ ap (λ (z : List ℕ). z ++ b) w.2 ∙ append_assoc w.0 w.1 b, w.3)

-- the same, where some of it went out before
pub fails_so_far : (Q : Device → Type 0) (old new : Option (List ℕ)) (text rest : List ℕ) (r : Result (Unit {0}) Device) → IsErrAnd r Q → SoFar old new text rest → WritesAll old new r text
fails_so_far Q old new text rest r exit s =
    let p = err_from_is_err_and r exit in
    subst (λ (q : Result (Unit {0}) Device). WritesAll old new q text) (sym p.1) (s.front, rest, s.joined, s.puts)

-- the same of what a call that failed has put out
pub fails_with : (Q : Device → Type 0) (old new : Option (List ℕ)) (text : List ℕ) (r : Result (Unit {0}) Device) (e : Device) → IsErrAnd r Q → WritesAll old new (Err e) text → WritesAll old new r text
fails_with Q old new text r e exit w =
    let p = err_from_is_err_and r exit in
    subst (λ (q : Result (Unit {0}) Device). WritesAll old new q text) (sym p.1) w
