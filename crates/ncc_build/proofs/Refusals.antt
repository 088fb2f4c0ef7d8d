-- Refusals in their order, one run behind another.
use Rattle.std.proofs.Common.{◌≡◌, Bool, true, false, List, [], ◌∷◌, ◌++◌, Option, Some, None, Result, Ok, Err, inr, refl, sym, ap, subst, ◌∙◌}
use Rattle.std.specs.Prelude.{if◌then◌else◌}
use Rattle.std.specs.Result.{IsErrAnd}
use Rattle.std.proofs.lemmas.Result.{err_from_is_err_and}
use Rattle.ncc_build.specs.declared.fault.WriteFault.{WriteFault}
use Rattle.ncc_build.specs.declared.fault.WriteFault.TheVariants.{Memory}
use Rattle.ncc_build.specs.Building.{first_refusal, IsJudged}

-- want of memory is always open
memory_alone : (T : Type 0) (r : Option WriteFault) (e : WriteFault) → e ≡ Memory → IsJudged {T = T} r (Err e)
memory_alone T None e is = is
memory_alone T (Some f) e is = inr is

-- a refusal is one whatever the call would have given
other_type : (S T : Type 0) (r : Option WriteFault) (e : WriteFault) → IsJudged {T = S} r (Err e) → IsJudged {T = T} r (Err e)
other_type S T None e judged = judged
other_type S T (Some f) e judged = judged

-- the error of a call that wanted memory
pub memory_at : {T : Type 0} (refusal : Option WriteFault) (r : Result T WriteFault) → IsErrAnd r (λ e. e ≡ Memory) → IsJudged refusal r
memory_at {T} refusal r exit =
    let p = err_from_is_err_and r exit in
    subst (IsJudged refusal) (sym p.1) (memory_alone T refusal p.0 p.2)

pub other_at : (S : Type 0) {T : Type 0} (refusal : Option WriteFault) (e : WriteFault) (r : Result T WriteFault) → IsErrAnd r (λ y. y ≡ e) → IsJudged {T = S} refusal (Err e) → IsJudged refusal r
other_at S {T} refusal e r exit judged =
    let p = err_from_is_err_and r exit in
    subst (IsJudged refusal) (sym (p.1 ∙ ap Err p.2)) (other_type S T refusal e judged)

before_by : (S T : Type 0) (b : Bool) (f e : WriteFault) (one two : Option WriteFault) → IsJudged {T = S} (if b then Some f else one) (Err e) → (IsJudged {T = S} one (Err e) → IsJudged {T = T} two (Err e)) → IsJudged {T = T} (if b then Some f else two) (Err e)
before_by S T true f e one two judged next = judged
before_by S T false f e one two judged next = next judged

-- what the first run refuses is refused
refused_before : (S T : Type 0) (rs more : List (Bool × WriteFault)) (e : WriteFault) → IsJudged {T = S} (first_refusal rs) (Err e) → IsJudged {T = T} (first_refusal (rs ++ more)) (Err e)
refused_before S T [] more e judged = memory_alone T (first_refusal more) e judged
refused_before S T (r ∷ rs) more e judged = before_by S T r.0 r.1 e (first_refusal rs) (first_refusal (rs ++ more)) judged (refused_before S T rs more e)

pub refused_at : (S : Type 0) {T : Type 0} (rs more : List (Bool × WriteFault)) (e : WriteFault) (r : Result T WriteFault) → IsErrAnd r (λ y. y ≡ e) → IsJudged {T = S} (first_refusal rs) (Err e) → IsJudged (first_refusal (rs ++ more)) r
refused_at S {T} rs more e r exit judged =
    let p = err_from_is_err_and r exit in
    subst (IsJudged (first_refusal (rs ++ more))) (sym (p.1 ∙ ap Err p.2)) (refused_before S T rs more e judged)

next_by : (S T : Type 0) (b : Bool) (f : WriteFault) (one two : Option WriteFault) (x : S) (r : Result T WriteFault) → IsJudged (if b then Some f else one) (Ok x) → (IsJudged one (Ok x) → IsJudged two r) → IsJudged (if b then Some f else two) r
next_by S T true f one two x r passed next = absurd passed
next_by S T false f one two x r passed next = next passed

-- what the first run lets pass, the next judges
pub judged_next : {S T : Type 0} (rs more : List (Bool × WriteFault)) (x : S) (r : Result T WriteFault) → IsJudged (first_refusal rs) (Ok x) → IsJudged (first_refusal more) r → IsJudged (first_refusal (rs ++ more)) r
judged_next [] more x r passed judged = judged
judged_next {S} {T} (f ∷ rs) more x r passed judged = next_by S T f.0 f.1 (first_refusal rs) (first_refusal (rs ++ more)) x r passed (λ p. judged_next rs more x r p judged)

-- nothing is refused where a call passed
pub none_refused : {T : Type 0} (refusal : Option WriteFault) (x : T) → IsJudged refusal (Ok x) → refusal ≡ None
none_refused None x passed = refl
none_refused (Some f) x passed = absurd passed

-- a call that passed where nothing is refused
pub passed : {S T : Type 0} (refusal : Option WriteFault) (x : S) (y : T) → IsJudged refusal (Ok x) → IsJudged refusal (Ok y)
passed None x y judged = judged
passed (Some f) x y judged = absurd judged
