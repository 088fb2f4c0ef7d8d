-- What went out of a source's object, where the output failed.
use Rattle.std.proofs.Common.{List, ℕ, Option, Some, None, Result, Err, sym, subst}
use Rattle.std.specs.Prelude.{IfSome}
use Rattle.std.specs.Result.{IsErrAnd}
use Rattle.std.proofs.lemmas.Result.{err_from_is_err_and}
use Rattle.ncc_values.specs.declared.failures.Device.{Device}
use Rattle.ncc_schema.specs.Device.{WritesAll}
use Rattle.ncc_answers.specs.declared.answer.Answer.{Answer}
use Rattle.ncc_answers.specs.declared.form.Form.{Form}
use Rattle.ncc_answers.specs.declared.work.Work.{Work}
use Rattle.ncc_batch.specs.Answered.{IsTextIn, SendsOne}
use Rattle.ncc_answers.specs.Shown.{shown}

fails_one : (work : Work) (form : Form) (path : List ℕ) (left old new : Option (List ℕ)) (a : Answer) (text : List ℕ) (e f : Device) → IfSome left (λ input. IsTextIn work input a text)
    → WritesAll old new (Err e) (shown form path a text) → IfSome left (λ input. SendsOne work form path (Some input) old new (Err f))
fails_one work form path None old new a text e f is sent = tt
fails_one work form path (Some input) old new a text e f is sent = (a, sent.0, sent.1, (text, is, sym sent.2), sent.3)

pub fails_source : (Q : Device → Type 0) (work : Work) (form : Form) (path : List ℕ) (left old new : Option (List ℕ)) (a : Answer) (text : List ℕ) (e : Device) (r : Result Answer Device) → IsErrAnd r Q
    → IfSome left (λ input. IsTextIn work input a text) → WritesAll old new (Err e) (shown form path a text) → IfSome left (λ input. SendsOne work form path (Some input) old new r)
fails_source Q work form path left old new a text e r exit is sent =
    let p = err_from_is_err_and r exit in
    subst (λ (q : Result Answer Device). IfSome left (λ input. SendsOne work form path (Some input) old new q)) (sym p.1) (fails_one work form path left old new a text e p.0 is sent)
