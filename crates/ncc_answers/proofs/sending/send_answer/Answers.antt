use Rattle.std.proofs.Common.{[], ◌∷◌}
use Rattle.ncc_schema.proofs.Writing.{writes_both, fails_at}
use Rattle.ncc_answers.specs.Shown.{status_text, words_of}
use Rattle.ncc_answers.proofs.sending.send_answer.Goals as goal

pub returns-in_err-write_all-clause-bytes : goal.returns-in_err-write_all-clause-bytes
returns-in_err-write_all-clause-bytes g c =
    fails_at _ _ _ (status_text c.args.answer) (9 ∷ words_of c.args.answer c.args.text.now) _ c.in_err-write_all.field-0.0 c.from_residual.ensures.1 (rw c.digit.ensures at c.in_err-write_all.ensures.bytes)

pub returns-in_err-write_all-2-clause-bytes : goal.returns-in_err-write_all-2-clause-bytes
returns-in_err-write_all-2-clause-bytes g c =
    writes_both _ _ _ (status_text c.args.answer) (9 ∷ words_of c.args.answer c.args.text.now) _ (rw c.digit.ensures at c.in_ok-write_all.ensures.bytes)
    (fails_at _ _ _ (9 ∷ []) (words_of c.args.answer c.args.text.now) _ c.in_err-write_all-2.field-0.0 c.from_residual-in_err-write_all-2.ensures.1 c.in_err-write_all-2.ensures.bytes)

pub returns-clause-bytes : goal.returns-clause-bytes
returns-clause-bytes g c =
    writes_both _ _ _ (status_text c.args.answer) (9 ∷ words_of c.args.answer c.args.text.now) _ (rw c.digit.ensures at c.in_ok-write_all.ensures.bytes)
    (writes_both _ _ _ (9 ∷ []) (words_of c.args.answer c.args.text.now) _ c.in_ok-write_all-2.ensures.bytes (rw c.words.ensures at c.write_all-3.ensures.bytes))
