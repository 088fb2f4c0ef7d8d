-- What went out is what is told, or a front of it.
use Rattle.std.proofs.Common.{◌≡◌, ◌≢◌, ℕ, Bool, List, Option, Result, Ok, Err, refl, subst, inr}
use Rattle.ncc_schema.specs.Device.{Puts}
use Rattle.ncc_check.specs.Passes.{Passes}
use Rattle.ncc_json.specs.declared.wording.Wording.{Wording}
use Rattle.ncc_lines.specs.declared.send_error.SendError.{SendError}
use Rattle.ncc_lines.specs.declared.send_error.SendError.TheVariants as send_errors
use Rattle.ncc_lines.specs.Sends.{SendsAll}
use Rattle.ncc_answers.specs.declared.answer.Answer.{Answer}
use Rattle.ncc_answers.specs.declared.answer.Answer.TheVariants.{Passed, Refused, Device, Memory}
use Rattle.ncc_answers.specs.Answers.{answer_of}
use Rattle.ncc_explain.specs.Explaining.{ExplainsInto, IsToldText}

module _ (wording : Wording) (bytes : List ℕ) (limit : ℕ) (strict : Bool) where
  -- what went out, by the answer
  abbrev pub Gone : (old new : Option (List ℕ)) → Answer → Type 0
  Gone old new answer = (out : List ℕ) × Puts old new out × ExplainsInto wording bytes limit strict answer out

  written : (answer : Answer) (text : List ℕ) → IsToldText wording bytes limit strict answer text → ExplainsInto wording bytes limit strict answer text
  written Passed text is = is
  written Refused text is = is
  written Device text is = absurd is
  written Memory text is = absurd is

  pub gone : (old new : Option (List ℕ)) (text : List ℕ) (answer : Answer) (result : Result (Unit {0}) SendError) → result ≢ Err send_errors.Memory → IsToldText wording bytes limit strict answer text
      → SendsAll old new text result → Gone old new (answer_of result answer)
  gone old new text answer (Ok x) never is s = (text, s, written answer text is)
  gone old new text answer (Err send_errors.Device) never is s = (s.0, s.3, inr (answer, s.1, subst (IsToldText wording bytes limit strict answer) s.2 is))
  gone old new text answer (Err send_errors.Memory) never is s = absurd (never refl)

  pub passes : (answer : Answer) (text : List ℕ) → answer ≡ Passed → IsToldText wording bytes limit strict answer text → Passes bytes limit
  passes Passed text e is = (is.header, is.passes)
  passes Refused text e is = absurd cc
  passes Device text e is = absurd is
  passes Memory text e is = absurd is
