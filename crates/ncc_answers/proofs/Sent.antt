-- A text that was sent is the right one, or a front of it.
use Rattle.std.proofs.Common.{◌≡◌, ℕ, List, [], Option, Some, None, Result, Ok, Err, refl, sym, ap, ◌∙◌}
use Rattle.std.proofs.lemmas.List.{append-nil}
use Rattle.ncc_schema.specs.Device.{Puts}
use Rattle.ncc_lines.specs.declared.send_error.SendError.{SendError}
use Rattle.ncc_lines.specs.declared.send_error.SendError.TheVariants as send_errors
use Rattle.ncc_lines.specs.Sends.{SendsAll}
use Rattle.ncc_answers.specs.declared.answer.Answer.{Answer}
use Rattle.ncc_answers.specs.declared.answer.Answer.TheVariants.{Memory}
use Rattle.ncc_answers.specs.Answers.{Texts, Writes, answer_of}

-- what went out, by the answer
abbrev pub Gone : Texts → (old new : Option (List ℕ)) → Answer → Type 0
Gone IsText old new answer = (out : List ℕ) × Puts old new out × Writes IsText answer out

-- one text at most is right
abbrev pub OneText : Texts → Type 0
OneText IsText = (a b : Answer) (t u : List ℕ) → IsText a t → IsText b u → t ≡ u

pub sent : (IsText : Texts) → OneText IsText → (old new : Option (List ℕ)) (text : List ℕ) (answer : Answer) (result : Result (Unit {0}) SendError) → IsText answer text → Writes IsText answer text
    → SendsAll old new text result → Gone IsText old new (answer_of result answer)
sent IsText one old new text answer (Ok x) is w s = (text, s, w)
sent IsText one old new text answer (Err send_errors.Device) is w s = (s.0, s.3, λ a t other. (s.1, one a answer t text other is ∙ s.2))
sent IsText one old new text answer (Err send_errors.Memory) is w s = (s.0, s.3, λ a t other. (s.1, one a answer t text other is ∙ s.2))

-- nothing was sent, for want of memory
pub nothing : (IsText : Texts) → (put : Option (List ℕ)) → Gone IsText put put Memory
nothing IsText None = ([], tt, λ a t is. (t, refl))
nothing IsText (Some bytes) = ([], ap Some (sym (append-nil bytes)), λ a t is. (t, refl))
