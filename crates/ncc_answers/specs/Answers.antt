-- What a command wrote, by its answer.
use Rattle.std.specs.Prelude.{◌≡◌, ◌⊎◌, ℕ, ◌+◌, List, ◌++◌, length, Result, Ok, Err}
use Rattle.ncc_values.specs.Failures.{Rose}
use Rattle.ncc_schema.specs.declared.sink.Sink.{Ghosts}
use Rattle.ncc_check.specs.FromStore.{SettledBy, calls_for}
use Rattle.ncc_lines.specs.declared.send_error.SendError.{SendError}
use Rattle.ncc_lines.specs.declared.send_error.SendError.TheVariants as send_errors
use Rattle.ncc_answers.specs.declared.answer.Answer.{Answer}
use Rattle.ncc_answers.specs.declared.answer.Answer.TheVariants.{Passed, Refused, Device, Memory}

-- which texts are right for a command that comes to this answer by itself: Passed or Refused
abbrev pub Texts : Type 1
Texts = Answer → List ℕ → Type 0

-- each right text begins with what went out
abbrev pub BeginsEach : Texts → (out : List ℕ) → Type 0
BeginsEach IsText out = (answer : Answer) → (text : List ℕ) → IsText answer text → (rest : List ℕ) × (text ≡ out ++ rest)

-- what went out: the text, or after a failure of the device or a want of memory a front of it
abbrev pub Writes : Texts → Answer → (out : List ℕ) → Type 0
Writes IsText Passed out = IsText Passed out
Writes IsText Refused out = IsText Refused out
Writes IsText Device out = BeginsEach IsText out
Writes IsText Memory out = BeginsEach IsText out

-- this answer, where the text went out
abbrev pub answer_of : Result (Unit {0}) SendError → Answer → Answer
answer_of (Ok x) answer = answer
answer_of (Err send_errors.Device) answer = Device
answer_of (Err send_errors.Memory) answer = Memory

-- which failures an answer tells, of a sink and of a store with these counts: Device only where one of them rose, and
-- else none changed
pub record Blames {W : Type 0} (g : Ghosts W) (sink sent : W) (answer : Answer) (before after : ℕ) : Type 0 where
  pub quiet : (answer ≡ Device → ⊥) → (after ≡ before) × (g.failures sent ≡ g.failures sink)
  pub device : answer ≡ Device → Rose before after ⊎ Rose (g.failures sink) (g.failures sent)

-- the same of a store or source that is asked before the sink is: where its count changed, the sink wasn't called
pub record Fails {W : Type 0} (g : Ghosts W) (sink sent : W) (answer : Answer) (before after : ℕ) : Type 0 where
  pub quiet : (answer ≡ Device → ⊥) → (after ≡ before) × (g.failures sent ≡ g.failures sink)
  pub device : answer ≡ Device → Rose before after ⊎ Rose (g.failures sink) (g.failures sent)
  pub still : (after ≡ before → ⊥) → g.calls sent ≡ g.calls sink

-- So many calls are enough for a check of these bytes: one for the length, and the reads of what may be the header, or
-- those that settle whether one is there.
abbrev pub ChecksBy : (bytes : List ℕ) (limit calls : ℕ) → Type 0
ChecksBy b limit calls = (calls ≡ calls_for (length b) limit) ⊎ ((reads : ℕ) × SettledBy b limit reads × (calls ≡ 1 + reads))
