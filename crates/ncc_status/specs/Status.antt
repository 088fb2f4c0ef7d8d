-- The program's status, by what the command came to or why the command line was not taken.
use Rattle.std.specs.Prelude.{◌≡◌, ℕ, ◌⊎◌}
use Rattle.clap.specs.declared.error.kind.ErrorKind.{ErrorKind}
use Rattle.clap.specs.declared.error.kind.ErrorKind.TheVariants.{DisplayHelp, DisplayVersion, OutOfMemory}
use Rattle.ncc_answers.specs.declared.answer.Answer.{Answer}
use Rattle.ncc_tasks.specs.declared.picking.WordFault.{WordFault}
use Rattle.ncc_tasks.specs.declared.picking.WordFault.TheVariants as words
use Rattle.ncc_answers.specs.declared.answer.Answer.TheVariants.{Device, Memory}

-- the words of a selection aren't taken
abbrev pub status_of_words : WordFault → ℕ
status_of_words (words.NoList option) = 2
status_of_words words.Memory = 3

-- help is no fault, and the command line's faults are 2; either may fail to be written
abbrev pub Explains : ErrorKind → (status : ℕ) → Type 0
Explains DisplayHelp status = (status ≡ 0) ⊎ (status ≡ 3)
Explains DisplayVersion status = (status ≡ 0) ⊎ (status ≡ 3)
Explains OutOfMemory status = status ≡ 3
Explains _ status = (status ≡ 2) ⊎ (status ≡ 3)

-- the answer stays, unless what was left in a buffer could not go out
abbrev pub Flushes : (old new : Answer) → Type 0
Flushes Memory new = new ≡ Memory
Flushes old new = (new ≡ old) ⊎ (new ≡ Device)
