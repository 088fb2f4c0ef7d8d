-- What a check comes to, by its report.
use Rattle.std.specs.Prelude.{Bool, true, false, List, [], ◌∷◌}
use Rattle.ncc_check.specs.declared.note.Note.{Note}
use Rattle.ncc_check.specs.declared.report.Report.{Report}
use Rattle.ncc_answers.specs.declared.answer.Answer.{Answer}
use Rattle.ncc_answers.specs.declared.answer.Answer.TheVariants.{Passed, Refused}

-- a file that passes is refused only where notes are faults and it has one
abbrev pub verdict_on : (strict : Bool) → List Note → Answer
verdict_on false notes = Passed
verdict_on true [] = Passed
verdict_on true (n ∷ notes) = Refused

abbrev pub verdict : (strict : Bool) → Report → Answer
verdict strict r = verdict_on strict r.notes
