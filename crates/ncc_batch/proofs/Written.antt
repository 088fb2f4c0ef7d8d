-- What went out is the text that is right, where the answer says so.
use Rattle.std.proofs.Common.{◌≢◌, ℕ, List, refl}
use Rattle.ncc_answers.specs.declared.answer.Answer.{Answer}
use Rattle.ncc_answers.specs.declared.answer.Answer.TheVariants.{Passed, Refused, Device, Memory}
use Rattle.ncc_batch.specs.Answered.{IsTextIn, WritesFor}
use Rattle.ncc_answers.specs.declared.work.Work.{Work}
use Rattle.ncc_answers.specs.declared.work.Work.TheVariants.{Check, Explain, List as Listing, Layout, Picture}

pub written : (work : Work) (bytes : List ℕ) (answer : Answer) (out : List ℕ) → answer ≢ Device → answer ≢ Memory → WritesFor work bytes answer out → IsTextIn work bytes answer out
written work bytes Device out here there w = absurd (here refl)
written work bytes Memory out here there w = absurd (there refl)
written (Check limit strict) bytes Passed out here there w = w
written (Check limit strict) bytes Refused out here there w = w
written (Explain limit strict wording) bytes Passed out here there w = w
written (Explain limit strict wording) bytes Refused out here there w = w
written (Listing limit style wording) bytes Passed out here there w = w
written (Listing limit style wording) bytes Refused out here there w = w
written (Layout limit wording) bytes Passed out here there w = w
written (Layout limit wording) bytes Refused out here there w = w
written (Picture limit) bytes Passed out here there w = w
written (Picture limit) bytes Refused out here there w = w
