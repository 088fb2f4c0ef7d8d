-- What several files come to, one after the other.
use Rattle.std.specs.Prelude.{◌≡◌, ◌⊎◌, ℕ, ◌+◌, ◌≤◌, List, [], ◌∷◌, ◌++◌, Option, Some, None, Result, Ok, Err}
use Rattle.ncc_values.specs.Failures.{last_count, Rose}
use Rattle.ncc_schema.specs.Device.{Puts}
use Rattle.ncc_values.specs.declared.failures.Device.{Device as Failure}
use Rattle.ncc_store.specs.declared.store.Store.{Ghosts}
use Rattle.ncc_check.specs.FromStore.{ReadsFew, calls_for}
use Rattle.ncc_answers.specs.Answers.{Texts, Writes}
use Rattle.ncc_engines.specs.Checking.{IsCheckText, IsFaultOf as IsCheckFault}
use Rattle.ncc_engines.specs.Listing.{IsListText, IsFaultOf as IsListFault}
use Rattle.ncc_answers.specs.declared.answer.Answer.{Answer}
use Rattle.ncc_answers.specs.declared.answer.Answer.TheVariants.{Passed, Refused, Device, Memory}
use Rattle.ncc_explain.specs.Explaining.{ExplainsInto, IsToldFault, IsToldText, ReadsTwice, calls_twice}
use Rattle.ncc_json.specs.declared.wording.Wording.TheVariants.{Members, Words}
use Rattle.ncc_listed.specs.Listed.{IsListedText, IsFaultOf as IsListedFault}
use Rattle.ncc_places.specs.Layouts.{IsLayoutText, IsFaultOf as IsLayoutFault}
use Rattle.ncc_picture.specs.Pictures.{IsPictureText, IsFaultOf as IsPictureFault}
use Rattle.ncc_answers.specs.Shown.{shown, worst, devices}
use Rattle.ncc_answers.specs.declared.form.Form.{Form}
use Rattle.ncc_answers.specs.declared.work.Work.{Work}
use Rattle.ncc_answers.specs.declared.work.Work.TheVariants.{Check, Explain, List as Listing, Layout, Picture}

-- ---- one file

-- which answers and texts are right of these bytes
abbrev pub TextsOf : Work → (bytes : List ℕ) → Texts
TextsOf (Check limit strict) bytes = IsCheckText bytes limit strict
TextsOf (Explain limit strict wording) bytes = IsToldText wording bytes limit strict
TextsOf (Listing limit style Words) bytes = IsListText bytes limit style
TextsOf (Listing limit style Members) bytes = IsListedText bytes limit style
TextsOf (Layout limit wording) bytes = IsLayoutText wording bytes limit
TextsOf (Picture limit) bytes = IsPictureText bytes limit

-- what went out, by the answer
abbrev pub WritesFor : Work → (bytes : List ℕ) → Answer → (out : List ℕ) → Type 0
WritesFor (Check limit strict) bytes answer out = Writes (IsCheckText bytes limit strict) answer out
WritesFor (Explain limit strict wording) bytes answer out = ExplainsInto wording bytes limit strict answer out
WritesFor (Listing limit style wording) bytes answer out = Writes (TextsOf (Listing limit style wording) bytes) answer out
WritesFor (Layout limit wording) bytes answer out = Writes (IsLayoutText wording bytes limit) answer out
WritesFor (Picture limit) bytes answer out = Writes (IsPictureText bytes limit) answer out

-- the line of the fault that these bytes have, or what is told of it
abbrev pub IsFaultIn : Work → (bytes : List ℕ) → (text : List ℕ) → Type 0
IsFaultIn (Check limit strict) bytes text = IsCheckFault bytes limit text
IsFaultIn (Explain limit strict wording) bytes text = IsToldFault wording bytes limit text
IsFaultIn (Listing limit style Words) bytes text = IsListFault bytes limit text
IsFaultIn (Listing limit style Members) bytes text = IsListedFault bytes limit text
IsFaultIn (Layout limit wording) bytes text = IsLayoutFault wording bytes limit text
IsFaultIn (Picture limit) bytes text = IsPictureFault bytes limit text

-- all of its text is in memory before any of it is sent
abbrev pub IsWhole : Work → Type 0
IsWhole (Check limit strict) = ⊥
IsWhole (Explain limit strict wording) = Unit {0}
IsWhole (Listing limit style Words) = ⊥
IsWhole (Listing limit style Members) = Unit {0}
IsWhole (Layout limit wording) = Unit {0}
IsWhole (Picture limit) = Unit {0}

-- how many bytes a header may have
abbrev pub limit_of : Work → ℕ
limit_of (Check limit strict) = limit
limit_of (Explain limit strict wording) = limit
limit_of (Listing limit style wording) = limit
limit_of (Layout limit wording) = limit
limit_of (Picture limit) = limit

-- the calls of the store: for a check in words, what may be the header may be read twice
abbrev pub calls_of : Work → (file : ℕ) → ℕ
calls_of (Check limit strict) file = calls_for file limit
calls_of (Explain limit strict wording) file = calls_twice file limit
calls_of (Listing limit style wording) file = calls_for file limit
calls_of (Layout limit wording) file = calls_for file limit
calls_of (Picture limit) file = calls_for file limit

-- how few reads there are, where few settle what the header is
abbrev pub ReadsFor : {S : Type 0} → Ghosts S → (old new : S) → Work → (bytes : List ℕ) → Type 0
ReadsFor g old new (Check limit strict) bytes = ReadsFew g old new bytes limit 1
ReadsFor g old new (Explain limit strict wording) bytes = ReadsTwice g old new bytes limit
ReadsFor g old new (Listing limit style wording) bytes = ReadsFew g old new bytes limit 1
ReadsFor g old new (Layout limit wording) bytes = ReadsFew g old new bytes limit 1
ReadsFor g old new (Picture limit) bytes = ReadsFew g old new bytes limit 1

-- an answer and its text; of a store that failed, or without memory, it is empty
abbrev pub IsTextIn : Work → (bytes : List ℕ) → Answer → (text : List ℕ) → Type 0
IsTextIn work b Passed text = TextsOf work b Passed text
IsTextIn work b Refused text = TextsOf work b Refused text
IsTextIn work b Device text = text ≡ []
IsTextIn work b Memory text = text ≡ []

-- the same by the bytes of a file, where it can be opened
abbrev pub IsTextAt : Work → (bytes : Option (List ℕ)) → Answer → (text : List ℕ) → Type 0
IsTextAt work (Some b) a text = IsTextIn work b a text
IsTextAt work None Passed text = ⊥
IsTextAt work None Refused text = ⊥
IsTextAt work None Device text = text ≡ []
IsTextAt work None Memory text = ⊥

-- which failures of the store an answer tells: Device only where its count rose, and no other where it changed
pub record TextFails (answer : Answer) (before after : ℕ) : Type 0 where
  pub device : answer ≡ Device → Rose before after
  pub quiet : (answer ≡ Device → ⊥) → after ≡ before

-- what is shown of a file
abbrev pub IsAnswered : Work → Form → (path : List ℕ) → (bytes : Option (List ℕ)) → Answer → (out : List ℕ) → Type 0
IsAnswered work form path bytes a out = (text : List ℕ) × IsTextAt work bytes a text × (out ≡ shown form path a text)

-- it went out, and this is the answer; or the output failed after a front of it
abbrev pub SendsOne : Work → Form → (path : List ℕ) → (bytes : Option (List ℕ)) → (before after : Option (List ℕ))
    → Result Answer Failure → Type 0
SendsOne work form path bytes before after (Ok a) =
    (out : List ℕ) × IsAnswered work form path bytes a out × Puts before after out
SendsOne work form path bytes before after (Err e) = (a : Answer) × (out : List ℕ) × (rest : List ℕ)
    × IsAnswered work form path bytes a (out ++ rest) × Puts before after out

-- ---- all files

-- an answer for each path, in order, and all that is shown
abbrev pub AreAnswered : (file : List ℕ → Option (List ℕ)) → Work → Form → (paths : List (List ℕ)) → (answers : List Answer)
    → (out : List ℕ) → Type 0
AreAnswered file work form [] [] out = out ≡ []
AreAnswered file work form [] (a ∷ answers) out = ⊥
AreAnswered file work form (p ∷ paths) [] out = ⊥
AreAnswered file work form (p ∷ paths) (a ∷ answers) out = (one : List ℕ) × (rest : List ℕ) × (out ≡ one ++ rest)
    × IsAnswered work form p (file p) a one × AreAnswered file work form paths answers rest

-- each answer that a device failed goes with a failure that was counted, or the count stands at its end
abbrev pub AreFewer : (answers : List Answer) → (old new : ℕ) → Type 0
AreFewer answers old new = (old + devices answers ≤ new) ⊎ (new ≡ last_count)

-- and without such an answer none was counted
pub record AreCounted (answers : List Answer) (old new : ℕ) : Type 0 where
  pub each : AreFewer answers old new
  pub none : devices answers ≡ 0 → new ≡ old

-- All of it went out, no path is left, and the answer is the worst. Or the output failed after a front of what is shown
-- of one of the files, after all of those before it, and those after it are left.
abbrev pub IsBatch : (file : List ℕ → Option (List ℕ)) → Work → Form → (paths left : List (List ℕ)) → (old new : ℕ)
    → (before after : Option (List ℕ)) → Result Answer Failure → Type 0
IsBatch file work form paths left old new before after (Ok answer) = (answers : List Answer) × (out : List ℕ)
    × AreAnswered file work form paths answers out × (left ≡ []) × (answer ≡ worst answers)
    × AreCounted answers old new × Puts before after out
IsBatch file work form paths left old new before after (Err e) = (done : List (List ℕ)) × (path : List ℕ)
    × (answers : List Answer) × (a : Answer) × (out : List ℕ) × (front : List ℕ) × (rest : List ℕ)
    × (paths ≡ done ++ path ∷ left) × AreAnswered file work form done answers out
    × IsAnswered work form path (file path) a (front ++ rest) × AreFewer answers old new × Puts before after (out ++ front)
