-- What the words of a command line ask for.
use Rattle.std.specs.Prelude.{◌≡◌, ℕ, Bool, true, false, List, Some, IsSome, None, codes}
use Rattle.clap.specs.declared.parser.matches.ArgMatches.{ArgMatches}
use Rattle.ncc_values.specs.declared.version.Version.TheVariants.{V1, V2, V5}
use Rattle.ncc_lines.specs.declared.style.FloatStyle.{FloatStyle}
use Rattle.ncc_json.specs.declared.wording.Wording.{Wording}
use Rattle.ncc_json.specs.declared.wording.Wording.TheVariants as wordings
use Rattle.ncc_answers.specs.declared.form.Form.{Form}
use Rattle.ncc_answers.specs.declared.form.Form.TheVariants.{Brief, Lines, Object}
use Rattle.ncc_answers.specs.declared.work.Work.{Work}
use Rattle.ncc_answers.specs.declared.work.Work.TheVariants.{Check, Explain, Layout, List as ListWork, Picture}
use Rattle.ncc_tasks.specs.Given.{GivesFlag, GivesList, GivesNumber, GivesStyle, GivesWording, given, word_or_none}
use Rattle.ncc_tasks.specs.Words.{bytes_named}
use Rattle.ncc_tasks.specs.declared.task.Converting.{Converting}
use Rattle.ncc_tasks.specs.declared.task.Extending.{Extending}
use Rattle.ncc_tasks.specs.declared.task.Selecting.{Selecting}
use Rattle.ncc_tasks.specs.declared.task.Task.{Task}
use Rattle.ncc_tasks.specs.declared.task.Task.TheVariants as tasks
use Rattle.ncc_tasks.specs.declared.words.Words.{Words}

-- the bytes of an argument's word
abbrev pub bytes_given : Words → ArgMatches → (id : List ℕ) → List ℕ
bytes_given line words id = bytes_named line (word_or_none (given words id))

-- a selection
pub record Selects (line : Words) (words : ArgMatches) (s : Selecting) : Type 0 where
  pub file : s.file.now ≡ bytes_given line words (codes "FILE")
  pub variable : s.variable.now ≡ bytes_given line words (codes "VAR")
  pub start : GivesList (given words (codes "start")) s.pick.start
  pub count : GivesList (given words (codes "count")) s.pick.count
  pub stride : GivesList (given words (codes "stride")) s.pick.stride
  pub style : GivesStyle words s.style
  pub texts : GivesFlag words (codes "text") s.texts

-- records more
pub record Extends (line : Words) (words : ArgMatches) (e : Extending) : Type 0 where
  pub file : e.file.now ≡ bytes_given line words (codes "FILE")
  pub more : GivesNumber words (codes "N") 0 e.more

-- a new file
pub record Converts (line : Words) (words : ArgMatches) (c : Converting) : Type 0 where
  pub from : c.from.now ≡ bytes_given line words (codes "IN")
  pub to : c.to.now ≡ bytes_given line words (codes "OUT")
  pub one : given words (codes "to") ≡ Some (codes "1") → c.version ≡ V1
  pub two : given words (codes "to") ≡ Some (codes "2") → c.version ≡ V2
  pub five : given words (codes "to") ≡ Some (codes "5") → c.version ≡ V5

-- ---- what is asked of files, with so many bytes of header where the words don't say

-- a check: as an object, in words, or in lines
abbrev pub ChecksAs : (limit : ℕ) → ArgMatches → Work → Type 0
ChecksAs limit words work = (most : ℕ) × (strict : Bool) × (told : Bool) × (members : Bool)
    × GivesNumber words (codes "max-header") limit most × GivesFlag words (codes "strict") strict
    × GivesFlag words (codes "explain") told × GivesFlag words (codes "json") members
    × (members ≡ true → work ≡ Explain most strict wordings.Members)
    × (members ≡ false → told ≡ true → work ≡ Explain most strict wordings.Words)
    × (members ≡ false → told ≡ false → work ≡ Check most strict)

-- a layout in words: as an object, or in lines
abbrev pub TellsAs : (limit : ℕ) → ArgMatches → Work → Type 0
TellsAs limit words work = (wording : Wording) × GivesWording words wording × (work ≡ Layout limit wording)

-- what the headers say: as an object, or in lines, and how floats are shown
abbrev pub ListsAs : (limit : ℕ) → ArgMatches → Work → Type 0
ListsAs limit words work = (style : FloatStyle) × (wording : Wording) × GivesStyle words style × GivesWording words wording
    × (work ≡ ListWork limit style wording)

-- a layout: as a picture where a file for one is given, or else in words
abbrev pub LaysOutAs : (limit : ℕ) → ArgMatches → Work → Type 0
LaysOutAs limit words work = (IsSome (given words (codes "svg")) → work ≡ Picture limit)
    × (given words (codes "svg") ≡ None → TellsAs limit words work)

-- how a check of a file is shown
abbrev pub ShowsCheck : ArgMatches → Form → Type 0
ShowsCheck words form = (members : Bool) × (brief : Bool) × GivesFlag words (codes "json") members
    × GivesFlag words (codes "brief") brief × (members ≡ true → form ≡ Object)
    × (members ≡ false → brief ≡ true → form ≡ Brief) × (members ≡ false → brief ≡ false → form ≡ Lines)

-- how a layout of a file is shown, and what its header says
abbrev pub ShowsAnswer : ArgMatches → Form → Type 0
ShowsAnswer words form = (members : Bool) × GivesFlag words (codes "json") members
    × (members ≡ true → form ≡ Object) × (members ≡ false → form ≡ Lines)

pub record Answers (limit : ℕ) (command : List ℕ) (words : ArgMatches) (work : Work) (form : Form) : Type 0 where
  pub check : command ≡ codes "check" → ChecksAs limit words work
  pub layout : command ≡ codes "layout" → LaysOutAs limit words work
  pub list : (command ≡ codes "check" → ⊥) → (command ≡ codes "layout" → ⊥) → ListsAs limit words work
  pub check_shown : command ≡ codes "check" → ShowsCheck words form
  pub others_shown : (command ≡ codes "check" → ⊥) → ShowsAnswer words form

-- what a command's words ask for
abbrev pub AsksFor : Words → (command : List ℕ) → ArgMatches → Task → Type 0
AsksFor line command words (tasks.Answer work form) = (command ≡ codes "csv" → ⊥) × (command ≡ codes "extend" → ⊥)
    × (command ≡ codes "convert" → ⊥) × Answers 67108864 command words work form
AsksFor line command words (tasks.Select s) = (command ≡ codes "csv") × Selects line words s
AsksFor line command words (tasks.Extend e) = (command ≡ codes "extend") × Extends line words e
AsksFor line command words (tasks.Convert c) = (command ≡ codes "convert") × Converts line words c
