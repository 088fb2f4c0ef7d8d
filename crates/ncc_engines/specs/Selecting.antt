-- What the csv engine writes.
use Rattle.std.specs.Prelude.{◌≡◌, ◌⊎◌, ◌+◌, ◌*◌, ◌≤◌, max, ℕ, Bool, true, false, Option, Some, None, Result, Ok, Err, List, [], length, get_or}
use Rattle.ncc_values.specs.XType.{size_of}
use Rattle.ncc_store.specs.declared.store.Store.{Ghosts}
use Rattle.ncc_schema.specs.declared.schema.Header.{Header}
use Rattle.ncc_schema.specs.declared.schema.Schema.{Schema}
use Rattle.ncc_schema.specs.Schema.{places_of as placement}
use Rattle.ncc_layout.specs.Elements.{var_at, placed_vars}
use Rattle.ncc_layout.specs.Placed.{record_size_of_file, vars_of}
use Rattle.ncc_layout.specs.Sizes.{record_size_of}
use Rattle.ncc_layout.specs.declared.placed_file.Placed.{Placed}
use Rattle.ncc_layout.specs.declared.placed_var.PlacedVar.{PlacedVar}
use Rattle.ncc_check.specs.FromStore.{SettledBy}
use Rattle.ncc_check.specs.Passes.{Passes, PassesWith}
use Rattle.ncc_lines.specs.declared.send_error.SendError.{SendError}
use Rattle.ncc_lines.specs.declared.style.FloatStyle.{FloatStyle}
use Rattle.ncc_lines.specs.declared.send_error.SendError.TheVariants as send_errors
use Rattle.ncc_slab.specs.Refusals.{slab_fault}
use Rattle.ncc_slab.specs.Selected.{places_of}
use Rattle.ncc_slab.specs.Stretches.{all_stretches}
use Rattle.ncc_slab.specs.declared.fault.SlabFault.{SlabFault}
use Rattle.ncc_slab.specs.declared.fault.SlabFault.TheVariants.{NoVariable}
use Rattle.ncc_slab.specs.declared.slab.Slab.{Slab}
use Rattle.ncc_csv.specs.Named.{IsFirstNamed, no_var}
use Rattle.ncc_csv.specs.Picks.{picked}
use Rattle.ncc_csv.specs.Sheets.{sheet_or_line}
use Rattle.ncc_csv.specs.Texts.{printed_text}
use Rattle.ncc_csv.specs.declared.pick.Pick.{Pick}
use Rattle.ncc_answers.specs.declared.answer.Answer.{Answer}
use Rattle.ncc_answers.specs.declared.answer.Answer.TheVariants.{Passed, Refused, Device, Memory}
use Rattle.ncc_answers.specs.Answers.{Writes}
use Rattle.ncc_engines.specs.Checking.{IsFaultOf}

-- ---- a file

-- its bytes, what its header says, and its variables at their places
pub record Contents : Type 0 where
  pub bytes : List ℕ
  pub schema : Schema
  pub vars : List PlacedVar
  pub record_size : ℕ

-- of bytes with this header
abbrev pub contents_of : (bytes : List ℕ) → Header → Contents
contents_of b h = record { bytes = b; schema = h.schema; vars = placed_vars h.schema (placement h.places) (length b); record_size = record_size_of h.schema }

-- of an open file
abbrev pub contents_in : (bytes : List ℕ) → Schema → Placed → Contents
contents_in b s p = record { bytes = b; schema = s; vars = vars_of p; record_size = record_size_of_file p }

-- ---- a selection of it

-- what is picked of the variable with this number
abbrev pub picked_in : Contents → (number : ℕ) → Pick → Slab
picked_in c n p = picked (var_at c.vars n).shape p

-- why nothing is selected, also where no variable is named; None where something is
abbrev pub refusal : Contents → Pick → (number : Option ℕ) → Option SlabFault
refusal c p None = Some NoVariable
refusal c p (Some n) = slab_fault c.vars n (picked_in c n p)

-- the names and the rows, with floats in this style, with or without texts
abbrev pub table : Contents → Pick → FloatStyle → (texts : Bool) → (number : Option ℕ) → List ℕ
table c p style texts None = []
table c p style texts (Some n) =
    printed_text style texts c.schema.dims (get_or c.schema.vars n no_var) c.bytes c.record_size (var_at c.vars n) (picked_in c n p)

-- how many calls of the store the values take: one for each stretch of adjoining elements in a part
abbrev pub value_calls : Contents → Pick → (number : Option ℕ) → ℕ
value_calls c p None = 0
value_calls c p (Some n) = all_stretches (size_of (var_at c.vars n).xtype) (places_of c.record_size (var_at c.vars n) (picked_in c n p))

abbrev pub answer_to : (refusal : Option SlabFault) → Answer
answer_to None = Passed
answer_to (Some f) = Refused

-- of the first variable of this name: names and rows where it is selected, else the line of the refusal
pub record IsSelection (c : Contents) (name : List ℕ) (p : Pick) (style : FloatStyle) (texts : Bool) (answer : Answer) (text : List ℕ) : Type 0 where
  pub number : Option ℕ
  pub named : IsFirstNamed c.schema.vars name number
  pub answer_is : answer ≡ answer_to (refusal c p number)
  pub text_is : text ≡ sheet_or_line (refusal c p number) (table c p style texts number)

-- the answer, where names and rows were sent (true) or the line of a refusal
abbrev pub sheet_answer : Result Bool SendError → Answer
sheet_answer (Ok true) = Passed
sheet_answer (Ok false) = Refused
sheet_answer (Err send_errors.Device) = Device
sheet_answer (Err send_errors.Memory) = Memory

-- ---- of bytes

-- bytes that pass, and the text of their selection
abbrev pub IsSelectionOf : (bytes : List ℕ) (limit : ℕ) (name : List ℕ) → Pick → FloatStyle → (texts : Bool) → Answer → (text : List ℕ) → Type 0
IsSelectionOf b limit name p style texts answer text = (h : Header) × PassesWith b limit h × IsSelection (contents_of b h) name p style texts answer text

abbrev pub IsCsvText : (bytes : List ℕ) (limit : ℕ) (name : List ℕ) → Pick → FloatStyle → (texts : Bool) → Answer → (text : List ℕ) → Type 0
IsCsvText b limit name p style texts Passed text = IsSelectionOf b limit name p style texts Passed text
IsCsvText b limit name p style texts Refused text = IsSelectionOf b limit name p style texts Refused text ⊎ IsFaultOf b limit text
IsCsvText b limit name p style texts Device text = ⊥
IsCsvText b limit name p style texts Memory text = ⊥

-- what went out, by the answer
abbrev pub SelectsInto : (bytes : List ℕ) (limit : ℕ) (name : List ℕ) → Pick → FloatStyle → (texts : Bool) → Answer → (out : List ℕ) → Type 0
SelectsInto b limit name p style texts answer out = Writes (IsCsvText b limit name p style texts) answer out

-- ---- the calls of a store

-- Where the store tells its bytes, and so many calls are enough for a check: a file that passes takes those for the
-- values of the selection besides, where it isn't refused; any other file none more, and is read no further.
pub record SelectsByFew {S : Type 0} (g : Ghosts S) (store after : S) (limit : ℕ) (name : List ℕ) (p : Pick) (checked : ℕ) : Type 0 where
  pub passed : (h : Header) → PassesWith (g.bytes store) limit h → (number : Option ℕ) → IsFirstNamed h.schema.vars name number
      → g.calls after ≤ g.calls store + checked + value_calls (contents_of (g.bytes store) h) p number
  pub refused : (h : Header) → PassesWith (g.bytes store) limit h → (number : Option ℕ) → IsFirstNamed h.schema.vars name number
      → (fault : SlabFault) → refusal (contents_of (g.bytes store) h) p number ≡ Some fault
      → g.calls after ≤ g.calls store + checked
  pub stopped : (Passes (g.bytes store) limit → ⊥) → g.calls after ≤ g.calls store + checked
  pub stopped_at : (Passes (g.bytes store) limit → ⊥) → (reads : ℕ) → SettledBy (g.bytes store) limit reads
      → g.reach after ≤ max (g.reach store) (reads * 65536)
