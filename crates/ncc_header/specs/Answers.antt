-- Which header an input begins with, or where it stops.
use Rattle.std.specs.Prelude.{◌≡◌, ℕ, ◌≤◌, ◌⊎◌, List, ◌++◌, length, map, drop, Option, Some, Result, Ok, Err}
use Rattle.ncc_header.specs.declared.fault.Fault.{Fault}
use Rattle.ncc_header.specs.declared.fault.HeaderError.{HeaderError}
use Rattle.ncc_header.specs.declared.fault.HeaderError.TheVariants as errors
use Rattle.ncc_schema.specs.declared.schema.Header.{Header}
use Rattle.ncc_values.specs.Failures.{Rose}
use Rattle.ncc_header.specs.Grammar.{read, stops}
use Rattle.ncc_schema.specs.Header.{IsHeader}
use Rattle.ncc_header.specs.Marks.{header_marks, header_begins}
use Rattle.ncc_schema.specs.Schema.{places_of}
use Rattle.ncc_header.specs.Fields.{header}

-- a front of the input, of at most limit bytes, is this header
pub record Begins (input : List ℕ) (limit : ℕ) (h : Header) : Type 0 where
  pub front : List ℕ
  pub rest : List ℕ
  pub joined : input ≡ front ++ rest
  pub is_header : IsHeader h.schema (places_of h.places) front
  pub begins : map (λ p. p.begin_at) h.places ≡ header_begins front
  pub marks : h.marks ≡ header_marks front
  pub long : h.length ≡ length front
  pub within : h.length ≤ limit

-- the input has no header within the limit: reading it field by field stops with this fault
abbrev pub Stops : (input : List ℕ) (limit : ℕ) → Fault → Type 0
Stops input limit f = read header limit 0 input ≡ stops f.offset f.kind

-- an answer about an input, unless memory was refused
abbrev pub Answers : (input : List ℕ) (limit : ℕ) → Result Header HeaderError → Type 0
Answers input limit (Ok h) = Begins input limit h
Answers input limit (Err (errors.Fault f)) = Stops input limit f
Answers input limit (Err errors.Device) = ⊥
Answers input limit (Err errors.Memory) = Unit {0}

-- the same about an input that comes from a source, which may fail
abbrev pub AnswersOf : (input : List ℕ) (limit : ℕ) → Result Header HeaderError → Type 0
AnswersOf input limit (Err errors.Device) = Unit {0}
AnswersOf input limit result = Answers input limit result

-- what is left of a source that had the input, once exactly this header was read
abbrev pub IsLeft : (left : Option (List ℕ)) (input : List ℕ) → Header → Type 0
IsLeft left input h = left ≡ Some (drop h.length input)

-- this answer, unless memory was refused
abbrev pub OrMemory : Result Header HeaderError → Result Header HeaderError → Type 0
OrMemory result answer = (result ≡ answer) ⊎ (result ≡ Err errors.Memory)

-- an answer that the device failed goes with a count of failures that rose, and no other answer does
abbrev pub CountsAs : {T : Type 0} → (old new : ℕ) → Result T HeaderError → Type 0
CountsAs old new (Err errors.Device) = Rose old new
CountsAs old new result = new ≡ old
