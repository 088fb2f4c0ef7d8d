-- A variable and a selection by a caller's numbers, and what is told of their places.
use Rattle.std.specs.Prelude.{◌≡◌, ℕ, ◌<◌, ◌≤◌, ◌⊎◌, if◌then◌else◌, List, [], ◌∷◌, ◌++◌, length, take, drop, Result, Ok, Err, IfErr}
use Rattle.ncc_values.specs.XType.{code_of, size_of}
use Rattle.ncc_values.specs.declared.xtype.XType.{XType}
use Rattle.ncc_layout.specs.declared.placed_var.PlacedVar.{PlacedVar}
use Rattle.ncc_slab.specs.declared.fault.SlabFault.TheVariants.{Memory}
use Rattle.ncc_slab.specs.declared.slab.Slab.{Slab}
use Rattle.ncc_slab.specs.Selected.{places_of}
use Rattle.ncc_slab.specs.Selection.{selected_count}
use Rattle.ncc_ranges.specs.declared.fault.RangeFault.{RangeFault}
use Rattle.ncc_ranges.specs.declared.fault.RangeFault.TheVariants.{Refused, NotInFile}
use Rattle.ncc_ranges.specs.declared.runs.Stretch.{Stretch}
use Rattle.ncc_ranges.specs.declared.steps.Steps.{Steps}
use Rattle.ncc_ranges.specs.Runs.{AreLongest, AreSome, places_in}
use Rattle.ncc_ranges.specs.Steps.{EndBy, FindsSteps, Fits, RangesAs}
use Rattle.ncc_c.specs.declared.outcome.Outcome.{Outcome}
use Rattle.ncc_c.specs.declared.rows.VarRow.{VarRow}
use Rattle.ncc_c.specs.declared.stepping.Stepped.{Stepped}
use Rattle.ncc_c.specs.declared.stretching.Stretched.{Stretched}
use Rattle.ncc_c.specs.Outcomes.{memory, misused, no_room, of_range, passes}

-- ---- by numbers

abbrev pub slab_by : (start count stride : List ℕ) → Slab
slab_by start count stride = record { start = start; count = count; stride = stride }

-- no type has this code
abbrev pub NoTypeOf : (code : ℕ) → Type 0
NoTypeOf code = (t : XType) → code_of t ≡ code → ⊥

-- the row is that of this variable, with these lengths
pub record IsVarOf (row : VarRow) (shape : List ℕ) (x : PlacedVar) : Type 0 where
  pub type_is : code_of x.xtype ≡ row.xtype
  pub shape_is : x.shape ≡ shape
  pub rank_is : row.rank ≡ length shape
  pub begin_is : x.extent.begin ≡ row.begin
  pub record_is : row.is_record ≡ (if x.extent.is_record then 1 else 0)

-- the rows are those of these variables
abbrev pub AreVars : List VarRow → List PlacedVar → Type 0
AreVars [] [] = Unit {0}
AreVars (r ∷ rows) (x ∷ vars) = IsVarOf r x.shape x × AreVars rows vars
AreVars _ _ = ⊥

-- the same type, lengths, begin and kind: the places of a selection depend on nothing else
pub record IsSameVar (x y : PlacedVar) : Type 0 where
  pub xtype : x.xtype ≡ y.xtype
  pub shape : x.shape ≡ y.shape
  pub begin : x.extent.begin ≡ y.extent.begin
  pub is_record : x.extent.is_record ≡ y.extent.is_record

-- of no variable
abbrev pub NoVarOf : VarRow → List ℕ → Type 0
NoVarOf row shape = (x : PlacedVar) → IsVarOf row shape x → ⊥

abbrev pub VarAs : VarRow → List ℕ → Result PlacedVar RangeFault → Type 0
VarAs row shape (Ok x) = IsVarOf row shape x
VarAs row shape (Err NotInFile) = NoVarOf row shape
VarAs row shape (Err (Refused Memory)) = Unit {0}
VarAs row shape (Err (Refused f)) = ⊥

-- what P tells of the variable with this row, or M and there is none, or only that memory was refused, which N says
abbrev pub OfRow : VarRow → (shape : List ℕ) → (P : PlacedVar → Type 0) → (M N : Type 0) → Type 0
OfRow row shape P M N = ((x : PlacedVar) × IsVarOf row shape x × P x) ⊎ ((M × NoVarOf row shape) ⊎ N)

-- ---- steps

abbrev pub no_steps : Outcome → Stepped
no_steps o = record { outcome = o; base = 0; size = 0; total = 0 }

-- the steps are told, or there is no room for them
abbrev pub PutsSteps : (x : PlacedVar) → Result Steps RangeFault → (out : List ℕ) → Stepped → Type 0
PutsSteps x (Ok t) out a =
    ((a ≡ record { outcome = passes; base = t.base; size = size_of x.xtype; total = t.total })
    × (take (length t.steps.items) out ≡ t.steps.items))
    ⊎ ((a ≡ no_steps no_room) × (length out < length t.steps.items))
PutsSteps x (Err e) out a = a ≡ no_steps (of_range e)

pub record FindsStepped (record_size file : ℕ) (s : Slab) (out : List ℕ) (a : Stepped) (x : PlacedVar) : Type 0 where
  pub answer : Result Steps RangeFault
  pub ranges : RangesAs record_size file x s (FindsSteps record_size file x s) answer
  pub told : PutsSteps x answer out a

abbrev pub TellsSteps : VarRow → (shape : List ℕ) → (record_size file : ℕ) → Slab → (out : List ℕ) → Stepped → Type 0
TellsSteps row shape record_size file s out a =
    OfRow row shape (FindsStepped record_size file s out a) (a ≡ no_steps misused) (a ≡ no_steps memory)

-- ---- stretches

abbrev pub no_stretches : Outcome → Stretched
no_stretches o = record { outcome = o; size = 0; total = 0; next = 0; written = 0 }

-- The places of the selected elements after the first ones are those of the stretches that were written, each of some
-- elements and as long as it can be, and then those from the element `next` on, of which there is none where not all of
-- the room was taken. All elements end in the file.
pub record HasStretches (record_size file : ℕ) (x : PlacedVar) (s : Slab) (first : ℕ) (out : List Stretch) (a : Stretched) : Type 0 where
  pub outcome_is : a.outcome ≡ passes
  pub size_is : a.size ≡ size_of x.xtype
  pub total_is : a.total ≡ selected_count s
  pub most : a.written ≤ length out
  pub some : AreSome (take a.written out)
  pub longest : AreLongest a.size (drop a.next (places_of record_size x s)) (take a.written out)
  pub places : drop first (places_of record_size x s) ≡ places_in a.size (take a.written out) ++ drop a.next (places_of record_size x s)
  pub within : a.next ≤ a.total
  pub whole : a.written < length out → drop a.next (places_of record_size x s) ≡ []
  pub ends : EndBy file (size_of x.xtype) (places_of record_size x s)
  pub fits : Fits record_size file x s

pub record FindsStretched (record_size file : ℕ) (s : Slab) (first : ℕ) (out : List Stretch) (a : Stretched) (x : PlacedVar) : Type 0 where
  pub answer : Result (Unit {0}) RangeFault
  pub ranges : RangesAs record_size file x s (λ u. HasStretches record_size file x s first out a) answer
  pub told : IfErr answer (λ e. a ≡ no_stretches (of_range e))

abbrev pub TellsStretches : VarRow → (shape : List ℕ) → (record_size file : ℕ) → Slab → (first : ℕ) → (out : List Stretch) → Stretched → Type 0
TellsStretches row shape record_size file s first out a =
    OfRow row shape (FindsStretched record_size file s first out a) (a ≡ no_stretches misused) (a ≡ no_stretches memory)
