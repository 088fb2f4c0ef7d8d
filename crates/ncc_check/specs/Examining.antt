-- What is found of a file, with its header, whether it passes or not.
use Rattle.std.specs.Prelude.{◌≡◌, ℕ, List, length, Option, Some, None, Result, Ok, Err}
use Rattle.ncc_schema.specs.declared.schema.Header.{Header}
use Rattle.ncc_header.specs.Answers.{Begins, Stops}
use Rattle.ncc_layout.specs.declared.fault.LayoutFaultKind.{LayoutFaultKind}
use Rattle.ncc_layout.specs.declared.fault.LayoutFaultKind.TheVariants.{TooLarge}
use Rattle.ncc_layout.specs.declared.size_list.Sizes.{Sizes}
use Rattle.ncc_layout.specs.Sizes.{AreSizes}
use Rattle.ncc_check.specs.declared.checking.Checked.{Checked}
use Rattle.ncc_check.specs.declared.examining.Unplaced.{Unplaced}
use Rattle.ncc_check.specs.declared.examining.Unsound.{Unsound}
use Rattle.ncc_check.specs.declared.examining.Unsound.TheVariants as of
use Rattle.ncc_check.specs.declared.fault.FileFault.TheVariants.{Header as OfHeader, Layout as OfLayout}
use Rattle.ncc_check.specs.declared.fault.Refusal.{Refusal}
use Rattle.ncc_check.specs.declared.fault.Refusal.TheVariants as refusals
use Rattle.ncc_check.specs.Checks.{RefusalCounts, Reports}
use Rattle.ncc_check.specs.Faults.{HasLayoutFault}
use Rattle.ncc_check.specs.FromStore.{IsBegun}
use Rattle.ncc_check.specs.Passes.{PassesWith}

-- ---- why a file doesn't pass

-- these are the sizes of its variables, or a variable is too large
abbrev pub HasSizes : Header → LayoutFaultKind → Option Sizes → Type 0
HasSizes h kind (Some z) = AreSizes h.schema z
HasSizes h kind None = kind ≡ TooLarge

-- the same of a refusal that is a layout fault
abbrev pub KnowsSizes : Header → Refusal → Option Sizes → Type 0
KnowsSizes h (refusals.Fault (OfLayout f)) sizes = HasSizes h f.kind sizes
KnowsSizes h _ sizes = Unit {0}

-- this is the first layout fault of the header in a file of this length
pub record FailsIn (h : Header) (file : ℕ) (x : Unplaced) : Type 0 where
  pub header_is : x.header ≡ h
  pub length_is : x.file_length ≡ file
  pub fault : HasLayoutFault h file x.fault
  pub sizes : HasSizes h x.fault.kind x.sizes

-- why a file of this length with this header doesn't pass, unless memory was refused
abbrev pub RefusesLayout : Header → (file : ℕ) → Unsound → Type 0
RefusesLayout h file (of.Header f) = ⊥
RefusesLayout h file (of.Layout x) = FailsIn h file x
RefusesLayout h file of.Device = ⊥
RefusesLayout h file of.Memory = Unit {0}

-- why the bytes don't pass, unless the device failed or memory was refused
abbrev pub IsUnsound : (bytes : List ℕ) (limit : ℕ) → Unsound → Type 0
IsUnsound bytes limit (of.Header f) = Stops bytes limit f
IsUnsound bytes limit (of.Layout x) = Begins bytes limit x.header × FailsIn x.header (length bytes) x
IsUnsound bytes limit of.Device = Unit {0}
IsUnsound bytes limit of.Memory = Unit {0}

-- of a layout that fails the header was read, and the sizes are those of its variables
abbrev pub IsRead : Unsound → Type 0
IsRead (of.Layout x) = IsBegun x.header × HasSizes x.header x.fault.kind x.sizes
IsRead _ = Unit {0}

-- ---- as a refusal, and as one of a header

-- what is left of it without the header
abbrev pub refusal_from : Unsound → Refusal
refusal_from (of.Header f) = refusals.Fault (OfHeader f)
refusal_from (of.Layout x) = refusals.Fault (OfLayout x.fault)
refusal_from of.Device = refusals.Device
refusal_from of.Memory = refusals.Memory

-- what a header that isn't read says of a file
abbrev pub unread : Refusal → Unsound
unread (refusals.Fault (OfHeader f)) = of.Header f
unread (refusals.Fault (OfLayout f)) = of.Memory
unread refusals.Device = of.Device
unread refusals.Memory = of.Memory

-- an answer that the device failed goes with a count of failures that rose, and no other does
abbrev pub UnsoundCounts : {T : Type 0} → (old new : ℕ) → Result T Unsound → Type 0
UnsoundCounts old new (Ok x) = new ≡ old
UnsoundCounts old new (Err e) = RefusalCounts old new (refusal_from e)

-- ---- what was found

-- the bytes pass with this header, and this is their report
pub record IsChecked (bytes : List ℕ) (limit : ℕ) (x : Checked) : Type 0 where
  pub passes : PassesWith bytes limit x.header
  pub reports : Reports x.header (length bytes) x.report
  pub sizes : AreSizes x.header.schema x.sizes

-- what was found of the bytes
abbrev pub Examines : (bytes : List ℕ) (limit : ℕ) → Result Checked Unsound → Type 0
Examines bytes limit (Ok x) = IsChecked bytes limit x
Examines bytes limit (Err e) = IsUnsound bytes limit e

-- the header was read, the sizes are those of its variables, and the report is one of a file with that header
abbrev pub AreBegun : Result Checked Unsound → Type 0
AreBegun (Ok x) = IsBegun x.header × AreSizes x.header.schema x.sizes × ((file : ℕ) × Reports x.header file x.report)
AreBegun (Err e) = IsRead e
