-- What `ncc csv` sends of a selection of an open file: its names and rows, or the line of its refusal.
use Rattle.std.specs.Prelude.{◌≡◌, ◌⊎◌, ℕ, Bool, Option, Some, None, Result, Ok, Err, List, get_or}
use Rattle.ncc_values.specs.Failures.{Rose}
use Rattle.ncc_schema.specs.Device.{Puts}
use Rattle.ncc_schema.specs.declared.schema.Schema.{Schema}
use Rattle.ncc_layout.specs.Elements.{var_at}
use Rattle.ncc_layout.specs.Placed.{record_size_of_file, vars_of}
use Rattle.ncc_layout.specs.declared.placed_file.Placed.{Placed}
use Rattle.ncc_layout.specs.declared.placed_var.PlacedVar.{PlacedVar}
use Rattle.ncc_lines.specs.Sends.{PutsFront}
use Rattle.ncc_lines.specs.declared.send_error.SendError.{SendError}
use Rattle.ncc_lines.specs.declared.send_error.SendError.TheVariants as send_errors
use Rattle.ncc_slab.specs.declared.fault.SlabFault.{SlabFault}
use Rattle.ncc_slab.specs.declared.fault.SlabFault.TheVariants as faults
use Rattle.ncc_slab.specs.declared.slab.Slab.{Slab}
use Rattle.ncc_slab.specs.Selected.{part_of}
use Rattle.ncc_lines.specs.declared.style.FloatStyle.{FloatStyle}
use Rattle.ncc_csv.specs.Csv.{rows_text}
use Rattle.ncc_csv.specs.Named.{no_var}
use Rattle.ncc_csv.specs.Refusals.{refused_line}
use Rattle.ncc_csv.specs.Texts.{printed_text}

-- the names and the rows of a selection of the variable with this number, with or without texts
abbrev pub sheet_text : FloatStyle → (texts : Bool) → (bytes : List ℕ) → Schema → Placed → (number : ℕ) → Slab → List ℕ
sheet_text style texts bytes schema placed n s =
    printed_text style texts schema.dims (get_or schema.vars n no_var) bytes (record_size_of_file placed) (var_at (vars_of placed) n) s

-- those, or the line of the selection's fault
abbrev pub sheet_or_line : Option SlabFault → (sheet : List ℕ) → List ℕ
sheet_or_line None sheet = sheet
sheet_or_line (Some f) sheet = refused_line f

-- all of it went out, and the answer is whether it is the sheet; or a front of it
abbrev pub SendsSheet : Option SlabFault → (old new : Option (List ℕ)) → (sheet : List ℕ) → Result Bool SendError → Type 0
SendsSheet fault old new sheet (Ok b) = Puts old new (sheet_or_line fault sheet)
SendsSheet fault old new sheet (Err e) = PutsFront old new (sheet_or_line fault sheet)

-- the rows of so many elements of a selection, after the first ones
abbrev pub part_rows : FloatStyle → (file : List ℕ) → (record_size : ℕ) → PlacedVar → Slab → (first count : ℕ) → List ℕ
part_rows style file record_size x s first n = rows_text style file record_size x (part_of s first n)

-- the rows of the next elements went out, and the answer is how many; or a front of those of all that are left
abbrev pub SendsNext : (rows : (count : ℕ) → List ℕ) → (left : ℕ) → (old new : Option (List ℕ)) → Result ℕ SendError → Type 0
SendsNext rows left old new (Ok n) = Puts old new (rows n)
SendsNext rows left old new (Err e) = PutsFront old new (rows left)

-- why nothing was selected: the selection's fault, or want of memory where it has none
abbrev pub IsCause : (cause : Option SlabFault) → SlabFault → Type 0
IsCause cause faults.Device = ⊥
IsCause cause faults.Memory = cause ≡ None
IsCause cause fault = cause ≡ Some fault

-- a call over one device: Device is answered exactly where a failure of it was counted
abbrev pub BlamesOne : {A : Type 0} → (old new : ℕ) → Result A SendError → Type 0
BlamesOne old new (Err send_errors.Device) = Rose old new
BlamesOne old new result = new ≡ old

-- a call over a store and a sink: Device is answered exactly where a failure of one of them was counted
abbrev pub BlamesEither : {A : Type 0} → (store_old store_new sink_old sink_new : ℕ) → Result A SendError → Type 0
BlamesEither s t k l (Err send_errors.Device) = (Rose s t × (l ≡ k)) ⊎ ((t ≡ s) × Rose k l)
BlamesEither s t k l result = (t ≡ s) × (l ≡ k)
