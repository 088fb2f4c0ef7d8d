-- The text of a sheet, or of a refusal.
use Rattle.std.proofs.Common.{◌≡◌, ℕ, ◌<◌, Bool, true, false, cond, sym, List, [], ◌∷◌, ◌++◌, length, get_or, Option, Some, None, Result, Ok, Err, rules, refl, ap, subst, ◌∙◌, arith}
use Rattle.std.specs.Prelude.{IsErr, ◌&&◌}
use Rattle.ncc_values.specs.declared.xtype.XType.{XType}
use Rattle.ncc_values.specs.declared.xtype.XType.TheVariants.{Byte, Char, Short, Int, Float, Double, UByte, UShort, UInt, Int64, UInt64}
use Rattle.ncc_schema.specs.Device.{Puts}
use Rattle.ncc_schema.proofs.Writing.{puts_both}
use Rattle.ncc_schema.specs.declared.schema.Dim.{Dim}
use Rattle.ncc_schema.specs.declared.schema.Schema.{Schema}
use Rattle.ncc_schema.specs.declared.schema.Var.{Var}
use Rattle.ncc_layout.specs.Elements.{var_at}
use Rattle.ncc_layout.specs.declared.placed_var.PlacedVar.{PlacedVar}
use Rattle.ncc_lines.specs.Sends.{PutsFront, SendsAll}
use Rattle.ncc_lines.specs.declared.send_error.SendError.{SendError}
use Rattle.ncc_slab.specs.Refusals.{shape_fault, slab_fault}
use Rattle.ncc_slab.specs.declared.fault.SlabFault.{SlabFault}
use Rattle.ncc_slab.specs.declared.fault.SlabFault.TheVariants as faults
use Rattle.ncc_slab.specs.declared.slab.Slab.{Slab}
use Rattle.ncc_lines.specs.declared.style.FloatStyle.{FloatStyle}
use Rattle.ncc_csv.specs.Csv.{csv_text}
use Rattle.ncc_csv.specs.Named.{no_var}
use Rattle.ncc_csv.specs.Names.{names_text}
use Rattle.ncc_csv.specs.Sheets.{IsCause, sheet_or_line, SendsSheet}
use Rattle.ncc_csv.specs.Texts.{has_texts, text_names, text_sheet, printed_text}
use Rattle.ncc_csv.proofs.PartRows.{front_behind}

-- ---- the variable

-- a selection that isn't refused is of a variable that is there
pub in_vars : (vars : List PlacedVar) (n : ℕ) (s : Slab) → slab_fault vars n s ≡ None → n < length vars
in_vars vars n s none = search rules

-- and fits in its shape
pub shape_fits : (vars : List PlacedVar) (n : ℕ) (s : Slab) → slab_fault vars n s ≡ None → shape_fault (var_at vars n).shape s ≡ None
shape_fits vars n s none = search rules

-- its row of names is that of the schema
pub names_in_schema : (dims : List Dim) (x : Var) (s schema : Schema) (n : ℕ) → dims ≡ s.dims → x ≡ get_or s.vars n no_var → s ≡ schema → names_text dims x ≡ names_text schema.dims (get_or schema.vars n no_var)
names_in_schema dims x s schema n dims_are x_is same =
    ap (λ (d : List Dim). names_text d x) dims_are
    ∙ ap (names_text s.dims) x_is
    ∙ ap (λ (t : Schema). names_text t.dims (get_or t.vars n no_var)) same

-- the same without the last dimension
pub text_names_in_schema : (dims : List Dim) (x : Var) (s schema : Schema) (n : ℕ) → dims ≡ s.dims → x ≡ get_or s.vars n no_var → s ≡ schema → text_names dims x ≡ text_names schema.dims (get_or schema.vars n no_var)
text_names_in_schema dims x s schema n dims_are x_is same =
    ap (λ (d : List Dim). text_names d x) dims_are
    ∙ ap (text_names s.dims) x_is
    ∙ ap (λ (t : Schema). text_names t.dims (get_or t.vars n no_var)) same

-- ---- texts

-- they are those of chars with a dimension
pub texts_are : (t : XType) (lengths : List ℕ) → has_texts t lengths ≡ true → (t ≡ Char) × (0 < length lengths)
texts_are t [] e = absurd (cc)
texts_are Char (l ∷ lengths) e = (refl, omega arith)
texts_are Byte (l ∷ lengths) e = absurd (cc)
texts_are Short (l ∷ lengths) e = absurd (cc)
texts_are Int (l ∷ lengths) e = absurd (cc)
texts_are Float (l ∷ lengths) e = absurd (cc)
texts_are Double (l ∷ lengths) e = absurd (cc)
texts_are UByte (l ∷ lengths) e = absurd (cc)
texts_are UShort (l ∷ lengths) e = absurd (cc)
texts_are UInt (l ∷ lengths) e = absurd (cc)
texts_are Int64 (l ∷ lengths) e = absurd (cc)
texts_are UInt64 (l ∷ lengths) e = absurd (cc)

module _ (style : FloatStyle) (texts : Bool) (dims : List Dim) (var : Var) (file : List ℕ) (record_size : ℕ) (x : PlacedVar) (s : Slab) where
  pub printed_texts : (texts && has_texts x.xtype x.shape) ≡ true → text_sheet dims var file record_size x s ≡ printed_text style texts dims var file record_size x s
  printed_texts e = ap (λ (b : Bool). cond b (text_sheet dims var file record_size x s) (csv_text style dims var file record_size x s)) (sym e)

  pub printed_elements : (texts && has_texts x.xtype x.shape) ≡ false → csv_text style dims var file record_size x s ≡ printed_text style texts dims var file record_size x s
  printed_elements e = ap (λ (b : Bool). cond b (text_sheet dims var file record_size x s) (csv_text style dims var file record_size x s)) (sym e)

-- ---- refusals

pub cause_of : (cause : Option SlabFault) (f : SlabFault) → IsCause cause f → (f ≡ faults.Memory → ⊥) → cause ≡ Some f
cause_of cause faults.NoVariable is not = is
cause_of cause faults.RankMismatch is not = is
cause_of cause (faults.ZeroStride k) is not = is
cause_of cause (faults.Outside k) is not = is
cause_of cause faults.Device is not = absurd is
cause_of cause faults.Memory is not = absurd (not refl)

-- where memory was the cause there is no fault
pub not_memory : (cause : Option SlabFault) (f fault : SlabFault) → IsCause cause f → cause ≡ Some fault → f ≡ faults.Memory → ⊥
not_memory cause f fault is some memory =
    let none : cause ≡ None = subst (λ (g : SlabFault). IsCause cause g) memory is in cc (sym none ∙ some)

-- ---- what a failed call says

pub fails_sheet : (cause : Option SlabFault) (old new : Option (List ℕ)) (sheet : List ℕ) (result : Result Bool SendError) → IsErr result → PutsFront old new (sheet_or_line cause sheet) → SendsSheet cause old new sheet result
fails_sheet cause old new sheet (Ok b) e front = absurd (cc)
fails_sheet cause old new sheet (Err h) e front = front

-- a text goes out after another, or a front of it
pub sends_behind : (old mid new : Option (List ℕ)) (a b : List ℕ) (result : Result (Unit {0}) SendError) → Puts old mid a → SendsAll mid new b result → SendsAll old new (a ++ b) result
sends_behind old mid new a b (Ok u) puts sent = puts_both old mid new a b puts sent
sends_behind old mid new a b (Err e) puts front = front_behind old mid new (a ++ b) a b refl puts front
