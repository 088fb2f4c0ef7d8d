-- The piece that a copy takes next, of the values of the file's dataset.
use Rattle.std.proofs.Common.{◌≡◌, ℕ, ◌+◌, ◌*◌, ◌<◌, ◌≤◌, Bool, IsTrue, List, ◌∷◌, ◌++◌, Option, Some, length, take, drop, sym, ap, subst, ◌∙◌, arith, append_assoc, length-append}
use Rattle.std.proofs.Math.Logic.{∥∥₁_elim}
use Rattle.std.proofs.Math.Seq.{drop-append-add}
use Rattle.std.proofs.Props.{props}
use Rattle.std.proofs.lemmas.List.{take-append-drop}
use Rattle.ncc_values.specs.Numbers.{IsBytes}
use Rattle.ncc_values.specs.Values.{bytes_of, values_of}
use Rattle.ncc_values.specs.XType.{size_of}
use Rattle.ncc_values.specs.declared.xtype.XType.{XType}
use Rattle.ncc_values.proofs.ValuesLemmas.{bytes-bytes_of, bytes_of-values_of}
use Rattle.ncc_schema.specs.declared.schema.Schema.{Schema}
use Rattle.ncc_layout.specs.declared.placed_file.Placed.{Placed}
use Rattle.ncc_layout.specs.declared.placed_var.PlacedVar.{PlacedVar}
use Rattle.ncc_layout.specs.Elements.{Inside, placed_with, var_at}
use Rattle.ncc_layout.specs.Placed.{record_size_of_file, vars_of}
use Rattle.ncc_layout.specs.Plans.{known}
use Rattle.ncc_layout.specs.Sizes.{slab}
use Rattle.ncc_check.specs.Checks.{StandsIn}
use Rattle.ncc_slab.specs.SlabPlaces.{slab_begin}
use Rattle.ncc_build.specs.Dataset.{Dataset, IsDataset, data_of}
use Rattle.ncc_write.specs.declared.writer.FileWriter.{FileWriter}
use Rattle.ncc_write.specs.Holds.{bytes_at, stored_at, value_at, vars_of as vars_of_dataset}
use Rattle.ncc_write.specs.Writer.{schema_in}
use Rattle.ncc_write.specs.Writing.{IsFront, IsWhole, WriterState, next_of}
use Rattle.ncc_write.proofs.FileSlabs.{read_there, slab_is_held}
use Rattle.ncc_write.proofs.NextPieces.{ComesFrom, comes_from}
use Rattle.ncc_write.proofs.Taking.{bytes_behind, bytes_first}
use Rattle.ncc_convert.specs.Copying.{Copies, Expects}
use Rattle.ncc_write.specs.Planned.{IsPlanned}
use Rattle.ncc_convert.specs.Found.{IsOf}
use Rattle.ncc_convert.proofs.Facing.{Faces, faces, planned_is}
use Rattle.ncc_convert.proofs.Planned.{many, places, vars_are}

-- ---- bytes

-- with the next bytes a front is a longer front
front_grows : (front whole piece : List ℕ) (m : ℕ) → IsFront front whole → piece ≡ take m (drop (length front) whole)
    → IsFront (front ++ piece) whole
front_grows front whole piece m (rest, joined) is =
    let none : length front ≡ length front + 0 = omega arith in
    let behind : drop (length front) whole ≡ rest =
    ap (drop (length front)) joined ∙ ap (λ (k : ℕ). drop k (front ++ rest)) none ∙ drop-append-add front rest 0 in
    let piece_is : piece ≡ take m rest = is ∙ ap (take m) behind in (
      drop m rest,
      joined ∙ ap (λ (l : List ℕ). front ++ l) (sym (take-append-drop m rest))
          ∙ sym (append_assoc front (take m rest) (drop m rest))
          ∙ ap (λ (l : List ℕ). front ++ l ++ drop m rest) (sym piece_is),
    )

-- ---- the next piece

module _ {W : Type 0} (b tells : Bool) (file : List ℕ) (s : Schema) (p : Placed) (start put : Option (List ℕ))
    (x : FileWriter W) (stands : ∥ StandsIn b file s p ∥₁) (planned : IsPlanned s p (schema_in x))
    (copies : Copies tells file p start put x) (var number left : ℕ) (next : Expects put x var number left)
    (d : Dataset) (is : IsDataset d) (of : IsOf file p copies.state.schema d)
    (room : slab_begin (record_size_of_file p) (var_at (vars_of p) var) number + (var_at (vars_of p) var).extent.slab
    ≤ length file) where
  abbrev w : WriterState
  w = copies.state

  abbrev f : Faces p w var number left
  f = faces b tells file s p start put x stands planned copies var number left next

  abbrev y : PlacedVar
  y = var_at (vars_of p) var

  abbrev at : ℕ
  at = slab_begin (record_size_of_file p) y number

  planned_w : IsPlanned s p w.schema
  planned_w = planned_is b tells file s p start put x stands planned copies

  same : d.schema ≡ w.schema
  same = of.schema_is

  from : ComesFrom d (drop (length w.taken) (data_of d)) f.n
  from = comes_from d w.taken f.n is
      (subst (λ (u : Schema). next_of u w.taken ≡ Some f.n) (sym same) f.next_is)
      (subst (λ (u : Schema). IsWhole u w.taken) (sym same) (copies.stands.whole copies.goes))

  below : f.n.slab.number < length d.schema.vars
  below = omega (
    arith,
    f.among.number_is,
    ap (λ (l : List _). length l) f.among.joined,
    length-append f.among.front (f.n.slab.var ∷ f.among.after),
    ap (λ (u : Schema). length u.vars) same,
  )

  abbrev IsHeld : PlacedVar → (number : ℕ) → Type 0
  IsHeld z r = slab_begin (record_size_of_file p) z r + z.extent.slab ≤ length file
      → bytes_at file (slab_begin (record_size_of_file p) z r) z.extent.slab ≡ bytes_of from.values

  held_by : (st : StandsIn b file s p) → IsHeld (var_at (vars_of p) f.n.slab.number) f.n.slab.in_record
  held_by st fits =
      let l = places b file s p w.schema planned_w st in
      let vars : vars_of p ≡ vars_of_dataset d l = vars_are b file s p w.schema planned_w st
      ∙ ap (λ (u : Schema). placed_with u l (known u.count)) (sym same) in
      subst (λ (vs : List PlacedVar). slab_begin (record_size_of_file p) (var_at vs f.n.slab.number) f.n.slab.in_record
      + (var_at vs f.n.slab.number).extent.slab ≤ length file
      → ((index : List ℕ) → Inside (var_at vs f.n.slab.number).shape index
      → stored_at file (record_size_of_file p) (var_at vs f.n.slab.number) index
      ≡ value_at d (var_at vs f.n.slab.number) f.n.slab.number index)
      → bytes_at file (slab_begin (record_size_of_file p) (var_at vs f.n.slab.number) f.n.slab.in_record)
      (var_at vs f.n.slab.number).extent.slab ≡ bytes_of from.values) (sym vars)
      (slab_is_held file (record_size_of_file p) d f.n.slab from.values from.has l
      (many b file s p w.schema planned_w st ∙ ap (λ (u : Schema). length u.vars) (sym same))) fits
      (λ index inside. of.values f.n.slab.number index below inside)

  held : bytes_at file at y.extent.slab ≡ bytes_of from.values
  held =
      ∥∥₁_elim stands (hlevel props) (λ (st : StandsIn b file s p).
      subst (λ (k : ℕ). IsHeld (var_at (vars_of p) k) number) (sym f.var_is)
      (subst (λ (r : ℕ). IsHeld (var_at (vars_of p) f.n.slab.number) r) (sym f.number_is) (held_by st)) room)

  offset_is : from.offset ≡ f.offset
  offset_is =
      let left_is : f.offset + f.n.left * size_of f.n.slab.var.xtype ≡ slab w.schema.dims f.n.slab.var =
      ap (λ (k : ℕ). f.offset + k * size_of f.n.slab.var.xtype) (sym f.left_is)
      ∙ ap (λ (t : XType). f.offset + left * size_of t) (sym f.xtype_is) ∙ f.left_are ∙ f.slab_is in
      omega (arith, from.left_are, left_is, ap (λ (u : Schema). slab u.dims f.n.slab.var) same)

  size_is : slab d.schema.dims f.n.slab.var ≡ y.extent.slab
  size_is = ap (λ (u : Schema). slab u.dims f.n.slab.var) same ∙ sym f.slab_is

  in_values : (m : ℕ) → f.offset + m ≤ y.extent.slab
      → bytes_at file (at + f.offset) m ≡ take m (drop f.offset (bytes_of from.values))
  in_values m fits = read_there file at y.extent.slab f.offset m room fits
      ∙ ap (λ (l : List ℕ). take m (drop f.offset l)) held

  pub piece_bytes : (m : ℕ) → f.offset + m ≤ y.extent.slab → IsBytes (bytes_at file (at + f.offset) m)
  piece_bytes m fits = subst IsBytes (sym (in_values m fits))
      (bytes_first m (drop f.offset (bytes_of from.values))
      (bytes_behind f.offset (bytes_of from.values) (bytes-bytes_of from.values)))

  pub piece_is : (m : ℕ) → f.offset + m ≤ y.extent.slab
      → bytes_at file (at + f.offset) m ≡ take m (drop (length w.taken) (data_of d))
  piece_is m fits = in_values m fits
      ∙ ap (λ (k : ℕ). take m (drop k (bytes_of from.values))) (sym offset_is)
      ∙ sym (from.piece m (omega (arith, fits, offset_is, size_is)))

  -- with the next bytes of the slab the values taken are a front of the dataset's
  pub next_front : IsTrue tells → (t : XType) (k : ℕ) (piece : List ℕ) → length piece ≡ k * size_of t
      → f.offset + length piece ≤ y.extent.slab → piece ≡ bytes_at file (at + f.offset) (length piece)
      → IsFront (w.taken ++ bytes_of (values_of t piece)) (data_of d)
  next_front told t k piece long fits piece_at =
      let bytes : IsBytes piece = subst IsBytes (sym piece_at) (piece_bytes (length piece) fits) in
      subst (λ (l : List ℕ). IsFront (w.taken ++ l) (data_of d)) (sym (bytes_of-values_of t k piece bytes long))
      (front_grows w.taken (data_of d) piece (length piece) (copies.front told d is of)
      (piece_at ∙ piece_is (length piece) fits))
