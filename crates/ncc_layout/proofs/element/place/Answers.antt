use Rattle.std.proofs.Common.{ℕ, ◌+◌, ◌<◌, ◌^◌, ◌≡◌, List, length, get_or, sym, subst, ap, ◌∙◌, arith}
use Rattle.std.specs.Prelude.{Contains}
use Rattle.std.proofs.Math.Logic.{∥∥₁_elim}
use Rattle.std.proofs.Props.{props}
use Rattle.std.proofs.lemmas.List.{get_or_default}
use Rattle.ncc_values.specs.XType.{size_of}
use Rattle.ncc_layout.specs.declared.placed_var.PlacedVar.{PlacedVar}
use Rattle.ncc_layout.specs.declared.placed_file.Placed.{Placed}
use Rattle.ncc_layout.specs.Elements.{no_var, var_at, place_of, offset_in, Inside, LiesInFile}
use Rattle.ncc_layout.specs.Placed.{vars_of}
use Rattle.ncc_values.proofs.ElementsLemmas.{size_of-some}
use Rattle.ncc_layout.proofs.Own.{element_in_file}
use Rattle.ncc_layout.proofs.element.place.Goals as goal

lies_in_file : (p : Placed) (vars : List PlacedVar) (n : ℕ) (x : PlacedVar) (index : List ℕ) → vars ≡ p.vars.items → n < length vars → x ≡ get_or vars n x → Inside x.shape index
    → LiesInFile p.header_length p.file_length x (place_of p.record_size x index)
lies_in_file p vars n x index same less is inside =
    let there : Contains p.vars.items x = subst (λ (l : List PlacedVar). Contains l x) same (n, less, sym is) in
    ∥∥₁_elim p.laid (hlevel props) (λ laid. element_in_file p.header_length p.file_length p.record_size p.records p.vars.items laid x index there inside)

place_fits : (p : Placed) (vars : List PlacedVar) (n : ℕ) (x : PlacedVar) (index : List ℕ) → vars ≡ p.vars.items → n < length vars → x ≡ get_or vars n x → Inside x.shape index → place_of p.record_size x index < 2 ^ 64
place_fits p vars n x index same less is inside = omega (arith, (lies_in_file p vars n x index same less is inside).1, size_of-some x.xtype, p.fits)

pub offset_in-requires-clause-fits : goal.offset_in-requires-clause-fits
offset_in-requires-clause-fits c =
    let inside = subst (λ (l : List ℕ). Inside l c.args.index.now) c.as_slice.ensures (c.is_inside.ensures.0 c.if-not-is_inside.false) in
    let fits = place_fits c.args.placed.now c.vars-vars.result.now c.args.var c.index-vars-var.result c.args.index.now c.vars-vars.ensures c.if-var-vars.false c.index-vars-var.is inside in
    rw c.record_size.ensures (omega (arith, fits))

pub overflow_add-result : goal.overflow_add-result
overflow_add-result c =
    let inside = subst (λ (l : List ℕ). Inside l c.args.index.now) c.as_slice.ensures (c.is_inside.ensures.0 c.if-not-is_inside.false) in
    let fits = place_fits c.args.placed.now c.vars-vars.result.now c.args.var c.index-vars-var.result c.args.index.now c.vars-vars.ensures c.if-var-vars.false c.index-vars-var.is inside in
    let x = c.index-vars-var.result in
    let same = c.offset_in.ensures ∙ ap (λ (r : ℕ). offset_in r (size_of x.xtype) x.extent.is_record x.shape c.args.index.now) c.record_size.ensures in
    omega (arith, fits, same)

pub returns-clause-inside : goal.returns-clause-inside
returns-clause-inside c =
    let p = c.args.placed.now in
    let vars = c.vars-vars.result.now in
    let x = c.index-vars-var.result in
    let inside = subst (λ (l : List ℕ). Inside l c.args.index.now) c.as_slice.ensures (c.is_inside.ensures.0 c.if-not-is_inside.false) in
    let lies = lies_in_file p vars c.args.var x c.args.index.now c.vars-vars.ensures c.if-var-vars.false c.index-vars-var.is inside in
    let at : x ≡ var_at (vars_of p) c.args.var =
    c.index-vars-var.is ∙ get_or_default vars c.args.var x no_var c.if-var-vars.false ∙ ap (λ (l : List PlacedVar). var_at l c.args.var) c.vars-vars.ensures in
    let offset : c.offset_in.result ≡ offset_in p.record_size (size_of x.xtype) x.extent.is_record x.shape c.args.index.now =
    c.offset_in.ensures ∙ ap (λ (r : ℕ). offset_in r (size_of x.xtype) x.extent.is_record x.shape c.args.index.now) c.record_size.ensures in
    let place : x.extent.begin + c.offset_in.result ≡ place_of p.record_size x c.args.index.now = ap (λ (n : ℕ). x.extent.begin + n) offset in
    subst (λ (y : PlacedVar). LiesInFile p.header_length p.file_length y (x.extent.begin + c.offset_in.result)) at
    (subst (LiesInFile p.header_length p.file_length x) (sym place) lies)
