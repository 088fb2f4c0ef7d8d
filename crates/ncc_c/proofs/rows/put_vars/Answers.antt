use Rattle.std.proofs.Common.{◌≡◌, ◌+◌, ℕ, List, ◌++◌, length, get_or, drop, sym, ap, ap₂, ◌∙◌, arith}
use Rattle.std.specs.List.{flat_map}
use Rattle.std.proofs.lemmas.List.{drop_more, get_or_default, length-append, length-set}
use Rattle.ncc_schema.specs.declared.schema.Attr.{Attr}
use Rattle.ncc_schema.specs.declared.schema.Var.{Var}
use Rattle.ncc_schema.specs.Header.{canon_attr}
use Rattle.ncc_schema.specs.Names.{attrs_in, canon_unplaced, no_place}
use Rattle.ncc_schema.proofs.Sizes.{length-canon_var}
use Rattle.ncc_layout.specs.declared.placed_var.PlacedVar.{PlacedVar}
use Rattle.ncc_c.specs.Rows.{attr_count, attr_rows, attrs_of_vars, var_row}
use Rattle.ncc_c.proofs.PuttingRows.{length-attr_rows, piece_step, var_step}
use Rattle.ncc_c.proofs.rows.put_vars.Goals as goal

pub overflow_add-at : goal.overflow_add-at
overflow_add-at c =
    let at = c.loop-k.invariant in
    let v = c.args.version in
    let vars = c.args.vars.now in
    let k = c.loop-k.k in
    let lt = c.loop-k-test.true in
    let d = c.index-vars-k-in-loop-k.result in
    let x = get_or vars k d in
    let rest = flat_map (canon_unplaced v) (drop (k + 1) vars) in
    let sizes = ap (λ (xs : List Var). length (flat_map (canon_unplaced v) xs)) (drop_more vars k d lt) ∙ length-append (canon_unplaced v x) rest in
    let parts = length-canon_var v x no_place in
    let same_in = ap (λ (y : Var). attrs_in v y) (get_or_default vars k c.index-vars-k-in-loop-k-2.result d lt) in
    let begin : c.attrs_in.result ≡ attrs_in v x = omega (arith, c.attrs_in.ensures, ap (λ (y : Var). attrs_in v y) c.index-vars-k-in-loop-k-2.is, same_in, parts, sizes, at.at, c.requires.fits) in
    let own = ap (λ (l : List Attr). length (flat_map (canon_attr v) l)) c.as_slice-attrs.ensures in
    omega (arith, c.put_attrs.ensures.end, own, begin, parts, c.count_width.ensures, c.offset_width.ensures, sizes, at.at, c.requires.fits)

pub loop-k-preserved : goal.loop-k-preserved
loop-k-preserved c =
    let at = c.loop-k.invariant in
    let v = c.args.version in
    let vars = c.args.vars.now in
    let k = c.loop-k.k in
    let lt = c.loop-k-test.true in
    let d = c.index-vars-k-in-loop-k.result in
    let x = get_or vars k d in
    let rest = flat_map (canon_unplaced v) (drop (k + 1) vars) in
    let sizes = ap (λ (xs : List Var). length (flat_map (canon_unplaced v) xs)) (drop_more vars k d lt) ∙ length-append (canon_unplaced v x) rest in
    let parts = length-canon_var v x no_place in
    let same_in = ap (λ (y : Var). attrs_in v y) (get_or_default vars k c.index-vars-k-in-loop-k-2.result d lt) in
    let begin : c.attrs_in.result ≡ attrs_in v x = omega (arith, c.attrs_in.ensures, ap (λ (y : Var). attrs_in v y) c.index-vars-k-in-loop-k-2.is, same_in, parts, sizes, at.at, c.requires.fits) in
    let own = ap (λ (l : List Attr). length (flat_map (canon_attr v) l)) c.as_slice-attrs.ensures in
    let next = c.put_attrs.result + (4 + c.count_width.result + c.offset_width.result) in
    let size : next ≡ c.loop-k.at + length (canon_unplaced v x) =
    omega (arith, c.put_attrs.ensures.end, own, begin, parts, c.count_width.ensures, c.offset_width.ensures) in
    let piece : c.put_attrs.new.rows ≡ attr_rows v (c.loop-k.at + attrs_in v x) x.attrs =
    c.put_attrs.ensures.rows ∙ ap (λ (n : ℕ). attr_rows v (c.loop-k.at + n) c.as_slice-attrs.result.now) begin ∙ ap (attr_rows v (c.loop-k.at + attrs_in v x)) c.as_slice-attrs.ensures in
    let row = c.var_row.ensures ∙ ap₂ (λ (y : Var) (q : PlacedVar). var_row v c.loop-k.at y q) (c.index-vars-k.is ∙ get_or_default vars k c.index-vars-k.result d lt) c.index-placed-k.is in
    record {
      long = length-set c.loop-k.rows k c.var_row.result ∙ at.long;
      attrs_long = omega (arith, at.attrs_long, ap attr_count (drop_more vars k d lt), ap length c.as_slice-attrs.ensures);
      at = omega (arith, at.at, sizes, size);
      rows = var_step v c.loop-k.at next vars c.args.placed.now c.loop-k.rows k d c.index-placed-k.result c.var_row.result
          (omega (arith, lt, at.long)) lt (omega (arith, lt, c.requires.placed)) row size
          ∙ at.rows;
      attrs = piece_step (λ (y : Var). attr_rows v (c.loop-k.at + attrs_in v y) y.attrs) (attrs_of_vars v c.loop-k.at) (attrs_of_vars v next) vars k d
          c.loop-k.attr_rows c.put_attrs.new.rows c.loop-k.first (length c.as_slice-attrs.result.now) _ lt
          (λ xs. ap (λ (n : ℕ). attr_rows v (c.loop-k.at + attrs_in v x) x.attrs ++ attrs_of_vars v n xs) (sym size))
          piece (sym (ap length c.put_attrs.ensures.rows ∙ length-attr_rows v _ c.as_slice-attrs.result.now)) (omega (arith, at.attrs_long, c.loop-k.auto.attr_rows))
          ∙ at.attrs;
    }
