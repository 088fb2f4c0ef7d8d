use borrow.Rule.Slice.PartMut.{post_of}
use Rattle.std.proofs.Common.{◌≡◌, ◌+◌, ◌-◌, ◌*◌, ◌++◌, ℕ, List, length, drop, take, ap, ap₂, ◌∙◌, arith}
use Rattle.std.specs.List.{flat_map}
use Rattle.ncc_schema.specs.declared.schema.Var.{Var}
use Rattle.ncc_schema.specs.Names.{canon_unplaced, gatts_at, head_size, list_size, vars_at}
use Rattle.ncc_c.specs.declared.rows.AttrRow.{AttrRow}
use Rattle.ncc_c.specs.Rows.{attr_count, attr_rows, attrs_of_vars, dim_rows, id_count, ids_of_vars, var_rows}
use Rattle.ncc_c.proofs.CountsFit.{fits}
use Rattle.ncc_c.proofs.Indexing.{joined}
use Rattle.ncc_c.proofs.PuttingRows.{length-attr_rows, length-attrs_of_vars, length-dim_rows, length-ids_of_vars, length-var_rows, take_these}
use Rattle.ncc_c.proofs.index.put_rows.Goals as goal

pub put_vars-requires-clause-fits : goal.put_vars-requires-clause-fits
put_vars-requires-clause-fits c =
    let s = c.args.schema.now in
    let f = fits s c.requires.fits.0 c.requires.fits.1 c.requires.fits.2 in
    omega (arith, f.vars, c.vars_start-start.ensures, ap (λ (l : List Var). length (flat_map (canon_unplaced s.version) l)) c.as_slice-all.ensures)

pub returns : goal.returns
returns c =
    let s = c.args.schema.now in
    let v = s.version in
    let placed = c.args.placed.now in
    let f = fits s c.requires.fits.0 c.requires.fits.1 c.requires.fits.2 in
    let start : c.vars_start-start.result ≡ vars_at s + list_size v = omega (arith, f.vars, c.vars_start-start.ensures) in
    let first : c.gatts_at.result + c.list_size.result ≡ gatts_at s + list_size v = omega (arith, f.gatts, c.gatts_at.ensures, c.list_size.ensures) in
    let at_dims : 2 * c.list_size-2.result ≡ head_size v + list_size v = omega (arith, c.list_size-2.ensures) in
    let dims = c.put_dims.ensures ∙ ap (λ (n : ℕ). dim_rows v n c.as_slice.result.now) at_dims ∙ ap (dim_rows v (head_size v + list_size v)) c.as_slice.ensures in
    let own = c.put_attrs.ensures.rows ∙ ap (λ (n : ℕ). attr_rows v n c.as_slice-2.result.now) first ∙ ap (attr_rows v (gatts_at s + list_size v)) c.as_slice-2.ensures in
    let others = c.put_vars.ensures.attrs ∙ ap (λ (n : ℕ). attrs_of_vars v n c.as_slice-all.result.now) start ∙ ap (attrs_of_vars v (vars_at s + list_size v)) c.as_slice-all.ensures in
    let vars = c.put_vars.ensures.rows ∙ ap (λ (n : ℕ). var_rows v n c.as_slice-all.result.now placed) start ∙ ap (λ (l : List Var). var_rows v (vars_at s + list_size v) l placed) c.as_slice-all.ensures in
    let ids = c.put_ids_of_vars.ensures ∙ ap ids_of_vars c.as_slice-all.ensures in
    let own_long = ap length own ∙ length-attr_rows v (gatts_at s + list_size v) s.gatts in
    let others_long = ap length others ∙ length-attrs_of_vars v (vars_at s + list_size v) s.vars in
    let ds = drop c.len-globals.result c.args.attrs.now in
    let all = c.put_attrs.new.rows ++ ds in
    let es = post_of c.len-globals.result (length all - c.len-globals.result) all in
    record {
      dims_are = take_these (length s.dims) c.put_dims.new.rows _ dims (length-dim_rows v (head_size v + list_size v) s.dims);
      attrs_are = ap (λ (n : ℕ). take (length s.gatts + attr_count s.vars) (take n all ++ (c.put_vars.new.attr_rows ++ es))) c.len-globals.ensures
          ∙ joined (length s.gatts) (attr_count s.vars) c.put_attrs.new.rows ds c.put_vars.new.attr_rows es own_long others_long
          ∙ ap₂ (λ (xs ys : List AttrRow). xs ++ ys) own others;
      vars_are = take_these (length s.vars) c.put_vars.new.rows _ vars (length-var_rows v (vars_at s + list_size v) s.vars placed c.requires.placed);
      ids_are = take_these (id_count s.vars) c.put_ids_of_vars.new.out _ ids (length-ids_of_vars s.vars);
    }
