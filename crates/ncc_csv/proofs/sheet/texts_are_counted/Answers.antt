use Rattle.std.proofs.Common.{◌^◌, ◌<◌, ap, ◌∙◌, arith}
use Rattle.std.proofs.lemmas.Nat.{mul-le}
use Rattle.ncc_values.specs.XType.{size_of}
use Rattle.ncc_values.proofs.ElementsLemmas.{size_of-some}
use Rattle.ncc_layout.specs.Elements.{var_at}
use Rattle.ncc_layout.specs.Placed.{file_length_of, vars_of}
use Rattle.ncc_layout.specs.Sizes.{product}
use Rattle.ncc_check.specs.Files.{store_of, schema_of, placed_of}
use Rattle.ncc_csv.proofs.Leading.{texts_counted}
use Rattle.ncc_csv.proofs.SheetTexts.{in_vars, shape_fits}
use Rattle.ncc_csv.proofs.sheet.texts_are_counted.Goals as goal

pub returns : goal.returns
returns g c = λ n s none.
    let p = placed_of c.args.file.now in
    let x = var_at (vars_of p) n in
    let there = in_vars (vars_of p) n s none in
    let fits = (c.refused_unless_it_fits.ensures x.shape s).0 (shape_fits (vars_of p) n s none) in
    let bytes = c.shape_is_in_file.ensures p n there in
    let whole : file_length_of p < 2 ^ 64 = omega (arith, c.file_length-length.ensures ∙ ap file_length_of c.placed.ensures) in
    texts_counted _ (g.S.Store.bytes (store_of c.args.file.now)) (schema_of c.args.file.now) p n s c.open_file_stands.ensures there fits
    (omega (arith, bytes, whole, mul-le (product x.shape) 1 (product x.shape) (size_of x.xtype) (omega arith) (size_of-some x.xtype)))
