use Rattle.std.proofs.Common.{length, ap, arith}
use Rattle.std.specs.List.{flat_map}
use Rattle.std.proofs.lemmas.List.{length-map}
use Rattle.ncc_schema.specs.Names.{no_place, canon_unplaced, unplaced}
use Rattle.ncc_schema.proofs.Sizes.{length-canon}
use Rattle.ncc_schema.proofs.lengths.header_length.Goals as goal

pub returns : goal.returns
returns c =
    let s = c.args.schema.now in
    let vars = ap (λ xs. length (flat_map (canon_unplaced s.version) xs)) c.as_slice.ensures in
    omega (arith, c.saturating_add.ensures, c.vars_start.ensures, c.vars_size.ensures, vars, length-canon s (unplaced s.vars) (length-map s.vars (λ x. no_place)))
