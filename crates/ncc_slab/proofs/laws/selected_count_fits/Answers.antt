use Rattle.std.proofs.Common.{arith}
use Rattle.ncc_slab.proofs.PartPlaces.{count_below_file}
use Rattle.ncc_slab.proofs.laws.selected_count_fits.Goals as goal

pub returns : goal.returns
returns c = λ n s none.
    let p = c.args.placed.now in
    omega (arith, count_below_file p (c.placed_file_keeps_all_rules.ensures p) n s none, c.length_fits.ensures)
