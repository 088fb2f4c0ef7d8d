use Rattle.ncc_ranges.proofs.FromFiles.{fits_file}
use Rattle.ncc_ranges.proofs.laws.selection_fits.Goals as goal

pub returns : goal.returns
returns c = λ var s none positive.
    let p = c.args.placed.now in
    fits_file p (c.placed_file_keeps_all_rules.ensures p) (c.placed_file_keeps_elements_apart.ensures p) var s none positive c.length_fits.ensures
