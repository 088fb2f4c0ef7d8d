use Rattle.std.proofs.Common.{sym}
use Rattle.ncc_slab.proofs.Gridded.{grid_ends}
use Rattle.ncc_slab.proofs.gridding.grid_of.Goals as goal

pub returns-in-Ok-clause-ends : goal.returns-in-Ok-clause-ends
returns-in-Ok-clause-ends c =
    let p = c.args.placed.now in
    grid_ends p c.args.var c.args.slab.now c.in-Ok.grid (c.placed_file_keeps_elements_apart.ensures p) (sym c.in-None.ensures) c.in-Ok.ensures
