use Rattle.std.proofs.Common.{sym, arith}
use Rattle.std.proofs.lemmas.List.FromFn.{length-map-range_with_len}
use Rattle.ncc_slab.specs.Axes.{place_at}
use Rattle.ncc_slab.proofs.Ranges.{drop-map-range}
use Rattle.ncc_ranges.proofs.runs.SlabRuns.at.Goals as goal

pub returns-clause-left : goal.returns-clause-left
returns-clause-left c =
    let grid = c.args.self.now.grid in
    let next = c.args.self.now.next in
    sym (drop-map-range (place_at grid.base grid.axes.items) next 0 grid.count next (omega arith))

pub returns-clause-most : goal.returns-clause-most
returns-clause-most c =
    let grid = c.args.self.now.grid in
    omega (arith, c.args.self.now.within, length-map-range_with_len (place_at grid.base grid.axes.items) 0 grid.count)
