use Rattle.std.proofs.Common.{sym, ◌∙◌}
use Rattle.std.proofs.lemmas.List.FromFn.{length-map-range_with_len}
use Rattle.ncc_slab.specs.Axes.{place_at}
use Rattle.ncc_ranges.proofs.runs.SlabRuns.count.Goals as goal

pub returns : goal.returns
returns c =
    let grid = c.args.self.now.grid in
    c.count.ensures ∙ sym (length-map-range_with_len (place_at grid.base grid.axes.items) 0 grid.count)
