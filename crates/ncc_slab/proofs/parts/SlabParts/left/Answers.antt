use Rattle.std.proofs.Common.{◌-◌, ap, sym, ◌∙◌}
use Rattle.std.proofs.lemmas.List.FromFn.{length-map-range_with_len}
use Rattle.ncc_slab.specs.Axes.{place_at}
use Rattle.ncc_slab.proofs.parts.SlabParts.left.Goals as goal

pub returns : goal.returns
returns c =
    let p = c.args.self.now in
    ap (λ (n : _). n - p.taken) c.count.ensures
    ∙ sym (length-map-range_with_len (place_at p.grid.base p.grid.axes.items) p.taken (p.grid.count - p.taken))
