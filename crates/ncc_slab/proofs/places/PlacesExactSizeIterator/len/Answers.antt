use Rattle.std.proofs.Common.{◌-◌, sym, ◌∙◌, ap}
use Rattle.std.proofs.lemmas.List.FromFn.{length-map-range_with_len}
use Rattle.ncc_slab.specs.Axes.{place_at}
use Rattle.ncc_slab.proofs.places.PlacesExactSizeIterator.len.Goals as goal

pub returns-clause-value : goal.returns-clause-value
returns-clause-value c =
    let p = c.args.self.now in
    ap (λ (n : _). n - p.next) c.count.ensures
    ∙ sym (length-map-range_with_len (place_at p.grid.base p.grid.axes.items) p.next (p.grid.count - p.next))
