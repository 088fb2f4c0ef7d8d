use Rattle.std.proofs.lemmas.List.{with_items_is}
use Rattle.std.proofs.Common.{◌≡◌, length, ◌-◌, ap, ◌∙◌, arith}
use Rattle.ncc_values.specs.XType.{size_of}
use Rattle.ncc_values.specs.Values.{type_of}
use Rattle.ncc_slab.specs.Answers.{part_count}
use Rattle.ncc_slab.specs.Axes.{place_at}
use Rattle.ncc_slab.specs.Grids.{grid_rest}
use Rattle.ncc_slab.proofs.Joined.{part_bounds}
use Rattle.ncc_slab.proofs.Ranges.{rest_behind}
use Rattle.ncc_slab.proofs.parts.SlabParts.next_part.Goals as goal

pub add_part-requires-clause-ends : goal.add_part-requires-clause-ends
add_part-requires-clause-ends g c = λ n lt.
    let p = c.args.self.now in
    let end = p.ends n lt in
    omega (arith, end, ap size_of c.requires.type_is, c.requires.long)

pub overflow_add-self : goal.overflow_add-self
overflow_add-self g c =
    let p = c.args.self.now in
    let bounds = part_bounds (place_at p.grid.base p.grid.axes.items) p.taken (p.grid.count - p.taken) c.in_ok-count.count (type_of c.args.values.now) c.in_ok-count.ensures.took in
    omega (arith, bounds.0, p.within, p.grid.small)

pub invariant_of-self-2-clause-within : goal.invariant_of-self-2-clause-within
invariant_of-self-2-clause-within g c =
    let p = c.args.self.now in
    let bounds = part_bounds (place_at p.grid.base p.grid.axes.items) p.taken (p.grid.count - p.taken) c.in_ok-count.count (type_of c.args.values.now) c.in_ok-count.ensures.took in
    omega (arith, bounds.0, p.within)

pub returns-clause-took : goal.returns-clause-took
returns-clause-took g c =
    let p = c.args.self.now in (
      c.in_ok-count.ensures.took ∙ ap (λ (t : _). part_count (size_of t) (grid_rest p.grid p.taken)) c.requires.type_is,
      rest_behind (place_at p.grid.base p.grid.axes.items) p.taken p.grid.count c.in_ok-count.count,
    )

pub invariant_of-self-2-clause-room : goal.invariant_of-self-2-clause-room
invariant_of-self-2-clause-room g c =
    let long : length c.add_part.new.buffer ≡ c.args.self.now.buffer.len = c.add_part.auto.buffer ∙ c.deref_mut.ensures.len in
    ap length (with_items_is c.args.self.now.buffer c.add_part.new.buffer long) ∙ long ∙ c.args.self.now.buffer.ok.0 ∙ c.args.self.now.room
