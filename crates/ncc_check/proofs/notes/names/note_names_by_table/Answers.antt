use Rattle.std.proofs.Common.{◌≡◌, ◌<◌, ◌^◌, [], length, map, get_or, sym, subst, ◌∙◌, arith}
use Rattle.std.proofs.lemmas.List.{length-map}
use Rattle.ncc_check.specs.Noting.{IsDuplicate, offsets_from}
use Rattle.ncc_check.proofs.Repeats.{all_names, name_at, one_name}
use Rattle.ncc_check.proofs.Table.{is_seen, one_seen, was_duplicate}
use Rattle.ncc_check.proofs.notes.names.note_names_by_table.Goals as goal

pub loop-i-preserved : goal.loop-i-preserved
loop-i-preserved g c =
    let text = g.T.Item.text in
    let items = c.args.items.now in
    let names = map text items in
    let offsets = offsets_from (g.T.Item.canon c.args.version) c.args.start items in
    let slots = c.in_ok-slots.slots.items in
    let i = c.loop-i.i in
    let inv = c.loop-i.invariant in
    let noted = c.in_ok-note_name.ensures in
    let q = c.name.result in
    let name : get_or names i [] ≡ q.now = name_at text items i _ c.loop-i-test.true c.index-items-i.is ∙ sym c.name.ensures in
    let repeated = c.in_ok-repeated.repeated in
    let is = rw c.deref.ensures.value at c.in_ok-repeated.ensures.repeated in
    let small : c.args.start < 2 ^ 64 = omega (arith, c.ranges.start.fits) in
    record {
      seen = one_seen slots names i c.loop-i.seen.keys c.is_seen.new.seen.keys q name (rw c.deref.ensures.value at c.in_ok-repeated.ensures.table) inv.seen;
      order = omega (arith, noted.order);
      offset = noted.offset c.args.start inv.offset;
      found =
          one_name names offsets i repeated c.args.notes.now.items c.loop-i.notes.items c.note_name.new.notes.items
          (λ t. subst (IsDuplicate names i) (sym name) (was_duplicate slots names i c.loop-i.seen.keys q repeated is inv.seen t))
          (λ r. is_seen slots names (length names) i c.loop-i.seen.keys q repeated is (omega (arith, c.loop-i-test.true, length-map items text)) name c.in_ok-slots.ensures inv.seen (subst (IsDuplicate names i) name r))
          inv.found (noted.notes c.args.start small inv.offset);
    }

pub returns : goal.returns
returns g c =
    all_names g.T.Item.text c.args.items.now (offsets_from (g.T.Item.canon c.args.version) c.args.start c.args.items.now) c.loop-i.i c.args.notes.now.items c.loop-i.notes.items
    (omega (arith, c.loop-i-test.false, c.loop-i.auto.i-end)) c.loop-i.invariant.found
