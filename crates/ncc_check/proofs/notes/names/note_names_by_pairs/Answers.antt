use Rattle.std.proofs.Common.{◌<◌, ◌^◌, length, map, sym, ◌∙◌, arith, true≢false}
use Rattle.std.proofs.lemmas.List.{length-map}
use Rattle.ncc_check.specs.Noting.{offsets_from}
use Rattle.ncc_check.proofs.Repeats.{all_names, one_name}
use Rattle.ncc_check.proofs.notes.names.note_names_by_pairs.Goals as goal

pub loop-i-preserved : goal.loop-i-preserved
loop-i-preserved g c =
    let names = map g.T.Item.text c.args.items.now in
    let offsets = offsets_from (g.T.Item.canon c.args.version) c.args.start c.args.items.now in
    let inv = c.loop-i.invariant in
    let twice = c.is_duplicate-repeated.ensures in
    let noted = c.in_ok-note_name.ensures in
    let small : c.args.start < 2 ^ 64 = omega (arith, c.ranges.start.fits) in
    record {
      few = twice.few ∙ inv.few;
      slots = twice.slots;
      keys = twice.keys;
      taken = twice.taken;
      order = omega (arith, noted.order);
      offset = noted.offset c.args.start inv.offset;
      found =
          one_name names offsets c.loop-i.i c.is_duplicate-repeated.result c.args.notes.now.items c.loop-i.notes.items c.note_name.new.notes.items
          twice.repeated.0 twice.repeated.1 inv.found (noted.notes c.args.start small inv.offset);
    }

pub returns-clause-notes : goal.returns-clause-notes
returns-clause-notes g c =
    all_names g.T.Item.text c.args.items.now (offsets_from (g.T.Item.canon c.args.version) c.args.start c.args.items.now) c.loop-i.i c.args.notes.now.items c.loop-i.notes.items
    (omega (arith, c.loop-i-test.false, c.loop-i.auto.i-end)) c.loop-i.invariant.found

pub returns-in_err-note_name-clause-none : goal.returns-in_err-note_name-clause-none
returns-in_err-note_name-clause-none g c plain =
    let below : c.loop-i.i < length (map g.T.Item.text c.args.items.now) = omega (arith, c.loop-i-test.true, length-map c.args.items.now g.T.Item.text) in
    absurd (true≢false (sym (c.in_err-note_name.ensures.none (plain.each c.loop-i.i below) (λ t. plain.new c.loop-i.i below (c.is_duplicate-repeated.ensures.repeated.0 t)))))
