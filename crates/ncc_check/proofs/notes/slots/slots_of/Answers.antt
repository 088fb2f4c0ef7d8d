use Rattle.std.proofs.Common.{◌≡◌, ◌+◌, ◌<◌, ℕ, List, [], length, map, get_or, set, sym, ap, subst, ◌∙◌, arith}
use Rattle.std.proofs.lemmas.List.{get_or_default, length-map, length-set}
use Rattle.ncc_check.specs.declared.notes.slots.Slot.TheVariants.{Free}
use Rattle.ncc_check.specs.Slots.{HaveSlots, once_more, slot_at, slot_of}
use Rattle.ncc_check.proofs.Repeats.{name_at}
use Rattle.ncc_check.proofs.Slots.{one_slot}
use Rattle.ncc_check.proofs.notes.slots.slots_of.Goals as goal

pub loop-item-preserved : goal.loop-item-preserved
loop-item-preserved g c =
    let names = map g.T.Item.text c.args.items.now in
    let i = c.loop-item.item-index in
    let slots = c.loop-item.slots.items in
    let s = c.slot_of-at.result in
    let new : List ℕ = get_or names i [] in
    let name : new ≡ c.name.result.now = name_at g.T.Item.text c.args.items.now i _ c.loop-item-test.true c.item-item.is ∙ sym c.name.ensures in
    let is : s ≡ slot_of (length slots) new = c.slot_of-at.ensures.is ∙ ap (λ (n : ℕ). slot_of n c.name.result.now) (sym c.loop-item.invariant.long) ∙ ap (slot_of (length slots)) (sym name) in
    let there : slot_of (length slots) new < length slots = omega (arith, is, c.slot_of-at.ensures.there, c.loop-item.invariant.long) in
    let was : c.index.result.now ≡ slot_at slots new = c.index.ensures ∙ get_or_default slots s c.index.result.now Free (omega (arith, c.slot_of-at.ensures.there, c.loop-item.invariant.long)) ∙ ap (λ (n : ℕ). get_or slots n Free) is in
    let more : c.once_more.result ≡ once_more (slot_at slots new) = c.once_more.ensures ∙ ap once_more was in
    record {
      long = length-set slots s c.once_more.result ∙ c.loop-item.invariant.long;
      told = subst (HaveSlots names (i + 1)) (ap (λ (n : ℕ). set slots n (once_more (slot_at slots new))) (sym is) ∙ ap (set slots s) (sym more)) (one_slot names i slots there c.loop-item.invariant.told);
    }

pub returns : goal.returns
returns g c =
    let e : c.loop-item.item-index ≡ length (map g.T.Item.text c.args.items.now) = omega (arith, c.loop-item-test.false, c.loop-item.auto.item-index-end, length-map c.args.items.now g.T.Item.text) in
    subst (λ (n : ℕ). HaveSlots (map g.T.Item.text c.args.items.now) n c.loop-item.slots.items) e c.loop-item.invariant.told
