use Rattle.std.proofs.Common.{map, ap, sym, ◌∙◌, arith}
use Rattle.ncc_check.specs.Noting.{key_of_name}
use Rattle.ncc_check.proofs.Repeats.{more_taken, name_at}
use Rattle.ncc_check.proofs.notes.pairs.is_duplicate.Goals as goal

pub returns-then-take_slot-clause-taken : goal.returns-then-take_slot-clause-taken
returns-then-take_slot-clause-taken g c = more_taken (map g.T.Item.text c.args.items.now) c.args.number c.args.taken.now c.key-own.result c.take_slot.new.taken
    (c.key-own.ensures ∙ ap key_of_name (c.name.ensures ∙ sym (name_at g.T.Item.text c.args.items.now c.args.number _ c.requires.there c.index-items-number.is))) c.take_slot.ensures.takes (omega (arith, c.requires.slots)) c.requires.taken

pub returns-clause-taken : goal.returns-clause-taken
returns-clause-taken g c = more_taken (map g.T.Item.text c.args.items.now) c.args.number c.args.taken.now c.key-own.result c.take_slot.new.taken
    (c.key-own.ensures ∙ ap key_of_name (c.name.ensures ∙ sym (name_at g.T.Item.text c.args.items.now c.args.number _ c.requires.there c.index-items-number.is))) c.take_slot.ensures.takes (omega (arith, c.requires.slots)) c.requires.taken
