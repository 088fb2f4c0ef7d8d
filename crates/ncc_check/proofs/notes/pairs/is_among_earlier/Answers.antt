use Rattle.std.proofs.Common.{◌≡◌, [], get_or, map, refl, sym, ◌∙◌, arith, below_more}
use Rattle.ncc_check.proofs.Repeats.{name_at, other_bytes, other_key, same_bytes}
use Rattle.ncc_check.proofs.notes.pairs.is_among_earlier.Goals as goal
use Rattle.ncc_check.proofs.notes.pairs.is_among_earlier.Goals.{else-keys-i-via-then-keys-i+else-eq, else-keys-i-via-else-keys-i}

pub returns-then-eq : goal.returns-then-eq
returns-then-eq g c =
    let text = g.T.Item.text in
    let items = c.args.items.now in
    let own : get_or (map text items) c.args.number [] ≡ c.name-name.result.now = name_at text items c.args.number _ c.requires.there c.index-items-number.is ∙ sym c.name-name.ensures in
    let earlier : get_or (map text items) c.loop-i.i [] ≡ c.name.result.now = name_at text items c.loop-i.i _ (omega (arith, c.loop-i-test.true, c.requires.there)) c.index-items-i.is ∙ sym c.name.ensures in
    ((λ t. (c.loop-i.i, c.loop-i-test.true, earlier ∙ same_bytes _ _ (sym c.eq.ensures ∙ c.if-eq.true) ∙ sym own)), (λ r. refl))

pub loop-i-preserved : goal.loop-i-preserved
loop-i-preserved g c =
    let text = g.T.Item.text in
    let items = c.args.items.now in
    let names = map text items in
    let i = c.loop-i.i in
    let own : get_or names c.args.number [] ≡ c.name-name.result.now = name_at text items c.args.number _ c.requires.there c.index-items-number.is ∙ sym c.name-name.ensures in
    below_more _ _ c.loop-i.invariant (λ e. elim c.else-keys-i.branch [
      | else-keys-i-via-then-keys-i+else-eq w ↦
          other_bytes _ _ (sym w.eq.ensures ∙ w.if-eq.false) (w.name.ensures ∙ sym (name_at text items i _ (omega (arith, c.loop-i-test.true, c.requires.there)) w.index-items-i.is) ∙ e ∙ own)
      | else-keys-i-via-else-keys-i w ↦ other_key names c.args.number c.args.keys.now i c.requires.keys c.loop-i-test.true w.if-keys-i.false e
    ])
