use Rattle.std.proofs.Common.{◌∙◌, sym}
use Rattle.ncc_values.proofs.NameLemmas.{left_first, left_next, left_refused, left_none}
use Rattle.ncc_values.proofs.name.has_name_characters.Goals as goal

pub loop-character-init : goal.loop-character-init
loop-character-init c =
    rw c.into_iter-character-iterator.ensures.into_iter_gives (left_first c.args.text.now c.next.new.self.rest.now c.in-Some.first c.utf8.text (rw c.chars-characters.ensures.rest at c.in-Some.ensures.steps.0))

pub loop-character-preserved : goal.loop-character-preserved
loop-character-preserved c =
    left_next _ _ _ _ _ _ c.loop-character.invariant c.in-Some-character.ensures.steps.0 (sym c.if-not-can_follow.ensures)

pub returns-then-not-can_follow : goal.returns-then-not-can_follow
returns-then-not-can_follow c =
    sym (left_refused _ _ _ _ _ _ c.loop-character.invariant c.in-Some-character.ensures.steps.0 (sym c.if-not-can_follow.ensures))

pub returns-then-can_begin : goal.returns-then-can_begin
returns-then-can_begin c =
    let answer = left_none _ _ _ _ c.loop-character.invariant c.in-None.ensures.steps.0.0 in
    sym (rw (← c.if-can_begin.ensures) at answer)

pub returns-else-can_begin : goal.returns-else-can_begin
returns-else-can_begin c =
    let answer = left_none _ _ _ _ c.loop-character.invariant c.in-None.ensures.steps.0.0 in
    c.if-can_begin.false ∙ sym (rw (← c.if-can_begin.ensures) at answer)
