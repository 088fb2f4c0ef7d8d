use Rattle.std.proofs.Common.{sym, ◌∙◌}
use Rattle.ncc_write.proofs.StillRead.{still_read}
use Rattle.ncc_write.proofs.laws.adding.reads_stay.Goals as goal

pub returns : goal.returns
returns c = λ bytes image new limit s p n slab values opens takes either none.
    let same = still_read c.selected_is_inside.ensures bytes new p n slab
    (λ place index is. c.old_elements_stay.ensures.elements bytes image new limit s p n place index opens takes
    either is) none in
    (λ selected. selected ∙ same, λ selected. selected ∙ sym same)
