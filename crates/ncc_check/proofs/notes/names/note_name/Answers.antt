use Rattle.std.proofs.Common.{◌≡◌, ℕ, ◌+◌, [], get_or, map, sym, ap, subst, ◌∙◌}
use Rattle.ncc_values.specs.Name.{FitsAsName}
use Rattle.ncc_schema.specs.Names.{before, capped}
use Rattle.ncc_check.specs.Noting.{offsets_from}
use Rattle.ncc_check.proofs.Lists.{offset_at}
use Rattle.ncc_check.proofs.Repeats.{name_at, told_noted}
use Rattle.ncc_check.proofs.notes.names.note_name.Goals as goal

pub returns-clause-notes : goal.returns-clause-notes
returns-clause-notes g c start small was =
    let text = g.T.Item.text in
    let items = c.args.items.now in
    let item = g.T.Item.canon c.args.version in
    let k = c.args.number in
    let told = c.note_told.new.item.offset in
    let name : get_or (map text items) k [] ≡ c.name.result.now = name_at text items k _ c.requires.there c.index-items-number.is ∙ sym c.name.ensures in
    let at : get_or (offsets_from item start items) k 0 ≡ told =
    offset_at item start items k small c.requires.there ∙ ap (λ (n : ℕ). capped (start + before item n items)) (sym c.note_told.ensures.number) ∙ sym (c.note_told.ensures.offset start was) in
    told_noted (map text items) (offsets_from item start items) k c.in_ok-fits.fits c.args.repeated told c.args.notes.now.items c.note_told.new.notes.items
    (λ t. subst FitsAsName (sym name) (c.in_ok-fits.ensures.fits.0 t)) (λ f. c.in_ok-fits.ensures.fits.1 (subst FitsAsName name f)) at c.in_ok-note_told.ensures.notes
