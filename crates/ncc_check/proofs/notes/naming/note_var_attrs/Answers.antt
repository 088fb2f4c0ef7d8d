use Rattle.std.proofs.Common.{◌≡◌, ◌+◌, ap, subst, ◌∙◌}
use Rattle.ncc_schema.specs.Names.{capped, attrs_in}
use Rattle.ncc_check.specs.Noting.{Adds, AttrNotes}
use Rattle.ncc_check.proofs.Listing.{capped_right}
use Rattle.ncc_check.proofs.notes.naming.note_var_attrs.Goals as goal

pub returns : goal.returns
returns c =
    let x = c.args.var.now in
    let v = c.args.version in
    let start : c.saturating_add-start.result ≡ capped (c.args.at + attrs_in v x) =
    c.saturating_add-start.ensures ∙ ap (λ n. capped (c.args.at + n)) c.attrs_in.ensures ∙ capped_right c.args.at (attrs_in v x) in
    subst (λ at. Adds (AttrNotes v at x.attrs) c.args.notes.now.items c.note_names.new.notes.items) start (rw c.as_slice.ensures at c.in_ok-note_names.ensures.notes)
