use Rattle.std.proofs.Common.{◌≡◌, ◌+◌, subst, ◌∙◌, ap₂}
use Rattle.ncc_schema.specs.Names.{capped, gatts_at, list_size}
use Rattle.ncc_check.specs.Noting.{Adds, AttrNotes}
use Rattle.ncc_check.proofs.Listing.{capped_left}
use Rattle.ncc_check.proofs.notes.naming.note_globals.Goals as goal

pub returns : goal.returns
returns c =
    let s = c.args.schema.now in
    let start : c.saturating_add-start.result ≡ capped (gatts_at s + list_size s.version) =
    c.saturating_add-start.ensures ∙ ap₂ (λ m n. capped (m + n)) c.gatts_at.ensures c.list_size.ensures ∙ capped_left (gatts_at s) (list_size s.version) in
    subst (λ at. Adds (AttrNotes s.version at s.gatts) c.args.notes.now.items c.note_names.new.notes.items) start (rw c.as_slice.ensures at c.in_ok-note_names.ensures.notes)
