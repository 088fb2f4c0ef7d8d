use Rattle.std.proofs.Common.{◌≡◌, length, Some, sym, subst}
use Rattle.std.specs.Prelude.{IfSome}
use Rattle.ncc_header.specs.Awaited.{AreNamesOf, names_told}
use Rattle.ncc_parts.specs.Parts.{part_at, parts_of}
use Rattle.ncc_parts.proofs.ToldState.{told_is_named, told_is_there}
use Rattle.ncc_parts.proofs.state.unfinished.Goals as goal

pub returns-clause-part : goal.returns-clause-part
returns-clause-part c = λ taken more h t b lt.
    subst (λ o. IfSome o (λ u. part_at (length taken) (parts_of h.schema) ≡ Some u.part)) (sym c.unfinished.ensures.exact)
    (told_is_there c.args.decoder.state taken more h t b lt)

pub returns-clause-names : goal.returns-clause-names
returns-clause-names c = λ taken more h t b.
    subst (λ o. IfSome o (λ u. AreNamesOf h.schema (names_told u))) (sym c.unfinished.ensures.exact) (told_is_named c.args.decoder.state taken more h t b)
