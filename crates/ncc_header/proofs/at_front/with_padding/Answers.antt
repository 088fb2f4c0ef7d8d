use Rattle.std.proofs.Common.{sym, ◌∙◌}
use Rattle.ncc_header.proofs.WholeItems.{padded_at_front}
use Rattle.ncc_header.proofs.at_front.with_padding.Goals as goal

pub returns-clause-at_front : goal.returns-clause-at_front
returns-clause-at_front c =
    padded_at_front c.args.n c.args.piece.now c.in_ok-bytes.bytes.now c.in_ok-bytes.rest.now c.in_ok-zeros.zeros.now c.in_ok-zeros.after.now
    c.in_ok-bytes.ensures (rw c.pad.ensures.padding at c.in_ok-zeros.ensures) (sym c.are_zero.ensures ∙ c.if-not-are_zero.false)
