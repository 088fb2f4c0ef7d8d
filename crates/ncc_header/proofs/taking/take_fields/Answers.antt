use Rattle.std.proofs.Common.{List, ℕ, subst}
use Rattle.ncc_header.specs.Reading.{Went}
use Rattle.ncc_header.proofs.TakePiece.{none_went, went_more}
use Rattle.ncc_header.proofs.taking.take_fields.Goals as goal

pub loop-n-init : goal.loop-n-init
loop-n-init c = none_went c.args.reading.now c.args.piece.now

pub loop-n-preserved : goal.loop-n-preserved
loop-n-preserved c =
    let mid = c.loop-n.reading in
    let new = c.take_some.new.reading in
    went_more c.args.reading.now mid new c.args.piece.now c.loop-n.used c.in-Ok-Some.n c.loop-n.invariant
    (subst (λ (rest : List ℕ). Went mid new rest c.in-Ok-Some.n) c.split_at.ensures.back (rw c.in-Ok-Some.field-0-is at c.in-Ok-Some.ensures.some))
