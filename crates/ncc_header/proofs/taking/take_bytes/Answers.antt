use Rattle.std.proofs.Common.{refl, ◌∙◌}
use Rattle.ncc_header.specs.Left.{idle_of}
use Rattle.ncc_header.proofs.TakeField.{takes_bytes, fails_bytes}
use Rattle.ncc_header.proofs.TakePiece.{idle_few, less}
use Rattle.ncc_header.proofs.taking.take_bytes.Goals as goal

pub returns-in-Ok-clause-takes : goal.returns-in-Ok-clause-takes
returns-in-Ok-clause-takes c =
    takes_bytes c.args.reading.now _ c.args.size c.args.bytes.now c.requires.size c.requires.within c.requires.last c.requires.none c.requires.none c.in-Ok.ensures.steps c.in-Ok.ensures.marks refl refl

pub returns-in-Err-clause-fails : goal.returns-in-Err-clause-fails
returns-in-Err-clause-fails c =
    rw c.error_at.ensures (fails_bytes c.args.reading.now c.marked_step.new.partial c.args.size c.args.bytes.now c.in-Err.error c.requires.size c.requires.within c.requires.last c.requires.none c.in-Err.ensures.steps)

pub returns-in-Ok-clause-less : goal.returns-in-Ok-clause-less
returns-in-Ok-clause-less c =
    let r = c.args.reading.now in
    less r.limit r.at c.args.size (idle_of r.next) (idle_of c.in-Ok.next) (idle_few c.in-Ok.next) (λ none. c.in-Ok.ensures.idle (c.requires.last ∙ none)) c.requires.within
