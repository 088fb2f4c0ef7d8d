use Rattle.ncc_layout.proofs.Indexing.{inside_length}
use Rattle.ncc_layout.proofs.element.is_inside.Goals as goal

pub returns-then-lengths-index : goal.returns-then-lengths-index
returns-then-lengths-index c = (λ h. absurd cc, λ h. absurd (c.if-lengths-index.true (inside_length c.args.lengths.now c.args.index.now h)))
