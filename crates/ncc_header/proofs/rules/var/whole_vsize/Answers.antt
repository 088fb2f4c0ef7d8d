use Rattle.std.proofs.Common.{refl}
use Rattle.std.specs.Prelude.{None}
use Rattle.ncc_values.specs.Version.{count_width_of}
use Rattle.ncc_header.proofs.WholeItems.{number_at_front}
use Rattle.ncc_header.proofs.rules.var.whole_vsize.Goals as goal

pub returns-clause-at_front : goal.returns-clause-at_front
returns-clause-at_front c =
    let n = c.in_ok-n.ensures in
    number_at_front (count_width_of c.args.version) (λ m. None) c.in_ok-n.n c.args.piece.now n.0 c.in_ok-n.after.now n.1 n.2 refl
