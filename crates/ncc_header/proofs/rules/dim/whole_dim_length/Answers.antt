use Rattle.ncc_values.specs.Version.{count_width_of}
use Rattle.ncc_header.specs.Fields.{dim_length_wrong}
use Rattle.ncc_header.proofs.WholeItems.{number_at_front}
use Rattle.ncc_header.proofs.rules.dim.whole_dim_length.Goals as goal

pub returns-in-Ok-clause-at_front : goal.returns-in-Ok-clause-at_front
returns-in-Ok-clause-at_front c =
    let n = c.in_ok-n.ensures in
    number_at_front (count_width_of c.args.version) (dim_length_wrong c.args.version c.args.before.now) c.in_ok-n.n c.args.piece.now n.0 c.in_ok-n.after.now n.1 n.2 c.in-Ok.ensures
