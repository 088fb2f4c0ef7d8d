use Rattle.ncc_check.proofs.Headless.{no_sizes, refused_sizes}
use Rattle.ncc_check.proofs.examining.with_sizes.Goals as goal

pub unplaceable-requires-clause-refused : goal.unplaceable-requires-clause-refused
unplaceable-requires-clause-refused c =
    refused_sizes c.args.header c.args.file_length c.in-Err.refusal (c.in-Err.ensures.refuses c.args.file_length)

pub unplaceable-requires-clause-sizes : goal.unplaceable-requires-clause-sizes
unplaceable-requires-clause-sizes c =
    no_sizes c.args.header c.args.file_length c.in-Err.refusal (c.in-Err.ensures.refuses c.args.file_length)
