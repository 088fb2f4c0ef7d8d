use Rattle.ncc_header.proofs.taking.take_next.Goals as goal

pub returns-in-Err-clause-fails : goal.returns-in-Err-clause-fails
returns-in-Err-clause-fails c = c.in-Err.ensures.err.1 c.args.rest.now
