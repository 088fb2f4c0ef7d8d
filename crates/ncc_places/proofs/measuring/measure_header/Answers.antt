use Rattle.ncc_places.proofs.measuring.measure_header.Goals as goal

pub returns-in-Err-clause-refuses : goal.returns-in-Err-clause-refuses
returns-in-Err-clause-refuses c = c.in-Err.ensures.refuses c.args.file_length
