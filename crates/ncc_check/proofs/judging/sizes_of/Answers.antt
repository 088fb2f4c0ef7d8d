use Rattle.ncc_check.proofs.judging.sizes_of.Goals as goal

pub returns-in-Err-TooLarge-clause-refuses : goal.returns-in-Err-TooLarge-clause-refuses
returns-in-Err-TooLarge-clause-refuses c = λ file. c.too_large.ensures file
