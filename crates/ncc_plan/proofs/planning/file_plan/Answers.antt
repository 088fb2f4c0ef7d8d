use Rattle.ncc_build.specs.declared.built.Built.{Built}
use Rattle.ncc_plan.proofs.Refusals.{of_schema}
use Rattle.ncc_plan.proofs.planning.file_plan.Goals as goal

pub returns-in-Err-clause-refused : goal.returns-in-Err-clause-refused
returns-in-Err-clause-refused c = of_schema Built c.args.version c.args.schema.now c.args.records c.in-Err.fault c.in-Err.ensures.judged
