use Rattle.ncc_build.proofs.Builders.{started, start_built}
use Rattle.ncc_build.proofs.builder.SchemaBuilder.new.Goals as goal

pub invariant_of-result-clause-built : goal.invariant_of-result-clause-built
invariant_of-result-clause-built c = start_built c.args.version _ (started c.args.version c.new.result c.new-2.result c.new-3.result c.new.ensures c.new-2.ensures c.new-3.ensures)
