use Rattle.std.proofs.Common.{true}
use Rattle.ncc_values.specs.Name.{is_name}
use Rattle.ncc_values.proofs.NamesTold.{name_is}
use Rattle.ncc_build.specs.Building.{refuses_dim}
use Rattle.ncc_build.proofs.Refusals.{other_at, memory_at, none_refused, passed}
use Rattle.ncc_build.proofs.builder.SchemaBuilder.dim.Goals as goal

pub returns-in_err-judge_dim-clause-judged : goal.returns-in_err-judge_dim-clause-judged
returns-in_err-judge_dim-clause-judged c =
    other_at _ (refuses_dim (is_name c.args.name.now) c.args.self.now.schema c.args.name.now c.args.len) c.in_err-judge_dim.field-0.0 c.from_residual.result c.from_residual.ensures.1 (c.in_err-judge_dim.ensures.judged)

pub add_dim-requires-clause-passes : goal.add_dim-requires-clause-passes
add_dim-requires-clause-passes c =
    let judged = c.in_ok-judge_dim.ensures.judged in
    none_refused (refuses_dim true c.args.self.now.schema c.args.name.now c.args.len) c.in_ok-judge_dim.field-0 (rw (name_is c.args.name.now c.in_ok-judge_dim.ensures.fits) at judged)

pub returns-in_err-add_dim-clause-judged : goal.returns-in_err-add_dim-clause-judged
returns-in_err-add_dim-clause-judged c =
    memory_at (refuses_dim (is_name c.args.name.now) c.args.self.now.schema c.args.name.now c.args.len) c.from_residual-in_err-add_dim.result c.from_residual-in_err-add_dim.ensures.1

pub returns-clause-judged : goal.returns-clause-judged
returns-clause-judged c =
    passed (refuses_dim (is_name c.args.name.now) c.args.self.now.schema c.args.name.now c.args.len) c.in_ok-judge_dim.field-0 _ (c.in_ok-judge_dim.ensures.judged)
