use Rattle.std.proofs.Common.{true}
use Rattle.ncc_values.specs.Name.{is_name}
use Rattle.ncc_values.proofs.NamesTold.{name_is}
use Rattle.ncc_build.specs.Building.{refuses_global}
use Rattle.ncc_build.proofs.Refusals.{other_at, memory_at, none_refused, passed}
use Rattle.ncc_build.proofs.builder.SchemaBuilder.global.Goals as goal

pub returns-in_err-judge_global-clause-judged : goal.returns-in_err-judge_global-clause-judged
returns-in_err-judge_global-clause-judged c =
    other_at _ (refuses_global (is_name c.args.name.now) c.args.self.now.schema c.args.name.now c.args.values) c.in_err-judge_global.field-0.0 c.from_residual.result c.from_residual.ensures.1 (c.in_err-judge_global.ensures.judged)

pub add_global-requires-clause-passes : goal.add_global-requires-clause-passes
add_global-requires-clause-passes c =
    let judged = c.in_ok-judge_global.ensures.judged in
    none_refused (refuses_global true c.args.self.now.schema c.args.name.now c.args.values) c.in_ok-judge_global.field-0 (rw (name_is c.args.name.now c.in_ok-judge_global.ensures.fits) at judged)

pub returns-in_err-add_global-clause-judged : goal.returns-in_err-add_global-clause-judged
returns-in_err-add_global-clause-judged c =
    memory_at (refuses_global (is_name c.args.name.now) c.args.self.now.schema c.args.name.now c.args.values) c.from_residual-in_err-add_global.result c.from_residual-in_err-add_global.ensures.1

pub returns-clause-judged : goal.returns-clause-judged
returns-clause-judged c =
    passed (refuses_global (is_name c.args.name.now) c.args.self.now.schema c.args.name.now c.args.values) c.in_ok-judge_global.field-0 _ (c.in_ok-judge_global.ensures.judged)
