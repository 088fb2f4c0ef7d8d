use Rattle.std.proofs.Common.{true}
use Rattle.ncc_values.specs.Name.{is_name}
use Rattle.ncc_values.proofs.NamesTold.{name_is}
use Rattle.ncc_build.specs.Building.{refuses_var}
use Rattle.ncc_build.proofs.Refusals.{other_at, memory_at, none_refused, passed}
use Rattle.ncc_build.proofs.builder.SchemaBuilder.var.Goals as goal

pub returns-in_err-judge_var-clause-judged : goal.returns-in_err-judge_var-clause-judged
returns-in_err-judge_var-clause-judged c =
    other_at _ (refuses_var (is_name c.args.name.now) c.args.self.now.schema c.args.name.now c.args.xtype c.args.dims.now) c.in_err-judge_var.field-0.0 c.from_residual.result c.from_residual.ensures.1 (c.in_err-judge_var.ensures.judged)

pub add_var-requires-clause-passes : goal.add_var-requires-clause-passes
add_var-requires-clause-passes c =
    let judged = c.in_ok-judge_var.ensures.judged in
    none_refused (refuses_var true c.args.self.now.schema c.args.name.now c.args.xtype c.args.dims.now) c.in_ok-judge_var.field-0 (rw (name_is c.args.name.now c.in_ok-judge_var.ensures.fits) at judged)

pub returns-in_err-add_var-clause-judged : goal.returns-in_err-add_var-clause-judged
returns-in_err-add_var-clause-judged c =
    memory_at (refuses_var (is_name c.args.name.now) c.args.self.now.schema c.args.name.now c.args.xtype c.args.dims.now) c.from_residual-in_err-add_var.result c.from_residual-in_err-add_var.ensures.1

pub returns-clause-judged : goal.returns-clause-judged
returns-clause-judged c =
    passed (refuses_var (is_name c.args.name.now) c.args.self.now.schema c.args.name.now c.args.xtype c.args.dims.now) c.in_ok-judge_var.field-0 _ (c.in_ok-judge_var.ensures.judged)
