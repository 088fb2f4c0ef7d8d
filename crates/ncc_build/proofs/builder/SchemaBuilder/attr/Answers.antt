use Rattle.std.proofs.Common.{true}
use Rattle.ncc_values.specs.Name.{is_name}
use Rattle.ncc_values.proofs.NamesTold.{name_is}
use Rattle.ncc_build.specs.Building.{refuses_attr}
use Rattle.ncc_build.proofs.Refusals.{other_at, memory_at, none_refused, passed}
use Rattle.ncc_build.proofs.builder.SchemaBuilder.attr.Goals as goal

pub returns-in_err-judge_of_var-clause-judged : goal.returns-in_err-judge_of_var-clause-judged
returns-in_err-judge_of_var-clause-judged c =
    other_at _ (refuses_attr (is_name c.args.name.now) c.args.self.now.schema c.args.var c.args.name.now c.args.values) c.in_err-judge_of_var.field-0.0 c.from_residual.result c.from_residual.ensures.1 (c.in_err-judge_of_var.ensures.judged)

pub add_attr-requires-clause-passes : goal.add_attr-requires-clause-passes
add_attr-requires-clause-passes c =
    let judged = c.in_ok-judge_of_var.ensures.judged in
    none_refused (refuses_attr true c.args.self.now.schema c.args.var c.args.name.now c.args.values) c.in_ok-judge_of_var.field-0 (rw (name_is c.args.name.now c.in_ok-judge_of_var.ensures.fits) at judged)

pub returns-in_err-add_attr-clause-judged : goal.returns-in_err-add_attr-clause-judged
returns-in_err-add_attr-clause-judged c =
    memory_at (refuses_attr (is_name c.args.name.now) c.args.self.now.schema c.args.var c.args.name.now c.args.values) c.from_residual-in_err-add_attr.result c.from_residual-in_err-add_attr.ensures.1

pub returns-clause-judged : goal.returns-clause-judged
returns-clause-judged c =
    passed (refuses_attr (is_name c.args.name.now) c.args.self.now.schema c.args.var c.args.name.now c.args.values) c.in_ok-judge_of_var.field-0 _ (c.in_ok-judge_of_var.ensures.judged)
