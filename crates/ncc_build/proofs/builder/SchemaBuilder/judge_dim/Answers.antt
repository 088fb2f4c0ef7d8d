use Rattle.ncc_values.specs.Name.{is_name}
use Rattle.ncc_values.proofs.NamesTold.{name_told}
use Rattle.ncc_build.specs.Building.{dim_names}
use Rattle.ncc_build.specs.Judging.{name_refusals, dim_refusals}
use Rattle.ncc_build.proofs.Refusals.{refused_at, judged_next}
use Rattle.ncc_build.proofs.builder.SchemaBuilder.judge_dim.Goals as goal

pub returns-in_err-judge_name-clause-judged : goal.returns-in_err-judge_name-clause-judged
returns-in_err-judge_name-clause-judged c =
    let s = c.args.self.now.schema in
    let judged = c.in_err-judge_name.ensures.judged (is_name c.args.name.now) (name_told c.args.name.now) in
    refused_at _ (name_refusals (is_name c.args.name.now) (dim_names s) c.args.name.now) (dim_refusals s.version s.dims c.args.len) c.in_err-judge_name.field-0.0 c.from_residual.result c.from_residual.ensures.1
    (rw c.args.self.now.dims_named at judged)

pub returns-clause-judged : goal.returns-clause-judged
returns-clause-judged c =
    let s = c.args.self.now.schema in
    let judged = c.in_ok-judge_name.ensures.judged (is_name c.args.name.now) (name_told c.args.name.now) in
    judged_next (name_refusals (is_name c.args.name.now) (dim_names s) c.args.name.now) (dim_refusals s.version s.dims c.args.len) c.in_ok-judge_name.field-0 c.judge_length.result
    (rw c.args.self.now.dims_named at judged) c.judge_length.ensures
