use Rattle.std.proofs.Common.{length, ◌++◌}
use Rattle.ncc_values.specs.Name.{is_name}
use Rattle.ncc_values.proofs.NamesTold.{name_told}
use Rattle.ncc_build.specs.Building.{var_names}
use Rattle.ncc_build.specs.Judging.{name_refusals, dims_refusals, kind_refusals}
use Rattle.ncc_build.proofs.Refusals.{refused_at, judged_next}
use Rattle.ncc_build.proofs.builder.SchemaBuilder.judge_var.Goals as goal

pub returns-in_err-judge_name-clause-judged : goal.returns-in_err-judge_name-clause-judged
returns-in_err-judge_name-clause-judged c =
    let s = c.args.self.now.schema in
    let ids = c.args.dims.now in
    let judged = c.in_err-judge_name.ensures.judged (is_name c.args.name.now) (name_told c.args.name.now) in
    refused_at _ (name_refusals (is_name c.args.name.now) (var_names s) c.args.name.now) (dims_refusals s.dims ids ++ kind_refusals s.version c.args.xtype (length s.vars) (length ids)) c.in_err-judge_name.field-0.0
    c.from_residual.result c.from_residual.ensures.1 (rw c.args.self.now.vars_named at judged)

pub returns-in_err-judge_ids-clause-judged : goal.returns-in_err-judge_ids-clause-judged
returns-in_err-judge_ids-clause-judged c =
    let s = c.args.self.now.schema in
    let ids = c.args.dims.now in
    let kinds = kind_refusals s.version c.args.xtype (length s.vars) (length ids) in
    let judged = c.in_ok-judge_name.ensures.judged (is_name c.args.name.now) (name_told c.args.name.now) in
    let there = c.in_err-judge_ids.ensures in
    judged_next (name_refusals (is_name c.args.name.now) (var_names s) c.args.name.now) (dims_refusals s.dims ids ++ kinds) c.in_ok-judge_name.field-0 c.from_residual-in_err-judge_ids.result (rw c.args.self.now.vars_named at judged)
    (refused_at _ (dims_refusals s.dims ids) kinds c.in_err-judge_ids.field-0.0 c.from_residual-in_err-judge_ids.result c.from_residual-in_err-judge_ids.ensures.1 (rw c.as_slice.ensures at there))

pub returns-clause-judged : goal.returns-clause-judged
returns-clause-judged c =
    let s = c.args.self.now.schema in
    let ids = c.args.dims.now in
    let kinds = kind_refusals s.version c.args.xtype (length s.vars) (length ids) in
    let judged = c.in_ok-judge_name.ensures.judged (is_name c.args.name.now) (name_told c.args.name.now) in
    let there = c.in_ok-judge_ids.ensures in
    let kind = c.judge_kind.ensures in
    judged_next (name_refusals (is_name c.args.name.now) (var_names s) c.args.name.now) (dims_refusals s.dims ids ++ kinds) c.in_ok-judge_name.field-0 c.judge_kind.result (rw c.args.self.now.vars_named at judged)
    (judged_next (dims_refusals s.dims ids) kinds c.in_ok-judge_ids.field-0 c.judge_kind.result (rw c.as_slice.ensures at there) (rw (← c.len.ensures) kind))
