use Rattle.std.proofs.Common.{length}
use Rattle.ncc_values.specs.Name.{is_name}
use Rattle.ncc_values.proofs.NamesTold.{name_told}
use Rattle.ncc_values.specs.Values.{type_of, count_of}
use Rattle.ncc_build.specs.Building.{attr_names}
use Rattle.ncc_build.specs.Judging.{name_refusals, kind_refusals}
use Rattle.ncc_build.proofs.Refusals.{refused_at, judged_next}
use Rattle.ncc_build.proofs.judging.judge_attr.Goals as goal

pub returns-in_err-judge_name-clause-judged : goal.returns-in_err-judge_name-clause-judged
returns-in_err-judge_name-clause-judged c =
    let kinds = kind_refusals c.args.version (type_of c.args.values.now) (length c.args.attrs.now) (count_of c.args.values.now) in
    let judged = c.in_err-judge_name.ensures.judged (is_name c.args.name.now) (name_told c.args.name.now) in
    refused_at _ (name_refusals (is_name c.args.name.now) (attr_names c.args.attrs.now) c.args.name.now) kinds c.in_err-judge_name.field-0.0 c.from_residual.result c.from_residual.ensures.1 (rw c.requires at judged)

pub returns-clause-judged : goal.returns-clause-judged
returns-clause-judged c =
    let kinds = kind_refusals c.args.version (type_of c.args.values.now) (length c.args.attrs.now) (count_of c.args.values.now) in
    let judged = c.in_ok-judge_name.ensures.judged (is_name c.args.name.now) (name_told c.args.name.now) in
    let kind = c.judge_kind.ensures in
    judged_next (name_refusals (is_name c.args.name.now) (attr_names c.args.attrs.now) c.args.name.now) kinds c.in_ok-judge_name.field-0 c.judge_kind.result (rw c.requires at judged) (rw (← c.xtype.ensures, ← c.len.ensures) kind)
