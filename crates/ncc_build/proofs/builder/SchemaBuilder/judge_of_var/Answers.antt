use Rattle.std.proofs.Common.{subst}
use Rattle.ncc_values.specs.Name.{is_name}
use Rattle.ncc_build.specs.Building.{IsJudged, refuses_attr_of}
use Rattle.ncc_build.proofs.Builders.{var_attrs}
use Rattle.ncc_build.proofs.builder.SchemaBuilder.judge_of_var.Goals as goal

pub returns-clause-judged : goal.returns-clause-judged
returns-clause-judged c =
    let s = c.args.self.now.schema in
    subst (λ attrs. IsJudged (refuses_attr_of (is_name c.args.name.now) s.version attrs c.args.name.now c.args.values.now) c.judge_attr.result)
    (var_attrs s.vars c.as_slice.result.now c.args.var c.index-as_slice-var.result c.as_slice-attrs.result.now c.as_slice-attrs.ensures c.as_slice.ensures c.requires.there)
    (c.judge_attr.ensures.judged)
