use Rattle.std.proofs.Common.{ap}
use Rattle.ncc_schema.specs.declared.schema.Schema.{Schema}
use Rattle.ncc_build.specs.declared.built.Built.{Built}
use Rattle.ncc_build.specs.Building.{refuses_schema}
use Rattle.ncc_build.proofs.Refusals.{none_refused}
use Rattle.ncc_build.proofs.Anew.{refused_by_item, rebuilt_so, refused_last}
use Rattle.ncc_build.proofs.rebuilding.rebuilt.Goals as goal

pub returns-in-Ok-clause-judged : goal.returns-in-Ok-clause-judged
returns-in-Ok-clause-judged c =
    let version = c.new-builder.result.schema.version in
    let none = none_refused (refuses_schema version c.args.schema.now) _ c.in_ok-add_all.ensures.judged in
    rebuilt_so c.args.version version c.args.schema.now c.add_all.new.builder.schema c.args.records
    (ap (λ (s : Schema). s.version) c.new-builder.ensures) none c.in_ok-add_all.ensures.added Built c.in-Ok.built c.in-Ok.ensures.passes

pub returns-clause-judged : goal.returns-clause-judged
returns-clause-judged c =
    let version = c.new-builder.result.schema.version in
    let none = none_refused (refuses_schema version c.args.schema.now) _ c.in_ok-add_all.ensures.judged in
    refused_last c.args.version version c.args.schema.now c.add_all.new.builder.schema c.args.records
    (ap (λ (s : Schema). s.version) c.new-builder.ensures) none c.in_ok-add_all.ensures.added Built c.in-Err.fault c.in-Err.ensures.refused.1

pub returns-in_err-add_all-clause-judged : goal.returns-in_err-add_all-clause-judged
returns-in_err-add_all-clause-judged c =
    refused_by_item (Unit {0}) c.args.version c.new-builder.result.schema.version c.args.schema.now c.args.records c.in_err-add_all.field-0.0 c.from_residual.result
    (ap (λ (s : Schema). s.version) c.new-builder.ensures) c.from_residual.ensures.1 c.in_err-add_all.ensures.judged
