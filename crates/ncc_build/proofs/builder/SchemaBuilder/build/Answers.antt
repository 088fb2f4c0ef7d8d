use Rattle.std.proofs.Common.{ap, sym, ltb, ◌∙◌}
use Rattle.ncc_schema.specs.declared.schema.Schema.{Schema}
use Rattle.ncc_schema.specs.Schema.{record_dims}
use Rattle.ncc_build.specs.Building.{attr_names, dim_names, var_names}
use Rattle.ncc_build.specs.Tables.{names_of_attrs}
use Rattle.ncc_build.proofs.Builders.{built_counted, built_unmoved, recounted}
use Rattle.ncc_build.proofs.SoundProps.{sound_of}
use Rattle.ncc_build.proofs.builder.SchemaBuilder.build.Goals as goal

pub standard-requires-clause-sound : goal.standard-requires-clause-sound
standard-requires-clause-sound c =
    sound_of c.recount-counted.result
    (built_counted c.args.self.schema c.recount-counted.result c.args.records c.limit_of_counts.result c.recount-counted.ensures c.limit_of_counts.ensures c.if-records-limit_of_counts.false c.args.self.built)

pub new-requires-clause-built : goal.new-requires-clause-built
new-requires-clause-built c =
    built_counted c.args.self.schema c.recount-counted.result c.args.records c.limit_of_counts.result c.recount-counted.ensures c.limit_of_counts.ensures c.if-records-limit_of_counts.false c.args.self.built

pub invariant_of-builder : goal.invariant_of-builder
invariant_of-builder c =
    let s = c.args.self.schema in
    let same = sym (recounted s c.recount-counted.result c.recount.result c.args.records c.recount-counted.ensures c.recount.ensures c.args.self.none) in
    record {
      built = built_unmoved s c.recount.result c.args.self.built (sym same);
      none = ap (λ (t : Schema). t.count) (sym same) ∙ c.args.self.none;
      record_dim = c.args.self.record_dim ∙ ap (λ (t : Schema). ltb 0 (record_dims t.dims)) same;
      dims_named = c.args.self.dims_named ∙ ap dim_names same;
      globals_named = c.args.self.globals_named ∙ ap (λ (t : Schema). attr_names t.gatts) same;
      vars_named = c.args.self.vars_named ∙ ap var_names same;
      attrs_named = c.args.self.attrs_named ∙ ap names_of_attrs same;
    }
