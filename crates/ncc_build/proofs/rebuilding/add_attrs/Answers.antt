use Rattle.std.proofs.Common.{length, refl, ap, ◌∙◌, arith}
use Rattle.ncc_values.specs.Name.{is_name}
use Rattle.ncc_schema.specs.declared.schema.Schema.{Schema}
use Rattle.ncc_build.specs.Building.{refuses_attr, refuses_attrs, with_attr, with_attrs}
use Rattle.ncc_build.proofs.Anew.{item_refused, item_passed, item_added, length_with}
use Rattle.ncc_build.proofs.rebuilding.add_attrs.Goals as goal

pub returns-in_err-attr-clause-judged : goal.returns-in_err-attr-clause-judged
returns-in_err-attr-clause-judged c =
    let judged = c.in_err-attr.ensures.judged in
    item_refused (λ s a. refuses_attr (is_name a.name) s c.args.var a.name a.values) (λ s a. with_attr s c.args.var a.name a.values) (λ s attrs. refuses_attrs s c.args.var attrs) (λ s a attrs. refl)
    c.args.builder.now.schema c.loop-attr.builder.schema c.args.attrs.now c.loop-attr.attr-index c.loop-attr.invariant.refused
    _ c.attr-item.result c.attr-item.result c.in_err-attr.field-0.0 c.from_residual-in_err-attr.result c.loop-attr-test.true c.attr-item.is c.from_residual-in_err-attr.ensures.1
    (rw (c.as_slice.ensures, c.in_ok-values.ensures) at judged)

pub loop-attr-preserved : goal.loop-attr-preserved
loop-attr-preserved c =
    let grown = rw (c.as_slice.ensures, c.in_ok-values.ensures) at c.in_ok-attr.ensures.added in
    record {
      there = omega (arith, c.loop-attr.invariant.there, ap (λ (s : Schema). length s.vars) grown ∙ length_with c.loop-attr.builder.schema.vars c.args.var c.attr-item.result.name c.attr-item.result.values);
      refused =
          let judged = c.in_ok-attr.ensures.judged in
          item_passed (λ s a. refuses_attr (is_name a.name) s c.args.var a.name a.values) (λ s a. with_attr s c.args.var a.name a.values) (λ s attrs. refuses_attrs s c.args.var attrs) (λ s a attrs. refl)
          c.args.builder.now.schema c.loop-attr.builder.schema c.args.attrs.now c.loop-attr.attr-index c.loop-attr.invariant.refused
          c.attr-item.result c.attr-item.result c.attr.new.self.schema _ c.loop-attr-test.true c.attr-item.is (rw (c.as_slice.ensures, c.in_ok-values.ensures) at judged) grown;
      added =
          item_added (λ s a. with_attr s c.args.var a.name a.values) (λ s attrs. with_attrs s c.args.var attrs) (λ s a attrs. refl)
          c.args.builder.now.schema c.loop-attr.builder.schema c.args.attrs.now c.loop-attr.attr-index c.loop-attr.invariant.added
          c.attr-item.result c.attr-item.result c.attr.new.self.schema c.loop-attr-test.true c.attr-item.is grown;
    }
