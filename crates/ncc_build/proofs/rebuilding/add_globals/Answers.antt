use Rattle.std.proofs.Common.{◌≡◌, List, ◌∷◌, refl}
use Rattle.ncc_values.specs.Name.{is_name}
use Rattle.ncc_schema.specs.declared.schema.Attr.{Attr}
use Rattle.ncc_schema.specs.declared.schema.Schema.{Schema}
use Rattle.ncc_build.specs.Building.{refuses_global, refuses_globals, with_global, with_globals}
use Rattle.ncc_build.proofs.Anew.{item_refused, item_passed, item_added, put_more}
use Rattle.ncc_build.proofs.rebuilding.add_globals.Goals as goal

globals_more : (s : Schema) (a : Attr) (attrs : List Attr) → with_globals s (a ∷ attrs) ≡ with_globals (with_global s a.name a.values) attrs
globals_more s a attrs = put_more (λ (gs : List Attr). record { version = s.version; count = s.count; dims = s.dims; gatts = gs; vars = s.vars }) s.gatts a attrs

pub returns-in_err-global-clause-judged : goal.returns-in_err-global-clause-judged
returns-in_err-global-clause-judged c =
    let judged = c.in_err-global.ensures.judged in
    item_refused (λ s a. refuses_global (is_name a.name) s a.name a.values) (λ s a. with_global s a.name a.values) refuses_globals (λ s a attrs. refl)
    c.args.builder.now.schema c.loop-attr.builder.schema c.args.attrs.now c.loop-attr.attr-index c.loop-attr.invariant.refused
    _ c.attr-item.result c.attr-item.result c.in_err-global.field-0.0 c.from_residual-in_err-global.result c.loop-attr-test.true c.attr-item.is c.from_residual-in_err-global.ensures.1
    (rw (c.as_slice.ensures, c.in_ok-values.ensures) at judged)

pub loop-attr-preserved : goal.loop-attr-preserved
loop-attr-preserved c =
    let grown = rw (c.as_slice.ensures, c.in_ok-values.ensures) at c.in_ok-global.ensures.added in
    record {
      refused =
          let judged = c.in_ok-global.ensures.judged in
          item_passed (λ s a. refuses_global (is_name a.name) s a.name a.values) (λ s a. with_global s a.name a.values) refuses_globals (λ s a attrs. refl)
          c.args.builder.now.schema c.loop-attr.builder.schema c.args.attrs.now c.loop-attr.attr-index c.loop-attr.invariant.refused
          c.attr-item.result c.attr-item.result c.global.new.self.schema _ c.loop-attr-test.true c.attr-item.is (rw (c.as_slice.ensures, c.in_ok-values.ensures) at judged) grown;
      added =
          item_added (λ s a. with_global s a.name a.values) with_globals globals_more
          c.args.builder.now.schema c.loop-attr.builder.schema c.args.attrs.now c.loop-attr.attr-index c.loop-attr.invariant.added
          c.attr-item.result c.attr-item.result c.global.new.self.schema c.loop-attr-test.true c.attr-item.is grown;
    }
