use Rattle.std.proofs.Common.{◌≡◌, List, ◌∷◌}
use Rattle.ncc_schema.specs.declared.schema.Var.{Var}
use Rattle.ncc_schema.specs.declared.schema.Schema.{Schema}
use Rattle.ncc_build.specs.Building.{refuses_whole, refuses_vars, with_whole, with_vars}
use Rattle.ncc_build.proofs.Anew.{item_refused, item_passed, item_added, put_more, vars_more}
use Rattle.ncc_build.proofs.rebuilding.add_vars.Goals as goal

wholes_more : (s : Schema) (x : Var) (vars : List Var) → with_vars s (x ∷ vars) ≡ with_vars (with_whole s x) vars
wholes_more s x vars = put_more (λ (xs : List Var). record { version = s.version; count = s.count; dims = s.dims; gatts = s.gatts; vars = xs }) s.vars x vars

pub returns-in_err-add_whole-clause-judged : goal.returns-in_err-add_whole-clause-judged
returns-in_err-add_whole-clause-judged c =
    item_refused refuses_whole with_whole refuses_vars vars_more
    c.args.builder.now.schema c.loop-var.builder.schema c.args.vars.now c.loop-var.var-index c.loop-var.invariant.refused
    _ c.var-item.result c.var-item.result c.in_err-add_whole.field-0.0 c.from_residual.result c.loop-var-test.true c.var-item.is c.from_residual.ensures.1 (c.in_err-add_whole.ensures.judged)

pub loop-var-preserved : goal.loop-var-preserved
loop-var-preserved c =
    record {
      refused =
          item_passed refuses_whole with_whole refuses_vars vars_more
          c.args.builder.now.schema c.loop-var.builder.schema c.args.vars.now c.loop-var.var-index c.loop-var.invariant.refused
          c.var-item.result c.var-item.result c.add_whole.new.builder.schema _ c.loop-var-test.true c.var-item.is (c.in_ok-add_whole.ensures.judged) c.in_ok-add_whole.ensures.added;
      added =
          item_added with_whole with_vars wholes_more
          c.args.builder.now.schema c.loop-var.builder.schema c.args.vars.now c.loop-var.var-index c.loop-var.invariant.added
          c.var-item.result c.var-item.result c.add_whole.new.builder.schema c.loop-var-test.true c.var-item.is c.in_ok-add_whole.ensures.added;
    }
