use Rattle.std.proofs.Common.{◌≡◌, List, ◌∷◌, refl}
use Rattle.ncc_values.specs.Name.{is_name}
use Rattle.ncc_schema.specs.declared.schema.Dim.{Dim}
use Rattle.ncc_schema.specs.declared.schema.Schema.{Schema}
use Rattle.ncc_build.specs.Building.{refuses_dim, refuses_dims, with_dim, with_dims}
use Rattle.ncc_build.proofs.Anew.{item_refused, item_passed, item_added, put_more}
use Rattle.ncc_build.proofs.rebuilding.add_dims.Goals as goal

dims_more : (s : Schema) (d : Dim) (dims : List Dim) → with_dims s (d ∷ dims) ≡ with_dims (with_dim s d.name d.length) dims
dims_more s d dims = put_more (λ (ds : List Dim). record { version = s.version; count = s.count; dims = ds; gatts = s.gatts; vars = s.vars }) s.dims d dims

pub returns-in_err-dim-clause-judged : goal.returns-in_err-dim-clause-judged
returns-in_err-dim-clause-judged c =
    let judged = c.in_err-dim.ensures.judged in
    item_refused (λ s d. refuses_dim (is_name d.name) s d.name d.length) (λ s d. with_dim s d.name d.length) refuses_dims (λ s d ds. refl)
    c.args.builder.now.schema c.loop-dim.builder.schema c.args.dims.now c.loop-dim.dim-index c.loop-dim.invariant.refused
    _ c.dim-item.result c.dim-item.result c.in_err-dim.field-0.0 c.from_residual.result c.loop-dim-test.true c.dim-item.is c.from_residual.ensures.1 (rw c.as_slice.ensures at judged)

pub loop-dim-preserved : goal.loop-dim-preserved
loop-dim-preserved c =
    let grown = rw c.as_slice.ensures at c.in_ok-dim.ensures.added in
    record {
      refused =
          let judged = c.in_ok-dim.ensures.judged in
          item_passed (λ s d. refuses_dim (is_name d.name) s d.name d.length) (λ s d. with_dim s d.name d.length) refuses_dims (λ s d ds. refl)
          c.args.builder.now.schema c.loop-dim.builder.schema c.args.dims.now c.loop-dim.dim-index c.loop-dim.invariant.refused
          c.dim-item.result c.dim-item.result c.dim.new.self.schema _ c.loop-dim-test.true c.dim-item.is (rw c.as_slice.ensures at judged) grown;
      added =
          item_added (λ s d. with_dim s d.name d.length) with_dims dims_more
          c.args.builder.now.schema c.loop-dim.builder.schema c.args.dims.now c.loop-dim.dim-index c.loop-dim.invariant.added
          c.dim-item.result c.dim-item.result c.dim.new.self.schema c.loop-dim-test.true c.dim-item.is grown;
    }
