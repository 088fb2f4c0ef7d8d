use Rattle.std.proofs.Common.{◌≡◌, ◌++◌, drop}
use Rattle.std.specs.List.{flat_map}
use Rattle.ncc_listed.specs.Members.{dim_object}
use Rattle.ncc_listed.proofs.objects.put_each_dim.Given as goal

abbrev pub invariant-loop-dim : goal.invariant-loop-dim
invariant-loop-dim l =
    (l.out.tokens ++ flat_map dim_object (drop l.dim-index l.dims) ≡ l.fn.out.tokens ++ flat_map dim_object l.dims) × (l.out.before ≡ l.fn.out.before)
