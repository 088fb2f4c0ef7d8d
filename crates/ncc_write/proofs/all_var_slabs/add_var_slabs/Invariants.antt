use Rattle.std.proofs.Common.{◌≡◌, ◌++◌, map, drop}
use Rattle.std.specs.List.{AllByRecursion}
use Rattle.ncc_schema.specs.Schema.{LegalVar}
use Rattle.ncc_write.specs.VarSlabs.{var_slab_for}
use Rattle.ncc_write.proofs.Rounds.{kind_slabs}
use Rattle.ncc_write.proofs.all_var_slabs.add_var_slabs.Given as goal

abbrev pub invariant-loop-number : goal.invariant-loop-number
invariant-loop-number l = record {
  var_slabs : l.var_slabs.items ++ map (var_slab_for l.schema) (kind_slabs l.schema l.records l.number (drop l.number l.schema.vars)) ≡ l.fn.var_slabs.items ++ map (var_slab_for l.schema) (kind_slabs l.schema l.records 0 l.schema.vars);
  legal : AllByRecursion (LegalVar l.schema.version l.schema.dims) (drop l.number l.schema.vars);
}
