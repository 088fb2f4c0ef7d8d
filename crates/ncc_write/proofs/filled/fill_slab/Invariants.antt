use Rattle.std.proofs.Common.{◌≡◌, ◌-◌, ◌≤◌, replicate}
use Rattle.std.specs.List.{concat}
use Rattle.ncc_values.specs.Values.{values_of}
use Rattle.ncc_write.specs.VarSlabs.{var_slab_fill}
use Rattle.ncc_write.proofs.filled.fill_slab.Given as goal

abbrev pub invariant-loop-done : goal.invariant-loop-done
invariant-loop-done l = record {
  within : l.done ≤ l.var_slab.elements;
  values : l.values ≡ values_of l.var_slab.xtype (concat (replicate l.done (var_slab_fill l.var_slab)));
}

abbrev pub decreases-loop-done : goal.decreases-loop-done
decreases-loop-done l = l.var_slab.elements - l.done
