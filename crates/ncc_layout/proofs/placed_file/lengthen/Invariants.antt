use Rattle.std.proofs.Common.{◌≡◌, ◌++◌, take, drop, map}
use Rattle.std.specs.List.{AllByRecursion}
use Rattle.ncc_layout.specs.Elements.{HasLengths, with_records}
use Rattle.ncc_layout.proofs.placed_file.lengthen.Given as goal

abbrev pub invariant-loop-var : goal.invariant-loop-var
invariant-loop-var l = record {
  so_far : l.var-items ≡ map (with_records l.records) (take l.var-index l.initial.var-items) ++ drop l.var-index l.initial.var-items;
  rest : AllByRecursion HasLengths (drop l.var-index l.initial.var-items);
}
