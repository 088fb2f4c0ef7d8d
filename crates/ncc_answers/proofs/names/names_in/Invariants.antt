use Rattle.std.proofs.Common.{◌≡◌, ◌++◌, length}
use Rattle.std.specs.List.{flat_map, AllByRecursion}
use Rattle.ncc_answers.specs.Names.{IsName, ended}
use Rattle.ncc_answers.proofs.names.names_in.Given as goal

abbrev pub invariant-loop-rest : goal.invariant-loop-rest
invariant-loop-rest l = record {
  names : AllByRecursion IsName l.names.items;
  so_far : l.list ≡ flat_map ended l.names.items ++ l.rest;
}

abbrev pub decreases-loop-rest : goal.decreases-loop-rest
decreases-loop-rest l = length l.rest
