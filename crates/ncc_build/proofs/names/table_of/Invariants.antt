use Rattle.std.proofs.Common.{◌≡◌, map, take}
use Rattle.ncc_build.proofs.names.table_of.Given as goal

abbrev pub invariant-loop-name : goal.invariant-loop-name
invariant-loop-name l = map (λ k. k.items) l.table.keys ≡ take l.name-index l.names
