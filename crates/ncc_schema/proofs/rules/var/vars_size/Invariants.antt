use Rattle.std.proofs.Common.{◌≡◌, length, take}
use Rattle.std.specs.List.{flat_map}
use Rattle.ncc_schema.specs.Names.{capped, canon_unplaced}
use Rattle.ncc_schema.proofs.rules.var.vars_size.Given as goal

abbrev pub invariant-loop-var : goal.invariant-loop-var
invariant-loop-var l = l.size ≡ capped (length (flat_map (canon_unplaced l.version) (take l.var-index l.vars)))
