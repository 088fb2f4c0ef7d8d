use Rattle.std.proofs.Common.{◌≡◌, ◌++◌, drop, map}
use Rattle.ncc_listed.proofs.attributes.bytes_of.Given as goal

abbrev pub invariant-loop-c : goal.invariant-loop-c
invariant-loop-c l = l.bytes.items ++ map (λ x. x.0) (drop l.c-index l.chars) ≡ map (λ x. x.0) l.chars
