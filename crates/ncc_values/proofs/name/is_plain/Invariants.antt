use Rattle.ncc_values.proofs.NameLemmas.{Plain}
use Rattle.ncc_values.proofs.name.is_plain.Given as goal

abbrev pub invariant-loop-byte : goal.invariant-loop-byte
invariant-loop-byte l = Plain l.first l.last l.rest l.byte-index
