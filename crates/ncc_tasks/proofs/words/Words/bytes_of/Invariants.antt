use Rattle.std.proofs.Common.{◌≡◌, drop}
use Rattle.ncc_tasks.specs.Words.{bytes_among}
use Rattle.ncc_tasks.proofs.words.Words.bytes_of.Given as goal

abbrev pub invariant-loop-alias : goal.invariant-loop-alias
invariant-loop-alias l = bytes_among (drop l.alias-index l.alias-items) l.text ≡ bytes_among l.alias-items l.text
