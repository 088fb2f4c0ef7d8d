use Rattle.std.proofs.Common.{◌≡◌, ◌*◌, vec_len}
use Rattle.test_files.proofs.bytes_of.Given as goal

abbrev pub invariant-loop-word : goal.invariant-loop-word
invariant-loop-word l = vec_len l.bytes ≡ 4 * l.word-index
