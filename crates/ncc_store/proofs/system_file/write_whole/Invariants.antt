use Rattle.std.proofs.Common.{◌≡◌, ◌≤◌, ◌+◌, true, length}
use Rattle.ncc_store.proofs.WholePieces.{WrittenSoFar}
use Rattle.ncc_store.proofs.system_file.write_whole.Given as goal

abbrev pub invariant-loop-rest : goal.invariant-loop-rest
invariant-loop-rest g l =
    WrittenSoFar g.F.SystemFile.images g.F.SystemFile.moment g.F.SystemFile.images_since g.F.SystemFile.tells_bytes g.F.SystemFile.bytes l.fn.file l.file l.fn.place l.at l.piece l.rest
    × (g.F.SystemFile.failed l.file ≡ g.F.SystemFile.failed l.fn.file) × (g.F.SystemFile.sound l.file ≡ true)
    × (length l.piece ≤ 8 → g.F.SystemFile.calls l.file ≤ g.F.SystemFile.calls l.fn.file + 1)
    × (g.F.SystemFile.calls l.file + length l.rest ≤ g.F.SystemFile.calls l.fn.file + length l.piece)

abbrev pub decreases-loop-rest : goal.decreases-loop-rest
decreases-loop-rest g l = length l.rest
