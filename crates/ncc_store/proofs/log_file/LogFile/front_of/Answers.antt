use Rattle.std.proofs.Common.{arith, ◌<◌, length}
use Rattle.std.proofs.lemmas.Bool.Decides.{nat_tests}
use Rattle.ncc_store.proofs.Pieces.{unsynced_front}
use Rattle.ncc_store.proofs.log_file.LogFile.front_of.Goals as goal

pub returns-clause-torn : goal.returns-clause-torn
returns-clause-torn c place d image torn =
    let long : 8 < length c.args.piece.now = grind (arith, nat_tests) in
    unsynced_front place c.min.result c.args.piece.now d image long torn
