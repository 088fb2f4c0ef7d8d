use Rattle.std.proofs.Common.{◌≡◌, ◌+◌, ◌++◌, length, Err, ap, inr, arith}
use Rattle.ncc_header.specs.Decoder.{limit_of}
use Rattle.ncc_check.specs.declared.fault.Refusal.TheVariants.{Memory}
use Rattle.ncc_check.proofs.FromStore.{refused_on, failed_memory}
use Rattle.ncc_check.proofs.reading.feed_piece.Goals as goal

pub returns-in-Err-clause-err : goal.returns-in-Err-clause-err
returns-in-Err-clause-err g c =
    let piece = c.read_at.new.out in
    inr (piece, c.in_ok-read_at.ensures.told, λ taken t. refused_on (taken ++ piece) (limit_of c.args.decoder.now) c.in-Err.error c.from.result c.from.ensures (c.in-Err.ensures.answers taken t))

pub returns-in-Err-clause-memory : goal.returns-in-Err-clause-memory
returns-in-Err-clause-memory g c is taken t =
    let piece = c.read_at.new.out in
    let same : c.from.result ≡ Memory = cc in
    let past = failed_memory c.args.decoder.now (length taken + length piece) c.in-Err.error c.from.result c.from.ensures same c.requires.fresh (λ few memory. c.in-Err.ensures.few taken t few (ap Err memory)) in
    omega (arith, past, c.read_at.auto.out)
