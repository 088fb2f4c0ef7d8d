use Rattle.ncc_header.specs.Decoder.{limit_of}
use Rattle.ncc_explain.proofs.Fronts.{faulted_on}
use Rattle.ncc_explain.proofs.front.feed_piece.Goals as goal

pub returns-in-Err-Fault-clause-settled : goal.returns-in-Err-Fault-clause-settled
returns-in-Err-Fault-clause-settled g c = λ no taken t.
    let at = c.in-Err-Fault in
    faulted_on c.feed.new.self taken c.read_at.new.out (limit_of c.args.decoder.now) at.field-0 at.field-0-0 at.field-0-is (at.ensures.answers taken t) (at.ensures.takes taken t)
