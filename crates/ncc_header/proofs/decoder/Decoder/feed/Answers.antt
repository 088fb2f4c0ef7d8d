use Rattle.ncc_header.specs.Decoder.{limit_of}
use Rattle.ncc_header.proofs.Answering.{done_or_memory, fault_or_memory}
use Rattle.ncc_header.proofs.decoder.Decoder.feed.Goals as goal

pub returns-clause-done : goal.returns-clause-done
returns-clause-done c = λ taken used t few w.
    done_or_memory taken c.args.piece.now (limit_of c.args.self.now) used c.advance.result (c.advance.ensures.answers taken t) few w

pub returns-clause-fault : goal.returns-clause-fault
returns-clause-fault c = λ taken f t stops.
    fault_or_memory taken c.args.piece.now (limit_of c.args.self.now) f c.advance.result (c.advance.ensures.answers taken t) stops
