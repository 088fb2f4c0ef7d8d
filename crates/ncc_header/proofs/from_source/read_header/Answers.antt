use Rattle.ncc_header.proofs.FromSource.{final_source, final_left, nothing_left}
use Rattle.ncc_header.proofs.from_source.read_header.Goals as goal

pub returns-in-Ok-clause-answers : goal.returns-in-Ok-clause-answers
returns-in-Ok-clause-answers g c =
    let left = g.R.Source.left in
    let read = c.in-Ok.ensures.ok in
    final_source (left c.args.source.now) (left c.read_wanted.new.source) c.read_wanted.new.decoder c.args.limit read.0 c.finish.result read.1 read.2 c.finish.ensures.answers

pub returns-in-Ok-clause-exactly : goal.returns-in-Ok-clause-exactly
returns-in-Ok-clause-exactly g c =
    let left = g.R.Source.left in
    let read = c.in-Ok.ensures.ok in
    final_left (left c.args.source.now) (left c.read_wanted.new.source) c.read_wanted.new.decoder c.args.limit read.0 c.finish.result read.1 c.finish.ensures.whole

pub returns-in-Err-clause-exactly : goal.returns-in-Err-clause-exactly
returns-in-Err-clause-exactly g c =
    let left = g.R.Source.left in
    nothing_left (left c.args.source.now) (left c.read_wanted.new.source) c.in-Err.met
