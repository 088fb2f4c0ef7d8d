use Rattle.ncc_write.proofs.Pages.{first_out}
use Rattle.ncc_write.proofs.paged_sink.PagedSink.over.Goals as goal

pub returns-clause-pages : goal.returns-clause-pages
returns-clause-pages g c = first_out c.args.sent
