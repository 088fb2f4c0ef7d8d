use Rattle.std.proofs.Common.{arith}
use Rattle.ncc_write.proofs.Pages.{page_stays}
use Rattle.ncc_write.proofs.paged_sink.PagedSink.hold.Goals as goal

pub returns-then-end-self-clause-pages : goal.returns-then-end-self-clause-pages
returns-then-end-self-clause-pages g c = λ first n m p more. page_stays first n m _ _ c.args.end p more (omega (arith, c.if-end-self.true))
