use Rattle.std.proofs.Common.{sym, arith}
use Rattle.ncc_write.proofs.Pages.{page_goes}
use Rattle.ncc_write.proofs.Streaming.{page_out, page_fails}
use Rattle.ncc_write.proofs.paged_sink.PagedSink.put_page.Goals as goal

pub returns-in_err-write_all-clause-streams : goal.returns-in_err-write_all-clause-streams
returns-in_err-write_all-clause-streams g c =
    page_fails _ _ _ c.args.self.now.buffer.items _ c.args.self.now.full c.args.end _ c.in_err-write_all.field-0.0 c.from_residual.ensures.1 (omega (arith, c.requires))
    (rw (sym c.deref.ensures.value) c.in_err-write_all.ensures.bytes)

pub returns-clause-streams : goal.returns-clause-streams
returns-clause-streams g c =
    rw c.copy_within.ensures.items (page_out _ _ c.args.self.now.buffer.items c.args.self.now.full c.args.end (omega (arith, c.requires))
    (omega (arith, c.requires, c.args.self.now.room, c.args.self.now.page)) (rw (sym c.deref.ensures.value) c.in_ok-write_all.ensures.bytes))

pub returns-clause-pages : goal.returns-clause-pages
returns-clause-pages g c = λ first n m p more. page_goes first n m _ _ c.args.end p more (omega (arith, c.requires)) (omega (arith, c.requires))
