use Rattle.std.proofs.Common.{◌≡◌, ◌+◌, ◌++◌, ℕ, List, length, replicate, Ok, Err, ap, sym, subst, ◌∙◌, arith}
use Rattle.std.specs.List.{concat}
use Rattle.ncc_schema.specs.declared.schema.Schema.{Schema}
use Rattle.ncc_build.specs.Fill.{fills}
use Rattle.ncc_build.specs.File.{header_of, padding_bytes}
use Rattle.ncc_write.specs.PagedSink.{Paged, sink_of, waiting}
use Rattle.ncc_write.specs.Positions.{slab_at}
use Rattle.ncc_write.specs.Streams.{Streams}
use Rattle.ncc_write.specs.VarSlabs.{IsSlabOrder}
use Rattle.ncc_write.specs.Writing.{with_more, written}
use Rattle.ncc_write.proofs.SlabOrders.{var_slab_is}
use Rattle.ncc_write.proofs.Filling.{fills_bytes}
use Rattle.ncc_write.proofs.Paddings.{length_fills}
use Rattle.ncc_write.proofs.Pages.{paged_before}
use Rattle.ncc_write.proofs.Going.{bytes_both, fills_are, front_in_files, front_went, grown_front, grown_full, holds_more, missing_is, out_is, stops_at, taking}
use Rattle.ncc_write.proofs.writer.FileWriter.fill_slab.Goals as goal

pub returns-in_err-put_fills-clause-fills : goal.returns-in_err-put_fills-clause-fills
returns-in_err-put_fills-clause-fills g c = λ start w at stands.
    let x = c.args.self.now in
    let s = w.schema in
    let b = slab_at s x.slab in
    let bytes = fills x.left b.var in
    let planned : IsSlabOrder s x.slab_order = subst (λ (u : Schema). IsSlabOrder u x.slab_order) at.schema x.planned in
    let var_slab = c.var_slab.ensures.var_slab ∙ var_slab_is s x.slab_order planned x.slab c.requires in
    let t = taking s x.slab_order w.taken x.slab x.left bytes x.left planned (at.at stands) (at.whole stands) c.requires (length_fills x.left b.var) (omega arith) in
    let holds = out_is w start _ (waiting x.paged_sink) stands at.out in
    let rest = grown_front s (record { slab = b; left = x.left }) (written s w.taken) bytes x.left in
    let streams = subst (λ (l : List ℕ). Streams (g.W.Sink.put (sink_of x.paged_sink)) (g.W.Sink.put (sink_of c.put_fills.new.self)) (waiting x.paged_sink) (waiting c.put_fills.new.self) l (Err c.in_err-put_fills.field-0.0))
    (ap (λ (f : List ℕ). concat (replicate x.left f)) c.fill.ensures.fill ∙ fills_are s b c.var_slab.result.0 x.left var_slab) c.in_err-put_fills.ensures.streams in
    stops_at _ start _ _ (with_more w bytes) c.from_residual.result c.from_residual.ensures.1 (record {
      schema = at.schema;
      bytes = bytes_both w.taken bytes at.bytes (fills_bytes x.left b.var);
      out = front_in_files s start _ (w.taken ++ bytes) (written s w.taken ++ bytes) rest.0 (t.grows.written_is ∙ rest.1)
          (front_went start (g.W.Sink.put (sink_of x.paged_sink)) (g.W.Sink.put (sink_of c.put_fills.new.self)) (waiting x.paged_sink) (waiting c.put_fills.new.self) (written s w.taken) bytes c.in_err-put_fills.field-0.0 holds streams);
    })

pub returns-clause-fills : goal.returns-clause-fills
returns-clause-fills g c = λ start w at stands.
    let x = c.args.self.now in
    let s = w.schema in
    let b = slab_at s x.slab in
    let bytes = fills x.left b.var in
    let planned : IsSlabOrder s x.slab_order = subst (λ (u : Schema). IsSlabOrder u x.slab_order) at.schema x.planned in
    let var_slab = c.var_slab.ensures.var_slab ∙ var_slab_is s x.slab_order planned x.slab c.requires in
    let t = taking s x.slab_order w.taken x.slab x.left bytes x.left planned (at.at stands) (at.whole stands) c.requires (length_fills x.left b.var) (omega arith) in
    let holds = out_is w start _ (waiting x.paged_sink) stands at.out in
    let streams = subst (λ (l : List ℕ). Streams (g.W.Sink.put (sink_of x.paged_sink)) (g.W.Sink.put (sink_of c.put_fills.new.self)) (waiting x.paged_sink) (waiting c.put_fills.new.self) l (Ok tt))
    (ap (λ (f : List ℕ). concat (replicate x.left f)) c.fill.ensures.fill ∙ fills_are s b c.var_slab.result.0 x.left var_slab) c.in_ok-put_fills.ensures.streams in
    c.close_slab.ensures.closes start (with_more w bytes) (record {
      schema = at.schema;
      failed = at.failed ∙ stands;
      stands = stands;
      bytes = bytes_both w.taken bytes at.bytes (fills_bytes x.left b.var);
      end = t.total ∙ (at.at stands).ends t.there;
      whole = t.grows.whole;
      out = missing_is start _ (waiting c.put_fills.new.self) (written s w.taken ++ bytes) (padding_bytes s b.var) (written s (w.taken ++ bytes))
          (sym (t.grows.written_is ∙ grown_full s (record { slab = b; left = x.left }) (written s w.taken) bytes x.left (omega arith)))
          (holds_more start (g.W.Sink.put (sink_of x.paged_sink)) (g.W.Sink.put (sink_of c.put_fills.new.self)) (waiting x.paged_sink) (waiting c.put_fills.new.self) (written s w.taken) bytes holds streams);
      pages = λ put sum.
          let full = t.grows.written_is ∙ grown_full s (record { slab = b; left = x.left }) (written s w.taken) bytes x.left (omega arith) in
          let long : length (concat (replicate x.left c.fill.result.now)) ≡ length bytes =
          ap length (ap (λ (f : List ℕ). concat (replicate x.left f)) c.fill.ensures.fill ∙ fills_are s b c.var_slab.result.0 x.left var_slab) in
          paged_before (length (header_of s)) put c.put_fills.new.self (written s w.taken) bytes (padding_bytes s b.var) full sum
          (subst (λ (k : ℕ). Paged (length (header_of s)) (length (written s w.taken) + k) c.put_fills.new.self) long
          (c.in_ok-put_fills.ensures.pages _ _ (at.pages stands c.requires)));
    })
