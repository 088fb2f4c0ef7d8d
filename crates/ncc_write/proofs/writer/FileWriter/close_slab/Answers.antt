use Rattle.std.proofs.Common.{◌≡◌, ◌+◌, ◌++◌, ℕ, List, [], length, ap, sym, subst, ◌∙◌, length-append, arith, replicate, Ok, Err}
use Rattle.std.proofs.lemmas.List.{append-nil}
use Rattle.std.specs.List.{concat}
use Rattle.ncc_build.specs.File.{header_of, padding_bytes}
use Rattle.ncc_schema.specs.declared.schema.Schema.{Schema}
use Rattle.ncc_write.specs.PagedSink.{Paged, sink_of, waiting}
use Rattle.ncc_write.specs.Positions.{slab_at}
use Rattle.ncc_write.specs.Streams.{Streams}
use Rattle.ncc_write.specs.VarSlabs.{IsSlabOrder}
use Rattle.ncc_write.specs.Writing.{written}
use Rattle.ncc_write.proofs.SlabOrders.{var_slab_is}
use Rattle.ncc_write.proofs.Going.{front_in_files, front_went, holds_more, missing_there, some_missing, padding_is, stops_at}
use Rattle.ncc_write.proofs.writer.FileWriter.close_slab.Goals as goal

pub returns-in_err-put_fills-clause-closes : goal.returns-in_err-put_fills-clause-closes
returns-in_err-put_fills-clause-closes g c = λ start w e.
    let x = c.args.self.now in
    let s = w.schema in
    let planned : IsSlabOrder s x.slab_order = subst (λ (u : Schema). IsSlabOrder u x.slab_order) e.schema x.planned in
    let var_slab = c.var_slab.ensures.var_slab ∙ var_slab_is s x.slab_order planned x.slab c.requires in
    let b = slab_at s x.slab in
    let pad = padding_bytes s b.var in
    let there = missing_there start _ (waiting x.paged_sink) pad (written s w.taken) e.out in
    let streams = subst (λ (l : List ℕ). Streams (g.W.Sink.put (sink_of x.paged_sink)) (g.W.Sink.put (sink_of c.put_fills.new.self)) (waiting x.paged_sink) (waiting c.put_fills.new.self) l (Err c.in_err-put_fills.field-0.0))
    (ap (λ (f : List ℕ). concat (replicate c.var_slab.result.0.padding f)) c.fill.ensures.fill ∙ padding_is s b c.var_slab.result.0 var_slab) c.in_err-put_fills.ensures.streams in
    stops_at _ start _ _ w c.from_residual.result c.from_residual.ensures.1 (record {
      schema = e.schema;
      bytes = e.bytes;
      out = front_in_files s start _ w.taken (there.0 ++ pad) [] (there.2 ∙ sym (append-nil (there.0 ++ pad)))
          (front_went start (g.W.Sink.put (sink_of x.paged_sink)) (g.W.Sink.put (sink_of c.put_fills.new.self)) (waiting x.paged_sink) (waiting c.put_fills.new.self) there.0 pad c.in_err-put_fills.field-0.0 there.1 streams);
    })

pub returns-clause-closes : goal.returns-clause-closes
returns-clause-closes g c = λ start w e.
    let x = c.args.self.now in
    let s = w.schema in
    let planned : IsSlabOrder s x.slab_order = subst (λ (u : Schema). IsSlabOrder u x.slab_order) e.schema x.planned in
    let var_slab = c.var_slab.ensures.var_slab ∙ var_slab_is s x.slab_order planned x.slab c.requires in
    let b = slab_at s x.slab in
    let pad = padding_bytes s b.var in
    let there = missing_there start _ (waiting x.paged_sink) pad (written s w.taken) e.out in
    let streams = subst (λ (l : List ℕ). Streams (g.W.Sink.put (sink_of x.paged_sink)) (g.W.Sink.put (sink_of c.put_fills.new.self)) (waiting x.paged_sink) (waiting c.put_fills.new.self) l (Ok tt))
    (ap (λ (f : List ℕ). concat (replicate c.var_slab.result.0.padding f)) c.fill.ensures.fill ∙ padding_is s b c.var_slab.result.0 var_slab) c.in_ok-put_fills.ensures.streams in
    c.open_slab.ensures.opens start w (record {
      schema = e.schema;
      failed = e.failed;
      stands = e.stands;
      bytes = e.bytes;
      end = e.end;
      whole = e.whole;
      out = some_missing start _ (waiting c.put_fills.new.self) (written s w.taken) (there.0 ++ pad) there.2
          (holds_more start (g.W.Sink.put (sink_of x.paged_sink)) (g.W.Sink.put (sink_of c.put_fills.new.self)) (waiting x.paged_sink) (waiting c.put_fills.new.self) there.0 pad there.1 streams);
      pages = λ put sum.
          let long : length (concat (replicate c.var_slab.result.0.padding c.fill.result.now)) ≡ length pad =
          ap length (ap (λ (f : List ℕ). concat (replicate c.var_slab.result.0.padding f)) c.fill.ensures.fill ∙ padding_is s b c.var_slab.result.0 var_slab) in
          let whole : length there.0 + length pad ≡ length (written s w.taken) = sym (ap length there.2 ∙ length-append there.0 pad) in
          let end : length there.0 + length (concat (replicate c.var_slab.result.0.padding c.fill.result.now)) ≡ put = omega (arith, long, whole, sum) in
          subst (λ (k : ℕ). Paged (length (header_of s)) k c.put_fills.new.self) end
          (c.in_ok-put_fills.ensures.pages _ _ (e.pages (length there.0) whole));
    })
