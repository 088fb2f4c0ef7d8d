use Rattle.std.proofs.Common.{◌*◌, ap, subst, ◌∙◌}
use Rattle.ncc_schema.specs.declared.schema.Schema.{Schema}
use Rattle.ncc_values.specs.XType.{size_of}
use Rattle.ncc_write.specs.declared.var_slab.VarSlab.{VarSlab}
use Rattle.ncc_write.proofs.SlabOrders.{var_slab_is}
use Rattle.ncc_write.specs.PagedSink.{sink_of, waiting}
use Rattle.ncc_write.specs.VarSlabs.{IsSlabOrder}
use Rattle.ncc_write.specs.Writing.{written, with_more}
use Rattle.ncc_write.proofs.Going.{bytes_both, given_stops, holds_more, out_is, stops_at}
use Rattle.ncc_write.proofs.writer.FileWriter.take_bytes.Goals as goal

pub returns-in_err-put_bytes-clause-takes : goal.returns-in_err-put_bytes-clause-takes
returns-in_err-put_bytes-clause-takes g c = λ start w at stands.
    let x = c.args.self.now in
    let s = w.schema in
    let bytes = c.args.bytes.now in
    let planned : IsSlabOrder s x.slab_order = subst (λ (u : Schema). IsSlabOrder u x.slab_order) at.schema x.planned in
    let long = c.requires.whole ∙ ap (λ (t : VarSlab). c.args.count * size_of t.xtype) (var_slab_is s x.slab_order planned x.slab c.requires.there) in
    stops_at _ start _ _ (with_more w bytes) c.from_residual.result c.from_residual.ensures.1 (record {
      schema = at.schema;
      bytes = bytes_both w.taken bytes at.bytes c.requires.bytes;
      out = given_stops s x.slab_order w.taken x.slab x.left bytes c.args.count planned (at.at stands) (at.whole stands)
          c.requires.there long c.requires.room start _ (g.W.Sink.put (sink_of c.put_bytes.new.self)) (waiting x.paged_sink)
          (waiting c.put_bytes.new.self) c.in_err-put_bytes.field-0.0 (out_is w start _ (waiting x.paged_sink) stands at.out)
          c.in_err-put_bytes.ensures.streams;
    })

pub returns-clause-takes : goal.returns-clause-takes
returns-clause-takes g c = λ start w at stands.
    let x = c.args.self.now in
    let s = w.schema in
    let bytes = c.args.bytes.now in
    let planned : IsSlabOrder s x.slab_order = subst (λ (u : Schema). IsSlabOrder u x.slab_order) at.schema x.planned in
    c.go_on.ensures.goes start w bytes (record {
      schema = at.schema;
      failed = at.failed ∙ stands;
      stands = stands;
      taken = at.bytes;
      bytes_are = c.requires.bytes;
      long = c.requires.whole ∙ ap (λ (t : VarSlab). c.args.count * size_of t.xtype) (var_slab_is s x.slab_order planned x.slab c.requires.there);
      at = at.at stands;
      whole = at.whole stands;
      out = holds_more start (g.W.Sink.put (sink_of x.paged_sink)) (g.W.Sink.put (sink_of c.put_bytes.new.self)) (waiting x.paged_sink)
          (waiting c.put_bytes.new.self) (written s w.taken) bytes (out_is w start _ (waiting x.paged_sink) stands at.out)
          c.in_ok-put_bytes.ensures.streams;
      pages = c.in_ok-put_bytes.ensures.pages _ _ (at.pages stands c.requires.there);
    })
