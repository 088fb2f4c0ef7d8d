use Rattle.std.proofs.Common.{◌≡◌, ◌*◌, ℕ, length, sym, subst, ◌∙◌}
use Rattle.ncc_schema.specs.declared.schema.Schema.{Schema}
use Rattle.ncc_values.specs.Values.{bytes_of, count_of}
use Rattle.ncc_values.proofs.ValuesLemmas.{bytes-bytes_of}
use Rattle.ncc_values.specs.XType.{size_of}
use Rattle.ncc_write.specs.Positions.{slab_at}
use Rattle.ncc_write.specs.PagedSink.{sink_of, waiting}
use Rattle.ncc_write.specs.VarSlabs.{IsSlabOrder}
use Rattle.ncc_write.specs.Writing.{written, with_values}
use Rattle.ncc_write.proofs.Going.{bytes_both, given_stops, holds_more, out_is, stops_at, values_long}
use Rattle.ncc_write.proofs.writer.FileWriter.take.Goals as goal

pub returns-in_err-put_values-clause-takes : goal.returns-in_err-put_values-clause-takes
returns-in_err-put_values-clause-takes g c = λ start w at stands.
    let x = c.args.self.now in
    let s = w.schema in
    let bytes = bytes_of c.args.values.now in
    let planned : IsSlabOrder s x.slab_order = subst (λ (u : Schema). IsSlabOrder u x.slab_order) at.schema x.planned in
    let long = values_long s x.slab_order x.slab c.args.values.now planned c.requires.there c.requires.typed in
    stops_at _ start _ _ (with_values w c.args.values.now) c.from_residual.result c.from_residual.ensures.1 (record {
      schema = at.schema;
      bytes = bytes_both w.taken bytes at.bytes (bytes-bytes_of c.args.values.now);
      out = given_stops s x.slab_order w.taken x.slab x.left bytes (count_of c.args.values.now) planned (at.at stands) (at.whole stands)
          c.requires.there long c.requires.room start _ (g.W.Sink.put (sink_of c.put_values.new.self)) (waiting x.paged_sink)
          (waiting c.put_values.new.self) c.in_err-put_values.field-0.0 (out_is w start _ (waiting x.paged_sink) stands at.out)
          c.in_err-put_values.ensures.streams;
    })

pub returns-clause-takes : goal.returns-clause-takes
returns-clause-takes g c = λ start w at stands.
    let x = c.args.self.now in
    let s = w.schema in
    let bytes = bytes_of c.args.values.now in
    let planned : IsSlabOrder s x.slab_order = subst (λ (u : Schema). IsSlabOrder u x.slab_order) at.schema x.planned in
    c.go_on.ensures.goes start w bytes (record {
      schema = at.schema;
      failed = at.failed ∙ stands;
      stands = stands;
      taken = at.bytes;
      bytes_are = (bytes-bytes_of c.args.values.now);
      long = subst (λ (n : ℕ). length bytes ≡ n * size_of (slab_at s x.slab).var.xtype) (sym c.len.ensures)
          (values_long s x.slab_order x.slab c.args.values.now planned c.requires.there c.requires.typed);
      at = at.at stands;
      whole = at.whole stands;
      out = holds_more start (g.W.Sink.put (sink_of x.paged_sink)) (g.W.Sink.put (sink_of c.put_values.new.self)) (waiting x.paged_sink)
          (waiting c.put_values.new.self) (written s w.taken) bytes (out_is w start _ (waiting x.paged_sink) stands at.out)
          c.in_ok-put_values.ensures.streams;
      pages = c.in_ok-put_values.ensures.pages _ _ (at.pages stands c.requires.there);
    })
