use Rattle.std.proofs.Common.{ℕ, ◌++◌, [], length, get_or, ap, sym, ◌∙◌, arith}
use Rattle.std.proofs.lemmas.List.{append-nil}
use Rattle.ncc_write.specs.PagedSink.{sink_of, waiting}
use Rattle.ncc_write.specs.Writing.{written}
use Rattle.ncc_write.specs.VarSlabs.{no_var_slab}
use Rattle.ncc_write.specs.declared.var_slab.VarSlab.{VarSlab}
use Rattle.ncc_write.proofs.Going.{as_bytes, at_next, front_in_files, front_went, holds_more, is_out, none_missing, stops_at}
use Rattle.ncc_write.proofs.writer.FileWriter.open_slab.Goals as goal

pub returns-then-next-slabs-clause-opens : goal.returns-then-next-slabs-clause-opens
returns-then-next-slabs-clause-opens g c = λ start w e.
    let x = c.args.self.now in
    record {
      schema = e.schema;
      failed = e.failed ∙ sym e.stands;
      bytes = e.bytes;
      at = λ f. at_next _ w.schema x.slab_order (length w.taken) x.slab c.var_slab_with.result.elements e.schema c.built_is_writable.ensures.built x.planned c.requires e.end
          (λ h. ap (λ (t : VarSlab). t.elements) (c.var_slab_with.ensures ∙ ap (λ (m : ℕ). get_or x.slab_order.var_slabs.items m no_var_slab) c.var_slab_after-number.ensures.number));
      whole = λ f. e.whole;
      out = is_out w start _ (waiting x.paged_sink) e.stands (none_missing start _ (waiting x.paged_sink) (written w.schema w.taken) e.out);
      pages = λ f less. e.pages (length (written w.schema w.taken)) (omega arith);
    }

pub returns-in_err-flush-clause-opens : goal.returns-in_err-flush-clause-opens
returns-in_err-flush-clause-opens g c = λ start w e.
    let x = c.args.self.now in
    let bytes = written w.schema w.taken in
    let holds = none_missing start _ (waiting x.paged_sink) bytes e.out in
    stops_at _ start _ _ w c.from_residual.result c.from_residual.ensures.1 (record {
      schema = e.schema;
      bytes = e.bytes;
      out = front_in_files w.schema start _ w.taken (bytes ++ []) [] (sym (append-nil bytes) ∙ sym (append-nil (bytes ++ [])))
          (front_went start (g.W.Sink.put (sink_of x.paged_sink)) (g.W.Sink.put (sink_of c.flush.new.self)) (waiting x.paged_sink) (waiting c.flush.new.self) bytes [] c.in_err-flush.field-0.0 holds c.in_err-flush.ensures.streams);
    })

pub returns-clause-opens : goal.returns-clause-opens
returns-clause-opens g c = λ start w e.
    let x = c.args.self.now in
    let bytes = written w.schema w.taken in
    let holds = none_missing start _ (waiting x.paged_sink) bytes e.out in
    record {
      schema = e.schema;
      failed = e.failed ∙ sym e.stands;
      bytes = e.bytes;
      at = λ f. at_next _ w.schema x.slab_order (length w.taken) x.slab x.left e.schema c.built_is_writable.ensures.built x.planned c.requires e.end (λ h. absurd (omega (arith, h, c.if-next-slabs.false, c.slabs.ensures)));
      whole = λ f. e.whole;
      out = is_out w start _ (waiting c.flush.new.self) e.stands
          (as_bytes start _ (waiting c.flush.new.self) (bytes ++ []) bytes (append-nil bytes)
          (holds_more start (g.W.Sink.put (sink_of x.paged_sink)) (g.W.Sink.put (sink_of c.flush.new.self)) (waiting x.paged_sink) (waiting c.flush.new.self) bytes [] holds c.in_ok-flush.ensures.streams));
      pages = λ f less. absurd (omega (arith, less, c.if-next-slabs.false, c.slabs.ensures));
    }
