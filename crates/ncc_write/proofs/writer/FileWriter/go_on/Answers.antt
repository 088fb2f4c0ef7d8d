use Rattle.std.proofs.Common.{◌≡◌, ◌<◌, ◌+◌, ◌-◌, ◌*◌, ◌++◌, ℕ, length, ap, sym, subst, ◌∙◌, length-append, arith}
use Rattle.ncc_schema.specs.declared.schema.Schema.{Schema}
use Rattle.ncc_values.specs.XType.{size_of}
use Rattle.ncc_build.specs.File.{header_of, padding_bytes}
use Rattle.ncc_write.specs.PagedSink.{Paged, waiting}
use Rattle.ncc_write.specs.Positions.{IsAt, slab_at}
use Rattle.ncc_write.specs.VarSlabs.{IsSlabOrder}
use Rattle.ncc_write.specs.Writing.{written, with_more}
use Rattle.ncc_write.proofs.Going.{as_bytes, bytes_both, is_out, missing_is, taking, grown_open, grown_full}
use Rattle.ncc_write.proofs.Pages.{paged_before}
use Rattle.ncc_write.proofs.Positions.{moves}
use Rattle.ncc_write.proofs.writer.FileWriter.go_on.Goals as goal

pub returns-then-count-self-clause-goes : goal.returns-then-count-self-clause-goes
returns-then-count-self-clause-goes g c = λ start w bytes gives.
    let x = c.args.self.now in
    let s = w.schema in
    let k = c.args.count in
    let planned : IsSlabOrder s x.slab_order = subst (λ (u : Schema). IsSlabOrder u x.slab_order) gives.schema x.planned in
    let t = taking s x.slab_order w.taken x.slab x.left bytes k planned gives.at gives.whole c.requires.there gives.long c.requires.room in
    let few : k < x.left = c.if-count-self.true in
    let now = t.grows.written_is ∙ grown_open s (record { slab = slab_at s x.slab; left = x.left }) (written s w.taken) bytes k few in
    record {
      schema = gives.schema;
      failed = gives.failed ∙ sym gives.stands;
      bytes = bytes_both w.taken bytes gives.taken gives.bytes_are;
      at = λ f. subst (λ (n : ℕ). IsAt s n x.slab (x.left - k)) (sym t.total)
          (moves s (length w.taken) x.slab x.left gives.at t.there k few);
      whole = λ f. t.grows.whole;
      out = is_out (with_more w bytes) start _ (waiting x.paged_sink) gives.stands
          (as_bytes start _ (waiting x.paged_sink) (written s w.taken ++ bytes) (written s (w.taken ++ bytes)) (sym now) gives.out);
      pages = λ f less. subst (λ (n : ℕ). Paged (length (header_of s)) n x.paged_sink)
          (sym (ap length now ∙ length-append (written s w.taken) bytes)) gives.pages;
    }

pub returns-clause-goes : goal.returns-clause-goes
returns-clause-goes g c = λ start w bytes gives.
    let x = c.args.self.now in
    let s = w.schema in
    let k = c.args.count in
    let planned : IsSlabOrder s x.slab_order = subst (λ (u : Schema). IsSlabOrder u x.slab_order) gives.schema x.planned in
    let t = taking s x.slab_order w.taken x.slab x.left bytes k planned gives.at gives.whole c.requires.there gives.long c.requires.room in
    let all : k ≡ x.left = omega (arith, c.if-count-self.false, c.requires.room) in
    let full = t.grows.written_is ∙ grown_full s (record { slab = slab_at s x.slab; left = x.left }) (written s w.taken) bytes k (omega (arith, all)) in
    c.close_slab.ensures.closes start (with_more w bytes) (record {
      schema = gives.schema;
      failed = gives.failed;
      stands = gives.stands;
      bytes = bytes_both w.taken bytes gives.taken gives.bytes_are;
      end = t.total ∙ ap (λ (n : ℕ). length w.taken + n * size_of (slab_at s x.slab).var.xtype) all ∙ gives.at.ends t.there;
      whole = t.grows.whole;
      out = missing_is start _ (waiting x.paged_sink) (written s w.taken ++ bytes) (padding_bytes s (slab_at s x.slab).var)
          (written s (w.taken ++ bytes)) (sym full) gives.out;
      pages = λ put sum. paged_before (length (header_of s)) put x.paged_sink (written s w.taken) bytes
          (padding_bytes s (slab_at s x.slab).var) full sum gives.pages;
    })
