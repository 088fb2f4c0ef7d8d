use Rattle.std.proofs.Common.{◌≡◌, ◌<◌, ◌++◌, ℕ, List, length, refl, ap, sym, subst, ◌∙◌, arith, rules}
use Rattle.std.proofs.lemmas.List.{append-nil}
use Rattle.ncc_schema.specs.Device.{Puts}
use Rattle.ncc_build.specs.Builds.{schema_of}
use Rattle.ncc_build.specs.File.{header_of}
use Rattle.ncc_write.specs.PagedSink.{Paged}
use Rattle.ncc_write.specs.VarSlabs.{IsSlabOrder}
use Rattle.ncc_write.specs.declared.var_slab.VarSlab.{VarSlab}
use Rattle.ncc_write.proofs.SlabOrders.{var_slab_is}
use Rattle.ncc_write.proofs.Going.{have_elements}
use Rattle.ncc_write.proofs.Growing.{nothing_is_whole, written_first}
use Rattle.ncc_write.proofs.Positions.{begins_at}
use Rattle.ncc_write.proofs.writer.FileWriter.start.Goals as goal

pub returns-clause-stands : goal.returns-clause-stands
returns-clause-stands g c =
    let s = schema_of c.args.built in
    let slab_order : IsSlabOrder s c.in-Ok.parts.slab_order = c.in-Ok.ensures.slab_order in
    let puts : Puts (g.W.Sink.put c.args.sink) (g.W.Sink.put c.write_all.new.sink) (header_of s) = search rules in
    record {
      schema = refl;
      failed = refl;
      bytes = tt;
      at = λ f. begins_at s (have_elements s s refl c.built_is_writable.ensures.built) c.first_elements.result
          (λ less.
          let there : 0 < c.in-Ok.parts.slab_order.slabs = omega (arith, less, slab_order.slabs) in
          c.first_elements.ensures there ∙ ap (λ (t : VarSlab). t.elements) (var_slab_is s c.in-Ok.parts.slab_order slab_order 0 there));
      whole = λ f. nothing_is_whole s;
      out = (
        header_of s,
        rw c.over.ensures.sink puts,
        ap (λ (l : List ℕ). header_of s ++ l) c.over.ensures.waiting ∙ append-nil (header_of s) ∙ sym (written_first s),
      );
      pages = λ f less.
          let long : c.len.result ≡ length (header_of s) = c.len.ensures ∙ c.in-Ok.parts.header.ok.0 ∙ ap length c.in-Ok.ensures.header in
          subst (λ (k : ℕ). Paged (length (header_of s)) k c.over.result) (long ∙ ap length (sym (written_first s)))
          (subst (λ (k : ℕ). Paged k c.len.result c.over.result) long c.over.ensures.pages);
    }
