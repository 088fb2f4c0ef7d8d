use Rattle.std.proofs.Common.{◌≡◌, ◌<◌, ℕ, List, false, refl, ap, sym, subst, ◌∙◌, arith, rules}
use Rattle.ncc_schema.specs.declared.schema.Schema.{Schema}
use Rattle.ncc_values.specs.Values.{values_of}
use Rattle.ncc_values.proofs.ValuesLemmas.{type_of-values_of, count_of-values_of, bytes_of-values_of}
use Rattle.ncc_write.specs.VarSlabs.{IsSlabOrder}
use Rattle.ncc_write.specs.Writer.{Stands, Stops, sink_in}
use Rattle.ncc_write.specs.Writing.{with_values, with_more, as_failed}
use Rattle.ncc_write.specs.declared.var_slab.VarSlab.{VarSlab}
use Rattle.ncc_write.proofs.Facing.{faces_other, faces_fewer, faces_room, faces_failure}
use Rattle.ncc_write.proofs.Positions.{next_done}
use Rattle.ncc_write.proofs.Refusing.{complete}
use Rattle.ncc_write.proofs.writer.FileWriter.put_bytes.Goals as goal

pub returns-then-self-slabs-clause-answer : goal.returns-then-self-slabs-clause-answer
returns-then-self-slabs-clause-answer g c = λ start w at.
    let x = c.args.self.now in
    let stands : w.failed ≡ false = sym at.failed ∙ c.if-self.false in
    let planned : IsSlabOrder w.schema x.slab_order = subst (λ (u : Schema). IsSlabOrder u x.slab_order) at.schema x.planned in
    complete w (values_of c.args.xtype c.args.bytes.now) stands (next_done w.schema w.taken x.slab x.left (at.at stands) (omega (arith, c.if-self-slabs.true, c.slabs.ensures, planned.slabs)))

pub returns-then-ne-clause-answer : goal.returns-then-ne-clause-answer
returns-then-ne-clause-answer g c = λ start w at.
    let x = c.args.self.now in
    let stands : w.failed ≡ false = sym at.failed ∙ c.if-self.false in
    let less : x.slab < x.slab_order.slabs = omega (arith, c.if-self-slabs.false, c.slabs.ensures, x.within) in
    let other : c.args.xtype ≡ c.var_slab.result.0.xtype → ⊥ = search rules in
    faces_other start _ x w at stands less (values_of c.args.xtype c.args.bytes.now) (λ e. other (sym (type_of-values_of c.args.xtype c.args.bytes.now) ∙ e ∙ ap (λ (t : VarSlab). t.xtype) (sym c.var_slab.ensures.var_slab)))

pub returns-then-count-self-clause-answer : goal.returns-then-count-self-clause-answer
returns-then-count-self-clause-answer g c = λ start w at.
    let x = c.args.self.now in
    let stands : w.failed ≡ false = sym at.failed ∙ c.if-self.false in
    let less : x.slab < x.slab_order.slabs = omega (arith, c.if-self-slabs.false, c.slabs.ensures, x.within) in
    let same : c.args.xtype ≡ c.var_slab.result.0.xtype = search rules in
    faces_fewer start _ x w at stands less (values_of c.args.xtype c.args.bytes.now) (type_of-values_of c.args.xtype c.args.bytes.now ∙ same ∙ ap (λ (t : VarSlab). t.xtype) c.var_slab.ensures.var_slab) (omega (arith, c.if-count-self.true, (count_of-values_of c.args.xtype c.elements_in-count.result c.args.bytes.now c.elements_in-count.ensures)))

pub returns-in-Ok-clause-answer : goal.returns-in-Ok-clause-answer
returns-in-Ok-clause-answer g c = λ start w at.
    let x = c.args.self.now in
    let stands : w.failed ≡ false = sym at.failed ∙ c.if-self.false in
    let less : x.slab < x.slab_order.slabs = omega (arith, c.if-self-slabs.false, c.slabs.ensures, x.within) in
    let same : c.args.xtype ≡ c.var_slab.result.0.xtype = search rules in
    faces_room start _ x w at stands less (values_of c.args.xtype c.args.bytes.now) (type_of-values_of c.args.xtype c.args.bytes.now ∙ same ∙ ap (λ (t : VarSlab). t.xtype) c.var_slab.ensures.var_slab) (omega (arith, c.if-count-self.false, (count_of-values_of c.args.xtype c.elements_in-count.result c.args.bytes.now c.elements_in-count.ensures))) tt

pub returns-in-Err-clause-answer : goal.returns-in-Err-clause-answer
returns-in-Err-clause-answer g c = λ start w at.
    let x = c.args.self.now in
    let stands : w.failed ≡ false = sym at.failed ∙ c.if-self.false in
    let less : x.slab < x.slab_order.slabs = omega (arith, c.if-self-slabs.false, c.slabs.ensures, x.within) in
    let same : c.args.xtype ≡ c.var_slab.result.0.xtype = search rules in
    faces_failure start _ x w at stands less (values_of c.args.xtype c.args.bytes.now) (type_of-values_of c.args.xtype c.args.bytes.now ∙ same ∙ ap (λ (t : VarSlab). t.xtype) c.var_slab.ensures.var_slab) (omega (arith, c.if-count-self.false, (count_of-values_of c.args.xtype c.elements_in-count.result c.args.bytes.now c.elements_in-count.ensures)))

pub returns-in-Ok-clause-stands : goal.returns-in-Ok-clause-stands
returns-in-Ok-clause-stands g c = λ start w at.
    let stands : w.failed ≡ false = sym at.failed ∙ c.if-self.false in (
      with_values w (values_of c.args.xtype c.args.bytes.now),
      subst (λ (l : List ℕ). Stands start (g.W.Sink.put (sink_in c.take_bytes.new.self)) c.take_bytes.new.self (with_more w l)) (sym (bytes_of-values_of c.args.xtype c.elements_in-count.result c.args.bytes.now c.are_bytes.ensures c.elements_in-count.ensures))
          (c.in-Ok.ensures.takes start w (record { schema = at.schema; failed = at.failed; bytes = at.bytes; at = at.at; whole = at.whole; out = at.out; pages = at.pages }) stands),
      refl,
    )

pub returns-in-Err-clause-stands : goal.returns-in-Err-clause-stands
returns-in-Err-clause-stands g c = λ start w at.
    let stands : w.failed ≡ false = sym at.failed ∙ c.if-self.false in
    let stops = subst (λ (l : List ℕ). Stops start (g.W.Sink.put (sink_in c.take_bytes.new.self)) c.take_bytes.new.self (with_more w l)) (sym (bytes_of-values_of c.args.xtype c.elements_in-count.result c.args.bytes.now c.are_bytes.ensures c.elements_in-count.ensures))
    (c.in-Err.ensures.takes start w (record { schema = at.schema; failed = at.failed; bytes = at.bytes; at = at.at; whole = at.whole; out = at.out; pages = at.pages }) stands) in
    (as_failed (with_values w (values_of c.args.xtype c.args.bytes.now)), record { schema = stops.schema; failed = refl; bytes = stops.bytes; at = λ f. absurd (cc f); whole = λ f. absurd (cc f); out = stops.out; pages = λ f. absurd (cc f) }, refl)
