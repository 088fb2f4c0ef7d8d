use Rattle.std.proofs.Common.{◌≡◌, ◌<◌, false, refl, ap, sym, subst, ◌∙◌, arith, rules}
use Rattle.ncc_schema.specs.declared.schema.Schema.{Schema}
use Rattle.ncc_values.specs.Values.{type_of}
use Rattle.ncc_write.specs.VarSlabs.{IsSlabOrder}
use Rattle.ncc_write.specs.Writing.{with_values, as_failed}
use Rattle.ncc_write.specs.declared.var_slab.VarSlab.{VarSlab}
use Rattle.ncc_write.proofs.Facing.{faces_other, faces_fewer, faces_room, faces_failure}
use Rattle.ncc_write.proofs.Positions.{next_done}
use Rattle.ncc_write.proofs.Refusing.{complete}
use Rattle.ncc_write.proofs.writer.FileWriter.put.Goals as goal

pub returns-then-self-slabs-clause-answer : goal.returns-then-self-slabs-clause-answer
returns-then-self-slabs-clause-answer g c = λ start w at.
    let x = c.args.self.now in
    let stands : w.failed ≡ false = sym at.failed ∙ c.if-self.false in
    let planned : IsSlabOrder w.schema x.slab_order = subst (λ (u : Schema). IsSlabOrder u x.slab_order) at.schema x.planned in
    complete w c.args.values.now stands (next_done w.schema w.taken x.slab x.left (at.at stands) (omega (arith, c.if-self-slabs.true, c.slabs.ensures, planned.slabs)))

pub returns-then-ne-clause-answer : goal.returns-then-ne-clause-answer
returns-then-ne-clause-answer g c = λ start w at.
    let x = c.args.self.now in
    let stands : w.failed ≡ false = sym at.failed ∙ c.if-self.false in
    let less : x.slab < x.slab_order.slabs = omega (arith, c.if-self-slabs.false, c.slabs.ensures, x.within) in
    let other : type_of c.args.values.now ≡ c.var_slab.result.0.xtype → ⊥ = search rules in
    faces_other start _ x w at stands less c.args.values.now (λ e. other (e ∙ ap (λ (t : VarSlab). t.xtype) (sym c.var_slab.ensures.var_slab)))

pub returns-then-len-self-clause-answer : goal.returns-then-len-self-clause-answer
returns-then-len-self-clause-answer g c = λ start w at.
    let x = c.args.self.now in
    let stands : w.failed ≡ false = sym at.failed ∙ c.if-self.false in
    let less : x.slab < x.slab_order.slabs = omega (arith, c.if-self-slabs.false, c.slabs.ensures, x.within) in
    let same : type_of c.args.values.now ≡ c.var_slab.result.0.xtype = search rules in
    faces_fewer start _ x w at stands less c.args.values.now (same ∙ ap (λ (t : VarSlab). t.xtype) c.var_slab.ensures.var_slab) (omega (arith, c.if-len-self.true, c.len.ensures))

pub returns-in-Ok-clause-answer : goal.returns-in-Ok-clause-answer
returns-in-Ok-clause-answer g c = λ start w at.
    let x = c.args.self.now in
    let stands : w.failed ≡ false = sym at.failed ∙ c.if-self.false in
    let less : x.slab < x.slab_order.slabs = omega (arith, c.if-self-slabs.false, c.slabs.ensures, x.within) in
    let same : type_of c.args.values.now ≡ c.var_slab.result.0.xtype = search rules in
    faces_room start _ x w at stands less c.args.values.now (same ∙ ap (λ (t : VarSlab). t.xtype) c.var_slab.ensures.var_slab) (omega (arith, c.if-len-self.false, c.len.ensures)) tt

pub returns-in-Err-clause-answer : goal.returns-in-Err-clause-answer
returns-in-Err-clause-answer g c = λ start w at.
    let x = c.args.self.now in
    let stands : w.failed ≡ false = sym at.failed ∙ c.if-self.false in
    let less : x.slab < x.slab_order.slabs = omega (arith, c.if-self-slabs.false, c.slabs.ensures, x.within) in
    let same : type_of c.args.values.now ≡ c.var_slab.result.0.xtype = search rules in
    faces_failure start _ x w at stands less c.args.values.now (same ∙ ap (λ (t : VarSlab). t.xtype) c.var_slab.ensures.var_slab) (omega (arith, c.if-len-self.false, c.len.ensures))

pub returns-in-Ok-clause-stands : goal.returns-in-Ok-clause-stands
returns-in-Ok-clause-stands g c = λ start w at.
    let stands : w.failed ≡ false = sym at.failed ∙ c.if-self.false in
    (with_values w c.args.values.now, (c.in-Ok.ensures.takes start w (record { schema = at.schema; failed = at.failed; bytes = at.bytes; at = at.at; whole = at.whole; out = at.out; pages = at.pages }) stands), refl)

pub returns-in-Err-clause-stands : goal.returns-in-Err-clause-stands
returns-in-Err-clause-stands g c = λ start w at.
    let stands : w.failed ≡ false = sym at.failed ∙ c.if-self.false in
    let stops = (c.in-Err.ensures.takes start w (record { schema = at.schema; failed = at.failed; bytes = at.bytes; at = at.at; whole = at.whole; out = at.out; pages = at.pages }) stands) in
    (as_failed (with_values w c.args.values.now), record { schema = stops.schema; failed = refl; bytes = stops.bytes; at = λ f. absurd (cc f); whole = λ f. absurd (cc f); out = stops.out; pages = λ f. absurd (cc f) }, refl)
