use Rattle.std.proofs.Common.{◌≡◌, ◌<◌, ℕ, false, Some, None, ap, ap₂, sym, subst, ◌∙◌, arith}
use Rattle.ncc_schema.specs.declared.schema.Schema.{Schema}
use Rattle.ncc_write.specs.declared.var_slab.VarSlab.{VarSlab}
use Rattle.ncc_write.specs.Positions.{slab_at}
use Rattle.ncc_write.specs.VarSlabs.{IsSlabOrder}
use Rattle.ncc_write.specs.Writing.{Next}
use Rattle.ncc_write.proofs.SlabOrders.{var_slab_is, record_is}
use Rattle.ncc_write.proofs.Positions.{next_done, next_open}
use Rattle.ncc_write.proofs.Refusing.{expected_by, failed_expects_nothing}
use Rattle.ncc_write.proofs.writer.FileWriter.expects.Goals as goal

pub returns-then-self : goal.returns-then-self
returns-then-self g c = λ start w at. sym (failed_expects_nothing w (sym at.failed ∙ c.if-self.true))

pub returns-then-self-slabs : goal.returns-then-self-slabs
returns-then-self-slabs g c = λ start w at.
    let x = c.args.self.now in
    let stands : w.failed ≡ false = sym at.failed ∙ c.if-self.false in
    let planned : IsSlabOrder w.schema x.slab_order = subst (λ (u : Schema). IsSlabOrder u x.slab_order) at.schema x.planned in
    sym (expected_by w None stands (next_done w.schema w.taken x.slab x.left (at.at stands) (omega (arith, c.if-self-slabs.true, c.slabs.ensures, planned.slabs))))

pub returns : goal.returns
returns g c = λ start w at.
    let x = c.args.self.now in
    let stands : w.failed ≡ false = sym at.failed ∙ c.if-self.false in
    let planned : IsSlabOrder w.schema x.slab_order = subst (λ (u : Schema). IsSlabOrder u x.slab_order) at.schema x.planned in
    let less : x.slab < x.slab_order.slabs = omega (arith, c.if-self-slabs.false, c.slabs.ensures, x.within) in
    let n : Next = record { slab = slab_at w.schema x.slab; left = x.left } in
    let next = next_open w.schema w.taken x.slab x.left (at.at stands) (omega (arith, less, planned.slabs)) in
    let number : c.var_slab-record.result.0.var ≡ n.slab.number = ap (λ (t : VarSlab). t.var) (c.var_slab-record.ensures.var_slab ∙ var_slab_is w.schema x.slab_order planned x.slab less) in
    let in_record : c.var_slab-record.result.1 ≡ n.slab.in_record = c.var_slab-record.ensures.record ∙ record_is w.schema x.slab_order planned x.slab less in
    sym (expected_by w (Some n) stands next ∙ ap₂ (λ (m r : ℕ). Some (m, r, x.left)) (sym number) (sym in_record))
