use Rattle.std.proofs.Common.{◌≡◌, ◌<◌, length, take, drop, sym, ap, subst, ◌∙◌, arith, rules}
use Rattle.ncc_check.specs.Files.{store_of, placed_of}
use Rattle.ncc_layout.specs.Elements.{var_at}
use Rattle.ncc_layout.specs.Placed.{vars_of}
use Rattle.ncc_layout.specs.declared.placed_file.Placed.{Placed}
use Rattle.ncc_write.specs.Positions.{slab_at}
use Rattle.ncc_write.specs.declared.var_slab.VarSlab.{VarSlab}
use Rattle.ncc_write.proofs.SlabOrders.{record_is, var_slab_is}
use Rattle.ncc_write.proofs.TripNext.{fits, has_next, next_rest, there_next, whole_next}
use Rattle.ncc_write.proofs.trip_reading.all_same.Goals as goal

pub slab-size-requires : goal.slab-size-requires
slab-size-requires g c =
    let r = c.requires.reads in
    let k = c.loop-slab.slab in
    let var_slabs : k < c.args.slab_order.now.slabs = omega (arith, c.loop-slab-test.true, c.slabs-slab-end.ensures) in
    let at = r.each k (omega (arith, var_slabs, r.slab_order.slabs)) in
    let old = g.S.Store.bytes (store_of c.args.file.now) in
    let new = g.S.Store.bytes (store_of c.loop-slab.file) in
    let q = placed_of c.args.file.now in
    let p = placed_of c.loop-slab.file in
    let inv = c.loop-slab.invariant in
    let var = c.var_slab-record.result.0.var in
    let number = c.var_slab-record.result.1 in
    let var_is : var ≡ (slab_at r.schema k).number =
    ap (λ (t : VarSlab). t.var) (c.var_slab-record.ensures.var_slab ∙ var_slab_is r.schema c.args.slab_order.now r.slab_order k var_slabs) in
    let number_is : number ≡ (slab_at r.schema k).in_record =
    c.var_slab-record.ensures.record ∙ record_is r.schema c.args.slab_order.now r.slab_order k var_slabs in
    subst (λ (z : Placed). var < length (vars_of z)) (sym c.placed.ensures) (has_next old new q p r.schema c.args.bytes.now k at inv.bytes inv.placed var number var_is number_is).there

pub split_at-requires : goal.split_at-requires
split_at-requires g c =
    let r = c.requires.reads in
    let k = c.loop-slab.slab in
    let var_slabs : k < c.args.slab_order.now.slabs = omega (arith, c.loop-slab-test.true, c.slabs-slab-end.ensures) in
    let at = r.each k (omega (arith, var_slabs, r.slab_order.slabs)) in
    let old = g.S.Store.bytes (store_of c.args.file.now) in
    let new = g.S.Store.bytes (store_of c.loop-slab.file) in
    let q = placed_of c.args.file.now in
    let p = placed_of c.loop-slab.file in
    let inv = c.loop-slab.invariant in
    let var = c.var_slab-record.result.0.var in
    let number = c.var_slab-record.result.1 in
    let var_is : var ≡ (slab_at r.schema k).number =
    ap (λ (t : VarSlab). t.var) (c.var_slab-record.ensures.var_slab ∙ var_slab_is r.schema c.args.slab_order.now r.slab_order k var_slabs) in
    let number_is : number ≡ (slab_at r.schema k).in_record =
    c.var_slab-record.ensures.record ∙ record_is r.schema c.args.slab_order.now r.slab_order k var_slabs in
    let size_is : c.slab-size.result ≡ (var_at (vars_of p) var).extent.slab =
    c.slab-size.ensures ∙ ap (λ (z : Placed). (var_at (vars_of z) var).extent.slab) c.placed.ensures in
    fits old new q p r.schema c.args.bytes.now k at inv.bytes inv.placed var number var_is number_is c.slab-size.result size_is c.loop-slab.rest.now (inv.rest r)

pub same_slab-requires-clause-has : goal.same_slab-requires-clause-has
same_slab-requires-clause-has g c =
    let r = c.requires.reads in
    let k = c.loop-slab.slab in
    let var_slabs : k < c.args.slab_order.now.slabs = omega (arith, c.loop-slab-test.true, c.slabs-slab-end.ensures) in
    let at = r.each k (omega (arith, var_slabs, r.slab_order.slabs)) in
    let old = g.S.Store.bytes (store_of c.args.file.now) in
    let new = g.S.Store.bytes (store_of c.loop-slab.file) in
    let q = placed_of c.args.file.now in
    let p = placed_of c.loop-slab.file in
    let inv = c.loop-slab.invariant in
    let var = c.var_slab-record.result.0.var in
    let number = c.var_slab-record.result.1 in
    let var_is : var ≡ (slab_at r.schema k).number =
    ap (λ (t : VarSlab). t.var) (c.var_slab-record.ensures.var_slab ∙ var_slab_is r.schema c.args.slab_order.now r.slab_order k var_slabs) in
    let number_is : number ≡ (slab_at r.schema k).in_record =
    c.var_slab-record.ensures.record ∙ record_is r.schema c.args.slab_order.now r.slab_order k var_slabs in
    has_next old new q p r.schema c.args.bytes.now k at inv.bytes inv.placed var number var_is number_is

pub same_slab-requires-clause-whole : goal.same_slab-requires-clause-whole
same_slab-requires-clause-whole g c =
    let r = c.requires.reads in
    let k = c.loop-slab.slab in
    let var_slabs : k < c.args.slab_order.now.slabs = omega (arith, c.loop-slab-test.true, c.slabs-slab-end.ensures) in
    let at = r.each k (omega (arith, var_slabs, r.slab_order.slabs)) in
    let old = g.S.Store.bytes (store_of c.args.file.now) in
    let new = g.S.Store.bytes (store_of c.loop-slab.file) in
    let q = placed_of c.args.file.now in
    let p = placed_of c.loop-slab.file in
    let inv = c.loop-slab.invariant in
    let var = c.var_slab-record.result.0.var in
    let number = c.var_slab-record.result.1 in
    let var_is : var ≡ (slab_at r.schema k).number =
    ap (λ (t : VarSlab). t.var) (c.var_slab-record.ensures.var_slab ∙ var_slab_is r.schema c.args.slab_order.now r.slab_order k var_slabs) in
    let number_is : number ≡ (slab_at r.schema k).in_record =
    c.var_slab-record.ensures.record ∙ record_is r.schema c.args.slab_order.now r.slab_order k var_slabs in
    let size_is : c.slab-size.result ≡ (var_at (vars_of p) var).extent.slab =
    c.slab-size.ensures ∙ ap (λ (z : Placed). (var_at (vars_of z) var).extent.slab) c.placed.ensures in
    let piece : c.split_at.result.0.now ≡ take c.slab-size.result c.loop-slab.rest.now = search rules in
    whole_next old new q p r.schema c.args.bytes.now k at inv.bytes inv.placed var number var_is number_is c.slab-size.result size_is c.loop-slab.rest.now (inv.rest r) c.split_at.result.0.now piece

pub same_slab-requires-clause-there : goal.same_slab-requires-clause-there
same_slab-requires-clause-there g c =
    let r = c.requires.reads in
    let k = c.loop-slab.slab in
    let var_slabs : k < c.args.slab_order.now.slabs = omega (arith, c.loop-slab-test.true, c.slabs-slab-end.ensures) in
    let at = r.each k (omega (arith, var_slabs, r.slab_order.slabs)) in
    let old = g.S.Store.bytes (store_of c.args.file.now) in
    let new = g.S.Store.bytes (store_of c.loop-slab.file) in
    let q = placed_of c.args.file.now in
    let p = placed_of c.loop-slab.file in
    let inv = c.loop-slab.invariant in
    let var = c.var_slab-record.result.0.var in
    let number = c.var_slab-record.result.1 in
    let var_is : var ≡ (slab_at r.schema k).number =
    ap (λ (t : VarSlab). t.var) (c.var_slab-record.ensures.var_slab ∙ var_slab_is r.schema c.args.slab_order.now r.slab_order k var_slabs) in
    let number_is : number ≡ (slab_at r.schema k).in_record =
    c.var_slab-record.ensures.record ∙ record_is r.schema c.args.slab_order.now r.slab_order k var_slabs in
    let size_is : c.slab-size.result ≡ (var_at (vars_of p) var).extent.slab =
    c.slab-size.ensures ∙ ap (λ (z : Placed). (var_at (vars_of z) var).extent.slab) c.placed.ensures in
    let piece : c.split_at.result.0.now ≡ take c.slab-size.result c.loop-slab.rest.now = search rules in
    there_next old new q p r.schema c.args.bytes.now k at inv.bytes inv.placed var number var_is number_is c.slab-size.result size_is c.loop-slab.rest.now (inv.rest r) c.split_at.result.0.now piece

pub loop-slab-preserved : goal.loop-slab-preserved
loop-slab-preserved g c = record {
  rest = λ reads.
      let r = reads in
      let k = c.loop-slab.slab in
      let var_slabs : k < c.args.slab_order.now.slabs = omega (arith, c.loop-slab-test.true, c.slabs-slab-end.ensures) in
      let at = r.each k (omega (arith, var_slabs, r.slab_order.slabs)) in
      let old = g.S.Store.bytes (store_of c.args.file.now) in
      let new = g.S.Store.bytes (store_of c.loop-slab.file) in
      let q = placed_of c.args.file.now in
      let p = placed_of c.loop-slab.file in
      let inv = c.loop-slab.invariant in
      let var = c.var_slab-record.result.0.var in
      let number = c.var_slab-record.result.1 in
      let var_is : var ≡ (slab_at r.schema k).number =
      ap (λ (t : VarSlab). t.var) (c.var_slab-record.ensures.var_slab ∙ var_slab_is r.schema c.args.slab_order.now r.slab_order k var_slabs) in
      let number_is : number ≡ (slab_at r.schema k).in_record =
      c.var_slab-record.ensures.record ∙ record_is r.schema c.args.slab_order.now r.slab_order k var_slabs in
      let size_is : c.slab-size.result ≡ (var_at (vars_of p) var).extent.slab =
      c.slab-size.ensures ∙ ap (λ (z : Placed). (var_at (vars_of z) var).extent.slab) c.placed.ensures in
      let after : c.split_at.result.1.now ≡ drop c.slab-size.result c.loop-slab.rest.now = search rules in
      after ∙ next_rest old new q p r.schema c.args.bytes.now k at inv.bytes inv.placed var number var_is number_is c.slab-size.result size_is c.loop-slab.rest.now (inv.rest r);
  bytes = c.same_slab.ensures.bytes ∙ c.loop-slab.invariant.bytes;
  placed = c.same_slab.ensures.placed ∙ c.loop-slab.invariant.placed;
}
