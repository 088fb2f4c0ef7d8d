use Rattle.std.proofs.Common.{◌≡◌, ◌<◌, false, refl, sym, subst, ◌∙◌, arith}
use Rattle.ncc_schema.specs.declared.schema.Schema.{Schema}
use Rattle.ncc_write.specs.VarSlabs.{IsSlabOrder}
use Rattle.ncc_write.specs.Writing.{as_failed, with_fills}
use Rattle.ncc_write.proofs.AllFills.{fills_end, fills_from}
use Rattle.ncc_write.proofs.Positions.{next_open}
use Rattle.ncc_write.proofs.writer.FileWriter.fill_rest.Goals as goal

pub returns-then-self-slabs-clause-stands : goal.returns-then-self-slabs-clause-stands
returns-then-self-slabs-clause-stands g c = λ start w at.
    let x = c.args.self.now in
    let stands : w.failed ≡ false = sym at.failed ∙ c.if-self.false in
    (with_fills w, fills_end start _ x w (fills_from start _ x w at stands) (omega (arith, c.if-self-slabs.true, c.slabs.ensures)), refl)

pub returns-in-Ok-clause-complete : goal.returns-in-Ok-clause-complete
returns-in-Ok-clause-complete g c = λ start w at stands none.
    let x = c.args.self.now in
    let planned : IsSlabOrder w.schema x.slab_order = subst (λ (u : Schema). IsSlabOrder u x.slab_order) at.schema x.planned in
    let less : x.slab < x.slab_order.slabs = omega (arith, c.if-self-slabs.false, c.slabs.ensures, x.within) in
    let some = next_open w.schema w.taken x.slab x.left (at.at stands) (omega (arith, less, planned.slabs)) in
    absurd (cc (some, none))

pub returns-in-Err-clause-complete : goal.returns-in-Err-clause-complete
returns-in-Err-clause-complete g c = λ start w at stands none.
    let x = c.args.self.now in
    let planned : IsSlabOrder w.schema x.slab_order = subst (λ (u : Schema). IsSlabOrder u x.slab_order) at.schema x.planned in
    let less : x.slab < x.slab_order.slabs = omega (arith, c.if-self-slabs.false, c.slabs.ensures, x.within) in
    let some = next_open w.schema w.taken x.slab x.left (at.at stands) (omega (arith, less, planned.slabs)) in
    absurd (cc (some, none))

pub returns-in-Ok-clause-stands : goal.returns-in-Ok-clause-stands
returns-in-Ok-clause-stands g c = λ start w at.
    let stands : w.failed ≡ false = sym at.failed ∙ c.if-self.false in
    (with_fills w, c.in-Ok.ensures.fills start w (record { schema = at.schema; failed = at.failed; bytes = at.bytes; at = at.at; whole = at.whole; out = at.out; pages = at.pages }) stands, refl)

pub returns-in-Err-clause-stands : goal.returns-in-Err-clause-stands
returns-in-Err-clause-stands g c = λ start w at.
    let stands : w.failed ≡ false = sym at.failed ∙ c.if-self.false in
    let stops = c.in-Err.ensures.fills start w (record { schema = at.schema; failed = at.failed; bytes = at.bytes; at = at.at; whole = at.whole; out = at.out; pages = at.pages }) stands in
    (as_failed (with_fills w), record { schema = stops.schema; failed = refl; bytes = stops.bytes; at = λ f. absurd (cc f); whole = λ f. absurd (cc f); out = stops.out; pages = λ f. absurd (cc f) }, refl)
