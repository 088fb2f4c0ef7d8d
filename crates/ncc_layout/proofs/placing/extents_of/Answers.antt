use Rattle.std.proofs.Common.{◌≡◌, ◌<◌, ◌+◌, List, map, length, drop, ◌++◌, sym, ap, ◌∙◌, arith}
use Rattle.std.proofs.lemmas.List.{length-map}
use Rattle.ncc_schema.specs.declared.schema.Dim.{Dim}
use Rattle.ncc_schema.specs.Schema.{place_of, places_of}
use Rattle.ncc_layout.specs.declared.extent.Extent.{Extent}
use Rattle.ncc_layout.specs.Sizes.{slab}
use Rattle.ncc_layout.specs.Extents.{extents_from}
use Rattle.ncc_layout.proofs.Laying.{extent_pushed}
use Rattle.ncc_layout.proofs.placing.extents_of.Goals as goal

pub loop-variable-preserved : goal.loop-variable-preserved
loop-variable-preserved c =
    let dims = c.as_slice-dims.result.now in
    let vars = c.as_slice-vars.result.now in
    let places = c.as_slice-places.result.now in
    let slabs = c.as_slice-slabs.result.now in
    let k = c.loop-variable.variable in
    let sizes : slabs ≡ map (slab dims) vars =
    c.as_slice-slabs.ensures ∙ c.requires.sizes.slabs ∙ ap (λ (l : List Dim). map (slab l) c.args.header.now.schema.vars) (sym c.as_slice-dims.ensures) ∙ ap (map (slab dims)) (sym c.as_slice-vars.ensures) in
    let there : k < length places =
    omega (arith, c.loop-variable-test.true, c.requires.legal.number, length-map c.args.header.now.places place_of, ap length c.as_slice-places.ensures, ap length c.as_slice-vars.ensures) in
    ap (λ (l : List Extent). l ++ extents_from dims (k + 1) (drop (k + 1) vars) (drop (k + 1) (places_of places))) c.in_ok-push.ensures.items
    ∙ extent_pushed dims vars places slabs k c.index-vars-variable.result _ c.is_record_var.result c.loop-variable.extents.items _ c.loop-variable-test.true there sizes c.index-vars-variable.is c.is_record_var.ensures c.loop-variable.invariant
