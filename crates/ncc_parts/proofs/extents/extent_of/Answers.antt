use Rattle.std.proofs.Common.{◌≡◌, ℕ, ◌+◌, ◌<◌, length, get_or, sym, ap, ◌∙◌, false, arith, List}
use Rattle.std.proofs.lemmas.List.{get_or-map, length-map}
use Rattle.ncc_schema.specs.declared.schema.Var.{Var}
use Rattle.ncc_schema.specs.declared.schema.VarPlace.{VarPlace}
use Rattle.ncc_schema.specs.Schema.{Place, places_of, is_record_var}
use Rattle.ncc_layout.specs.Sizes.{slab}
use Rattle.ncc_parts.proofs.ExtentsAt.{extents-at}
use Rattle.ncc_parts.proofs.extents.extent_of.Goals as goal

pub returns : goal.returns
returns c =
    let h = c.args.header.now in
    let s = h.schema in
    let n = c.args.number in
    let x = get_or s.vars n c.index-as_slice-number.result in
    let q : VarPlace = record { vsize = 0; begin = 0; begin_at = 0 } in
    let p : Place = record { vsize = 0; begin = 0 } in
    let bare : VarPlace → Place = λ y. record { vsize = y.vsize; begin = y.begin } in
    let placed : n < length h.places = omega (arith, c.requires.there, c.requires.legal.number, length-map {B = Place} h.places bare) in
    let listed : n < length (places_of h.places) = omega (arith, c.requires.there, c.requires.legal.number) in
    let at = extents-at s.dims 0 n s.vars (places_of h.places) c.index-as_slice-number.result p (record { begin = 0; slab = 0; variable = 0; is_record = false }) c.requires.there listed in
    let place : get_or (places_of h.places) n p ≡ record { vsize = (get_or h.places n q).vsize; begin = (get_or h.places n q).begin } = get_or-map bare h.places n q p placed in
    let begin : (get_or c.as_slice.result.now n q).begin ≡ (get_or (places_of h.places) n p).begin = ap (λ (ps : List VarPlace). (get_or ps n q).begin) c.as_slice.ensures ∙ ap (λ (y : Place). y.begin) (sym place) in
    let size : get_or c.as_slice-2.result.now n 0 ≡ slab s.dims x = ap (λ (ns : List ℕ). get_or ns n 0) (c.as_slice-2.ensures ∙ c.requires.sizes.slabs) ∙ get_or-map (slab s.dims) s.vars n c.index-as_slice-number.result 0 c.requires.there in
    let number : n ≡ 0 + n = omega arith in
    let kind : c.is_record_var.result ≡ is_record_var s.dims x =
    c.is_record_var.ensures ∙ ap (λ ds. is_record_var ds c.index-as_slice-number.result) c.as_slice-3.ensures ∙ ap (is_record_var s.dims) (c.index-as_slice-number.is ∙ ap (λ (xs : List Var). get_or xs n c.index-as_slice-number.result) c.as_slice-4.ensures) in
    (λ i. record { begin = begin i; slab = size i; variable = number i; is_record = kind i }) ∙ sym at
