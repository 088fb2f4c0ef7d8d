use Rattle.std.proofs.Common.{◌≡◌, ◌+◌, ◌-◌, ◌∷◌, ℕ, List, Some, true, false, drop, sym, ap, ◌∙◌, arith}
use Rattle.std.proofs.lemmas.List.{drop_all, drop_more}
use Rattle.ncc_schema.specs.Schema.{places_of}
use Rattle.ncc_layout.specs.declared.extent.Extent.{Extent}
use Rattle.ncc_layout.specs.Extents.{begin_sooner, least_begin, records_of}
use Rattle.ncc_check.specs.Notes.{extents_in}
use Rattle.ncc_parts.specs.Breaking.{extent_at, no_extent}
use Rattle.ncc_parts.proofs.ExtentsAt.{least_more, least_same, long, short}
use Rattle.ncc_parts.proofs.extents.records_begin.Goals as goal

pub loop-number-init : goal.loop-number-init
loop-number-init c =
    let h = c.args.header.now in
    sym (ap (λ (es : List Extent). least_begin (records_of es)) (drop_all c.len-number.result (extents_in h) (omega (arith, c.len-number.ensures, short h.schema.dims 0 h.schema.vars (places_of h.places)))))

pub loop-number-preserved-then-extent : goal.loop-number-preserved-then-extent
loop-number-preserved-then-extent c =
    let h = c.args.header.now in
    let n = c.loop-number.number in
    let least = c.loop-number.least in
    let e = extent_at h (n - 1) in
    let rest = drop (n - 1 + 1) (extents_in h) in
    let all = long h.schema.dims 0 h.schema.vars (places_of h.places) c.requires.legal.number in
    let one : drop (n - 1) (extents_in h) ≡ e ∷ rest = drop_more (extents_in h) (n - 1) no_extent (omega (arith, all, c.len-number.ensures, c.loop-number.auto.number, c.loop-number-test.true)) in
    let next : n ≡ n - 1 + 1 = omega (arith, c.loop-number-test.true) in
    let kind : e.is_record ≡ true = ap (λ (x : Extent). x.is_record) (sym c.extent_of-extent.ensures) ∙ c.if-extent.true in
    let before : least ≡ least_begin (records_of rest) = c.loop-number.invariant ∙ ap (λ (m : ℕ). least_begin (records_of (drop m (extents_in h)))) next in
    ap Some (c.sooner.ensures ∙ ap (λ (x : Extent). begin_sooner least x.begin) c.extent_of-extent.ensures)
    ∙ least_more e rest least kind before
    ∙ ap (λ (es : List Extent). least_begin (records_of es)) (sym one)

pub loop-number-preserved : goal.loop-number-preserved
loop-number-preserved c =
    let h = c.args.header.now in
    let n = c.loop-number.number in
    let least = c.loop-number.least in
    let e = extent_at h (n - 1) in
    let rest = drop (n - 1 + 1) (extents_in h) in
    let all = long h.schema.dims 0 h.schema.vars (places_of h.places) c.requires.legal.number in
    let one : drop (n - 1) (extents_in h) ≡ e ∷ rest = drop_more (extents_in h) (n - 1) no_extent (omega (arith, all, c.len-number.ensures, c.loop-number.auto.number, c.loop-number-test.true)) in
    let next : n ≡ n - 1 + 1 = omega (arith, c.loop-number-test.true) in
    let kind : e.is_record ≡ false = ap (λ (x : Extent). x.is_record) (sym c.extent_of-extent.ensures) ∙ c.if-extent.false in
    let before : least ≡ least_begin (records_of rest) = c.loop-number.invariant ∙ ap (λ (m : ℕ). least_begin (records_of (drop m (extents_in h)))) next in
    least_same e rest least kind before
    ∙ ap (λ (es : List Extent). least_begin (records_of es)) (sym one)

pub returns : goal.returns
returns c =
    let h = c.args.header.now in
    let none : c.loop-number.number ≡ 0 = omega (arith, c.loop-number-test.false) in
    c.loop-number.invariant ∙ ap (λ (m : ℕ). least_begin (records_of (drop m (extents_in h)))) none
