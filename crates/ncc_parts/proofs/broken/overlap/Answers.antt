use Rattle.std.proofs.Common.{◌≡◌, ◌+◌, ◌∷◌, ℕ, suc, Some, true, false, drop, sym, ap, ◌∙◌, arith, if◌then◌else◌}
use Rattle.std.proofs.lemmas.List.{drop_all, drop_more}
use Rattle.ncc_schema.specs.Schema.{places_of}
use Rattle.ncc_layout.specs.declared.extent.Extent.{Extent}
use Rattle.ncc_layout.specs.Extents.{end}
use Rattle.ncc_check.specs.Notes.{extents_in}
use Rattle.ncc_parts.specs.declared.broken.Broken.TheVariants.{Overlap}
use Rattle.ncc_parts.specs.Breaking.{extent_at, first_overlap, no_extent, overlaps}
use Rattle.ncc_parts.proofs.ExtentsAt.{long, short}
use Rattle.ncc_parts.proofs.broken.overlap.Goals as goal

pub returns-then-overlaps : goal.returns-then-overlaps
returns-then-overlaps c =
    let h = c.args.header.now in
    let x = extent_at h c.args.number in
    let k = c.loop-other.other in
    let d = extent_at h k in
    let rest = drop (k + 1) (extents_in h) in
    let all = long h.schema.dims 0 h.schema.vars (places_of h.places) c.requires.legal.number in
    let one : drop k (extents_in h) ≡ d ∷ rest = drop_more (extents_in h) k no_extent (omega (arith, all, c.len-other-end.ensures, c.loop-other-test.true)) in
    let test : overlaps d x ≡ true =
    ap (λ (e : Extent). overlaps e x) (sym c.extent_of-earlier.ensures) ∙ ap (overlaps c.extent_of-earlier.result) (sym c.extent_of-later.ensures) ∙ sym c.overlaps.ensures ∙ c.if-overlaps.true in
    let here = c.loop-other.invariant ∙ ap (first_overlap x k) one ∙ ap (λ b. if b then Some (Overlap x.begin k (end d)) else first_overlap x (suc k) rest) test in
    ap (λ (e : Extent). Some (Overlap e.begin k c.end.result)) c.extent_of-later.ensures
    ∙ ap (λ n. Some (Overlap x.begin k n)) (c.end.ensures ∙ ap end c.extent_of-earlier.ensures)
    ∙ sym here

pub loop-other-preserved : goal.loop-other-preserved
loop-other-preserved c =
    let h = c.args.header.now in
    let x = extent_at h c.args.number in
    let k = c.loop-other.other in
    let d = extent_at h k in
    let rest = drop (k + 1) (extents_in h) in
    let all = long h.schema.dims 0 h.schema.vars (places_of h.places) c.requires.legal.number in
    let one : drop k (extents_in h) ≡ d ∷ rest = drop_more (extents_in h) k no_extent (omega (arith, all, c.len-other-end.ensures, c.loop-other-test.true)) in
    let test : overlaps d x ≡ false =
    ap (λ (e : Extent). overlaps e x) (sym c.extent_of-earlier.ensures) ∙ ap (overlaps c.extent_of-earlier.result) (sym c.extent_of-later.ensures) ∙ sym c.overlaps.ensures ∙ c.if-overlaps.false in
    let more : suc k ≡ k + 1 = omega arith in
    c.loop-other.invariant
    ∙ ap (first_overlap x k) one
    ∙ ap (λ b. if b then Some (Overlap x.begin k (end d)) else first_overlap x (suc k) rest) test
    ∙ ap (λ (m : ℕ). first_overlap x m rest) more

pub returns : goal.returns
returns c =
    let h = c.args.header.now in
    let x = extent_at h c.args.number in
    let k = c.loop-other.other in
    let none = drop_all k (extents_in h) (omega (arith, c.len-other-end.ensures, c.loop-other-test.false, short h.schema.dims 0 h.schema.vars (places_of h.places))) in
    sym (c.loop-other.invariant ∙ ap (first_overlap x k) none)
