use Rattle.std.proofs.Common.{◌≡◌, ◌+◌, ◌∷◌, ◌++◌, List, [], drop, sym, ap, ◌∙◌, append_assoc, arith}
use Rattle.std.proofs.lemmas.List.{append-nil, drop_all, drop_more}
use Rattle.ncc_schema.specs.Schema.{places_of}
use Rattle.ncc_layout.specs.declared.extent.Extent.{Extent}
use Rattle.ncc_check.specs.Notes.{extents_in}
use Rattle.ncc_parts.specs.Breaking.{extent_at, no_extent}
use Rattle.ncc_parts.proofs.ExtentsAt.{long, short}
use Rattle.ncc_places.proofs.ordering.extents_in.Goals as goal

pub loop-number-preserved : goal.loop-number-preserved
loop-number-preserved c =
    let h = c.args.header.now in
    let xs = extents_in h in
    let k = c.loop-number.number in
    let items = c.loop-number.extents.items in
    let rest = drop (k + 1) xs in
    let all = long h.schema.dims 0 h.schema.vars (places_of h.places) c.requires.legal.number in
    let one : drop k xs ≡ extent_at h k ∷ rest = drop_more xs k no_extent (omega (arith, all, c.len-number-end.ensures, c.loop-number-test.true)) in
    ap (λ (l : List Extent). l ++ rest) c.in_ok-push.ensures.items
    ∙ append_assoc items (c.extent_of.result ∷ []) rest
    ∙ ap (λ (x : Extent). items ++ x ∷ rest) c.extent_of.ensures
    ∙ ap (λ (l : List Extent). items ++ l) (sym one)
    ∙ c.loop-number.invariant

pub returns : goal.returns
returns c =
    let h = c.args.header.now in
    let items = c.loop-number.extents.items in
    let none = drop_all c.loop-number.number (extents_in h) (omega (arith, c.len-number-end.ensures, c.loop-number-test.false, short h.schema.dims 0 h.schema.vars (places_of h.places))) in
    sym (append-nil items) ∙ ap (λ (l : List Extent). items ++ l) (sym none) ∙ c.loop-number.invariant
