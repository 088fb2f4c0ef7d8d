use Rattle.std.proofs.Common.{◌≡◌, ◌<◌, ℕ, List, Some, sym, ap, subst, ◌∙◌}
use Rattle.ncc_schema.specs.Schema.{places_of}
use Rattle.ncc_layout.specs.declared.extent.Extent.{Extent}
use Rattle.ncc_layout.specs.Extents.{greatest_end, least_begin, records_of}
use Rattle.ncc_layout.specs.Sizes.{record_size_of}
use Rattle.ncc_check.specs.Notes.{extents_in}
use Rattle.ncc_places.proofs.Ending.{end_positive, records_all, records_are, size_positive}
use Rattle.ncc_places.proofs.ends.records_in.Goals as goal

pub record_count-count-requires : goal.record_count-count-requires
record_count-count-requires c =
    let h = c.args.header.now in
    let b = c.in_ok-begin.begin in
    let es = records_of (extents_in h) in
    let is : least_begin es ≡ Some b = sym c.in_ok-begin.ensures in
    let all = records_all (λ (e : Extent). 0 < e.slab) (extents_in h) (c.no_extent_is_empty.ensures h.schema (places_of h.places) c.requires.legal.sound) in
    let last = c.slabs_end-slabs_end.ensures.value ∙ ap (λ (xs : List Extent). greatest_end (records_of xs)) c.requires.extents in
    record {
      some = subst (λ (n : ℕ). 0 < n) (sym last) (end_positive es b is all);
      stride = subst (λ (n : ℕ). 0 < n) (sym c.requires.sizes.record_size) (size_positive h.schema (places_of h.places) b c.requires.legal.sound is);
    }

pub returns : goal.returns
returns c =
    let h = c.args.header.now in
    let b = c.in_ok-begin.begin in
    let is : least_begin (records_of (extents_in h)) ≡ Some b = sym c.in_ok-begin.ensures in
    let last = c.slabs_end-slabs_end.ensures.value ∙ ap (λ (xs : List Extent). greatest_end (records_of xs)) c.requires.extents in
    records_are (record_size_of h.schema) c.args.file_length b (extents_in h) h.schema.count c.args.sizes.now.record_size c.slabs_end-slabs_end.result c.record_count-count.result c.last_end.result
    is c.requires.sizes.record_size last c.record_count-count.ensures c.last_end.ensures
