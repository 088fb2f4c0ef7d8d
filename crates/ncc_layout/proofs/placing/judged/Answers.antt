use Rattle.std.proofs.Common.{List, length, refl, sym, subst, ap, ◌∙◌, arith}
use Rattle.std.specs.Prelude.{Err}
use Rattle.std.specs.List.{AllByRecursion}
use Rattle.std.proofs.lemmas.List.{length-map}
use Rattle.ncc_schema.specs.declared.schema.VarPlace.{VarPlace}
use Rattle.ncc_schema.specs.Schema.{place_of, places_of}
use Rattle.ncc_layout.specs.declared.fault.LayoutFault.{LayoutFault}
use Rattle.ncc_layout.specs.declared.fault.PlaceError.TheVariants.{Fault}
use Rattle.ncc_layout.specs.Bounds.{HasBytes, AreNumbered}
use Rattle.ncc_layout.specs.Extents.{extents_of}
use Rattle.ncc_layout.specs.Placed.{fault_at, PlacedAs}
use Rattle.ncc_layout.proofs.Laying.{extents_have_bytes, numbered, numbers_differ, fault_found, fault_there, rules_hold}
use Rattle.ncc_layout.proofs.placing.judged.Goals as goal

pub first_fault-requires-clause-bytes : goal.first_fault-requires-clause-bytes
first_fault-requires-clause-bytes c =
    subst (AllByRecursion HasBytes) (sym (c.deref_mut.ensures.value ∙ c.in_ok-extents.ensures.extents)) (extents_have_bytes c.args.header.now.schema (places_of c.args.header.now.places) c.requires.legal.sound)

pub first_fault-requires-clause-numbered : goal.first_fault-requires-clause-numbered
first_fault-requires-clause-numbered c =
    let s = c.args.header.now.schema in
    let places = places_of c.args.header.now.places in
    subst AreNumbered (sym (c.deref_mut.ensures.value ∙ c.in_ok-extents.ensures.extents)) (numbers_differ 0 (extents_of s places) (numbered s.dims 0 s.vars places))

pub fault_at-requires : goal.fault_at-requires
fault_at-requires c =
    let header = c.args.header.now in
    let there = fault_there header.schema (places_of header.places) header.length c.args.file_length c.deref_mut.result.now c.frame_of-frame.result c.frame_of-frame.ensures (c.deref_mut.ensures.value ∙ c.in_ok-extents.ensures.extents)
    c.requires.legal.number c.first_fault.result c.in-Some.kind c.in-Some.variable c.first_fault.ensures.judged c.in-Some.is in
    omega (arith, there, length-map header.places place_of, ap length c.as_slice.ensures)

pub returns-in-Some-clause-judged : goal.returns-in-Some-clause-judged
returns-in-Some-clause-judged c =
    let header = c.args.header.now in
    let is = c.deref_mut.ensures.value ∙ c.in_ok-extents.ensures.extents in
    let found = fault_found header.schema (places_of header.places) header.length c.args.file_length c.deref_mut.result.now c.frame_of-frame.result c.frame_of-frame.ensures is
    c.requires.sizes.none_too_large c.first_fault.result c.in-Some.kind c.in-Some.variable c.first_fault.ensures.judged c.in-Some.is in
    let there = fault_there header.schema (places_of header.places) header.length c.args.file_length c.deref_mut.result.now c.frame_of-frame.result c.frame_of-frame.ensures is
    c.requires.legal.number c.first_fault.result c.in-Some.kind c.in-Some.variable c.first_fault.ensures.judged c.in-Some.is in
    let same = c.fault_at.ensures ∙ ap (λ (l : List VarPlace). fault_at l c.in-Some.kind c.in-Some.variable) c.as_slice.ensures in
    subst (λ (f : LayoutFault). PlacedAs header.schema header.places header.length c.args.file_length (Err (Fault f))) (sym same)
    (c.in-Some.variable, found, omega (arith, there, length-map header.places place_of), refl)

pub returns-clause-judged : goal.returns-clause-judged
returns-clause-judged c =
    let header = c.args.header.now in
    let is = c.deref_mut.ensures.value ∙ c.in_ok-extents.ensures.extents in (
      record {
        none_too_large = c.requires.sizes.none_too_large;
        rules = rules_hold header.schema (places_of header.places) header.length c.args.file_length c.deref_mut.result.now c.frame_of-frame.result c.frame_of-frame.ensures is c.first_fault.result c.first_fault.ensures.judged c.in-None.is;
      },
      c.frame_of-frame.ensures,
    )
