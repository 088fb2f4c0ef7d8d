use Rattle.std.proofs.Common.{◌≡◌, ◌∙◌, List, ℕ, length, ap, subst, sym}
use Rattle.ncc_layout.proofs.VersionFits.{legal_places}
use Rattle.ncc_layout.specs.Standard.{file_length}
use Rattle.ncc_build.proofs.BuiltFacts.{fits_of}
use Rattle.ncc_build.proofs.SoundProps.{sound_of}
use Rattle.ncc_build.specs.Builds.{schema_of}
use Rattle.ncc_build.specs.File.{header_of}
use Rattle.ncc_front.specs.declared.judging.FrontRefusal.{FrontRefusal}
use Rattle.ncc_front.specs.Judging.{FailsFront, FindsOf, RefusesFront}
use Rattle.ncc_plan.proofs.Lengths.{fits_with}
use Rattle.ncc_plan.proofs.Passing.{Laws, not_fault, plan_is}
use Rattle.ncc_plan.proofs.Typed.{offsets_of, typed_of}
use Rattle.ncc_plan.proofs.planning.plan_of.Goals as goal

pub unreachable-requires : goal.unreachable-requires
unreachable-requires c =
    let s = schema_of c.args.built.now in
    let n = c.args.records in
    let facts = c.built_is_writable.ensures in
    let fits = fits_with s n c.requires (fits_of s facts.writable) in
    let legal = legal_places s n (sound_of s facts.built) fits (offsets_of s facts.writable) in
    let laws : Laws = record {
      canonical = c.canonical_header.ensures;
      one_length = c.one_length.ensures;
      begun = c.header_is_begun.ensures;
      one = c.one_header.ensures;
      placed = c.standard_places_keep_all_rules.ensures;
      no_fault = c.passing_has_no_fault.ensures.apart;
    } in
    let f = c.in-Err-Fault.field-0-0 in
    let front = c.deref.result.now in
    let text : front ≡ header_of s = c.deref.ensures.value ∙ c.in_ok-header.ensures in
    let long : c.len-length.result ≡ length (header_of s) = c.len-length.ensures ∙ sym c.deref.ensures.len ∙ ap (λ (l : List ℕ). length l) text in
    let refused : FailsFront front c.in_ok-file_length.file_length c.len-length.result f =
    subst (λ (r : FrontRefusal). RefusesFront front c.in_ok-file_length.file_length c.len-length.result r) c.in-Err-Fault.field-0-is c.in-Err-Fault.ensures.refuses in
    let there : FailsFront (header_of s) c.in_ok-file_length.file_length c.len-length.result f = subst (λ (l : List ℕ). FailsFront l c.in_ok-file_length.file_length c.len-length.result f) text refused in
    let sized : FailsFront (header_of s) (file_length s n) c.len-length.result f = subst (λ (k : ℕ). FailsFront (header_of s) k c.len-length.result f) c.in_ok-file_length.ensures there in
    not_fault laws s n c.requires (typed_of s facts.built) legal fits f (subst (λ (k : ℕ). FailsFront (header_of s) (file_length s n) k f) long sized)

pub returns-in-Ok : goal.returns-in-Ok
returns-in-Ok c =
    let s = schema_of c.args.built.now in
    let n = c.args.records in
    let facts = c.built_is_writable.ensures in
    let fits = fits_with s n c.requires (fits_of s facts.writable) in
    let legal = legal_places s n (sound_of s facts.built) fits (offsets_of s facts.writable) in
    let laws : Laws = record {
      canonical = c.canonical_header.ensures;
      one_length = c.one_length.ensures;
      begun = c.header_is_begun.ensures;
      one = c.one_header.ensures;
      placed = c.standard_places_keep_all_rules.ensures;
      no_fault = c.passing_has_no_fault.ensures.apart;
    } in
    let front = c.deref.result.now in
    let h = c.in-Ok.found.header in
    let p = c.in-Ok.found.placed in
    let there : FindsOf c.in_ok-header.header.items c.in_ok-file_length.file_length c.len-length.result h p =
    subst (λ (l : List ℕ). FindsOf l c.in_ok-file_length.file_length c.len-length.result h p) c.deref.ensures.value c.in-Ok.ensures.finds in
    let long : c.len-length.result ≡ length c.in_ok-header.header.items = c.len-length.ensures ∙ sym c.deref.ensures.len ∙ ap (λ (l : List ℕ). length l) c.deref.ensures.value in
    let moved = subst (λ (k : ℕ). FindsOf c.in_ok-header.header.items c.in_ok-file_length.file_length k h p) long there in
    plan_is laws s n c.requires (typed_of s facts.built) legal fits _ h c.in_ok-header.ensures c.in_ok-file_length.ensures moved
