-- What an open file with room for one more record keeps.
use Rattle.std.proofs.Common.{◌≡◌, inl, inr, ℕ, ◌+◌, ◌≤◌, Bool, List, ◌++◌, length, map, Option, Some, None, refl, sym, ap, subst, ◌∙◌, length-append, arith}
use Rattle.std.proofs.Math.Logic.{∥∥₁_elim}
use Rattle.std.proofs.Props.{props}
use Rattle.ncc_values.specs.BigEndian.{length-big_endian}
use Rattle.ncc_values.specs.Version.{byte_of, count_width_of}
use Rattle.ncc_schema.specs.declared.schema.Schema.{Schema}
use Rattle.ncc_schema.specs.Header.{IsHeader, numrecs_word, list_tag, nc_dimension}
use Rattle.ncc_schema.specs.Schema.{Place, places_of}
use Rattle.ncc_schema.proofs.CountField.{old_field, parts_of, start_of}
use Rattle.ncc_layout.specs.declared.extent.Extent.{Extent}
use Rattle.ncc_layout.specs.declared.placed_file.Placed.{Placed}
use Rattle.ncc_layout.specs.Extents.{LeastBegin, least_begin, records_of}
use Rattle.ncc_layout.specs.Packed.{begin_or_zero, record_at, records_at}
use Rattle.ncc_layout.specs.Placed.{HasRoom, KeepsRules, extents_of_file, file_length_of, header_length_of, record_size_of_file, records_of_file}
use Rattle.ncc_layout.specs.Rules.InHeader.{NotInHeader}
use Rattle.ncc_layout.proofs.LeastBegins.{first_begin_is, is_least}
use Rattle.ncc_layout.proofs.Membership.{all_in, filter_in, in_from_contains, in_mapped}
use Rattle.ncc_layout.proofs.OneMoreRoom.{with_one_more}
use Rattle.ncc_check.specs.Appending.{HasNoRecordVariable, TakesRecord, next_record_at}
use Rattle.ncc_check.specs.Checks.{StandsIn}

-- ---- the records

least_some : (o : Option ℕ) → (o ≡ None → ⊥) → o ≡ Some (begin_or_zero o)
least_some None some = absurd (some refl)
least_some (Some b) some = refl

pub records_begin : (p : Placed) → (HasNoRecordVariable p → ⊥) → LeastBegin (records_of (extents_of_file p)) (Some (records_at p))
records_begin p some =
    let records = records_of (extents_of_file p) in
    subst (LeastBegin records) (least_some (least_begin records) some) (is_least records (least_begin records) (sym (first_begin_is records)))

pub has_room : (p : Placed) (more : ℕ) → KeepsRules p → (HasNoRecordVariable p → ⊥) → record_at p (records_of_file p + 1) ≤ more → HasRoom p more
has_room p more keeps some room =
    with_one_more (header_length_of p) (file_length_of p) (record_size_of_file p) (records_of_file p) (extents_of_file p) keeps.rules (records_at p) (records_begin p some) more room

-- the records begin after the header
pub behind_header : (p : Placed) → KeepsRules p → (HasNoRecordVariable p → ⊥) → header_length_of p ≤ records_at p
behind_header p keeps some =
    let records = records_of (extents_of_file p) in
    let least = records_begin p some in
    let first = in_mapped (λ (e : Extent). e.begin) records (records_at p) (in_from_contains (map (λ (e : Extent). e.begin) records) (records_at p) least.1) in
    let there = filter_in (λ (e : Extent). e.is_record) (extents_of_file p) first.0 first.1 in
    omega (arith, first.2, all_in (NotInHeader (header_length_of p)) (extents_of_file p) first.0 keeps.rules.not_in_header there.0)

-- ---- the header

tag_long : (tag n : ℕ) (b : List ℕ) → list_tag tag n b → length b ≡ 4
tag_long tag n b (inl is) = ap length is ∙ length-big_endian 4 tag
tag_long tag n b (inr is) = ap length is.1 ∙ length-big_endian 4 0

-- after the count field there is more than padding
pub header_long : (s : Schema) (places : List Place) (b : List ℕ) → IsHeader s places b → 4 + count_width_of s.version + 3 ≤ length b
header_long s places b h =
    let parts = parts_of s places b h in
    let dims = parts.spelled in
    let head = dims.3 in
    let front = head.3 in
    let wide = length-big_endian (count_width_of s.version) in
    omega (
      arith,
      ap length parts.joined,
      length-append (start_of s.version) (old_field s ++ parts.lists),
      length-append (old_field s) parts.lists,
      length-big_endian 1 (byte_of s.version),
      wide (numrecs_word s.version s.count),
      ap length dims.2 ∙ length-append dims.0 dims.1,
      ap length head.2 ∙ length-append head.0 head.1,
      ap length front.2 ∙ length-append front.0 front.1,
      tag_long nc_dimension _ front.0 front.3,
    )

-- ---- an open file

header_of_file : (told : Bool) (bytes : List ℕ) (s : Schema) (p : Placed) → ∥ StandsIn told bytes s p ∥₁ → 4 + count_width_of s.version + 3 ≤ header_length_of p
header_of_file told bytes s p stands =
    ∥∥₁_elim stands (hlevel props) (λ (at : StandsIn told bytes s p).
    let begun = at.begun.2 in
    omega (
      arith,
      header_long at.header.schema (places_of at.header.places) begun.front begun.is_header,
      begun.long,
      at.placed_is.header_is,
      ap (λ (t : Schema). count_width_of t.version) at.schema_is,
    ))

-- the count field lies before the next record, and in the file
pub field_fits : (told : Bool) (bytes : List ℕ) (s : Schema) (p : Placed) → ∥ StandsIn told bytes s p ∥₁ → KeepsRules p → TakesRecord s p
    → (4 + count_width_of s.version ≤ next_record_at p) × (4 + count_width_of s.version ≤ file_length_of p)
field_fits told bytes s p stands keeps takes =
    let long = header_of_file told bytes s p stands in
    let behind = behind_header p keeps takes.some in
    (omega (arith, long, behind), omega (arith, long, behind, takes.packed.reaches))
