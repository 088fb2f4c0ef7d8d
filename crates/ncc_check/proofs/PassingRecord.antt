-- The bytes of an open file pass with one more record.
use Rattle.std.proofs.Common.{◌≡◌, inl, ℕ, ◌+◌, ◌*◌, ◌<◌, ◌≤◌, Bool, true, false, List, length, map, Option, Some, None, refl, sym, ap, ap₂, subst, ◌∙◌, arith}
use Rattle.std.specs.Prelude.{IfSome, ltb, if◌then◌else◌}
use Rattle.std.proofs.lemmas.Bool.{ltb-true}
use Rattle.ncc_values.specs.declared.version.Version.{Version}
use Rattle.ncc_schema.specs.declared.schema.Count.TheVariants.{Known}
use Rattle.ncc_schema.specs.declared.schema.Header.{Header}
use Rattle.ncc_schema.specs.declared.schema.Schema.{Schema}
use Rattle.ncc_schema.specs.Header.{with_count_field}
use Rattle.ncc_schema.specs.Schema.{Place, header_with_count, places_of, streaming_mark, with_count}
use Rattle.ncc_header.specs.Answers.{Begins}
use Rattle.ncc_layout.specs.declared.extent.Extent.{Extent}
use Rattle.ncc_layout.specs.declared.placed_file.Placed.{Placed}
use Rattle.ncc_layout.specs.Elements.{with_records}
use Rattle.ncc_layout.specs.Extents.{LeastBegin, extents_of, record_count, records_of}
use Rattle.ncc_layout.specs.Packed.{records_at}
use Rattle.ncc_layout.specs.Placed.{HasOneMore, Holds, KeepsRules, extents_of_file, record_size_of_file, records_of_file}
use Rattle.ncc_layout.specs.Plans.{IsKnown}
use Rattle.ncc_layout.specs.Rules.{IsPlaced}
use Rattle.ncc_layout.specs.Sizes.{record_size_of}
use Rattle.ncc_check.specs.AppendLaws.{CanGrow, PassesOn}
use Rattle.ncc_check.specs.Appending.{HasRecord, TakesRecord, count_field, length_with_record, next_record_at, staged, with_record}
use Rattle.ncc_check.specs.Checks.{Opens}
use Rattle.ncc_check.specs.Passes.{PassesWith}
use Rattle.ncc_check.proofs.Appendable.{records_begin}
use Rattle.ncc_check.proofs.Appended.{appended_long, field_long, field_written, staged_begins}
use Rattle.ncc_check.proofs.PassingOn.{before, field_within, known, within}
use Rattle.ncc_check.proofs.Reopening.{OneHeader, can_grow, extents_there, moved, records_at_same, with_more}

-- of a header whose count field is written again, and of one more record
pub record Laws : Type 0 where
  pub begun : (input : List ℕ) (limit : ℕ) (h : Header) (n : ℕ) → Begins input limit h → n < streaming_mark h.schema.version
      → Begins (with_count_field h.schema.version n input) limit (header_with_count h n)
  pub one_more : (s : Schema) (places : List Place) (header file more n : ℕ) (first : Option ℕ) → s.count ≡ Known n → IsPlaced s places header file → file ≤ more
      → LeastBegin (records_of (extents_of s places)) first → IfSome first (λ begin. begin + (n + 1) * record_size_of s ≤ more)
      → IsPlaced (with_count s (n + 1)) places header more
  pub placed : (s : Schema) (places : List Place) (header file more n : ℕ) (p q : Placed) → s.count ≡ Known n → Holds s places header file p
      → HasOneMore p more q → Holds (with_count s (n + 1)) places header more q

some_next : (v : Version) (n : ℕ) (b : Bool) → ltb (n + 1) (streaming_mark v) ≡ b → ((if b then Some (n + 1) else None) ≡ None → ⊥) → n + 1 < streaming_mark v
some_next v n true is some = ltb-true (n + 1) (streaming_mark v) is
some_next v n false is some = absurd (some refl)

module _ (bytes : List ℕ) (limit : ℕ) (s : Schema) (p : Placed) (o : Opens bytes limit s p) (takes : TakesRecord s p) (rules : KeepsRules p)
    (one : OneHeader) (laws : Laws) (image : List ℕ) (long : length image ≡ record_size_of_file p) where
  abbrev h : Header
  h = o.header

  abbrev n : ℕ
  n = records_of_file p

  abbrev new : List ℕ
  new = with_record bytes s p image

  abbrev counted_header : Header
  counted_header = header_with_count h (n + 1)

  pub long_with_record : length new ≡ length_with_record p
  long_with_record =
      let sum : (n + 1) * record_size_of_file p ≡ n * record_size_of_file p + record_size_of_file p = omega arith in
      let field = count_field s.version (n + 1) in
      omega (
        arith,
        appended_long bytes (next_record_at p) image 4 field (omega (arith, field_within bytes limit s p o takes rules, within bytes limit s p o takes rules, field_long s.version (n + 1))),
        o.placed_is.length_is,
        sum,
        long,
      )

  version : s.version ≡ h.schema.version
  version = ap (λ (u : Schema). u.version) o.schema_is

  less : n + 1 < streaming_mark h.schema.version
  less =
      let v = s.version in
      subst (λ (u : Version). n + 1 < streaming_mark u) version (some_next v n (ltb (n + 1) (streaming_mark v)) refl (λ full. takes.room (inl full)))

  new_begins : Begins new limit counted_header
  new_begins =
      let old = staged bytes (next_record_at p) image in
      let is : new ≡ with_count_field h.schema.version (n + 1) old = field_written s.version (n + 1) old ∙ ap (λ (v : Version). with_count_field v (n + 1) old) version in
      subst (λ (l : List ℕ). Begins l limit counted_header) (sym is)
      (laws.begun old limit h (n + 1) (staged_begins bytes (next_record_at p) image limit h (before bytes limit s p o takes rules) o.passes.begins) less)

  extents : extents_of_file p ≡ extents_of h.schema (places_of h.places)
  extents = extents_there h.schema (places_of h.places) h.length (length bytes) p o.placed_is

  new_placed : IsPlaced (with_count h.schema (n + 1)) (places_of h.places) h.length (length new)
  new_placed =
      let least = subst (λ (es : List Extent). LeastBegin (records_of es) (Some (records_at p))) extents (records_begin p takes.some) in
      let size : (n + 1) * record_size_of_file p ≡ (n + 1) * record_size_of h.schema = ap (λ (k : ℕ). (n + 1) * k) o.placed_is.size_is in
      laws.one_more h.schema (places_of h.places) h.length (length bytes) (length new) n (Some (records_at p)) (known bytes limit s p o takes rules) o.passes.placed
      (omega (arith, long_with_record, o.placed_is.length_is)) least (omega (arith, long_with_record, size))

  new_passes : PassesWith new limit counted_header
  new_passes = record { begins = new_begins; placed = new_placed }

  pub new_opens : (t : Schema) (q : Placed) → HasRecord s p t q → Opens new limit t q
  new_opens t q has = record {
    header = counted_header;
    passes = new_passes;
    schema_is = has.schema ∙ ap (λ (u : Schema). with_count u (n + 1)) o.schema_is;
    placed_is = subst (λ (m : ℕ). Holds (with_count h.schema (n + 1)) (places_of h.places) h.length m q) (sym long_with_record)
        (laws.placed h.schema (places_of h.places) h.length (length bytes) (length_with_record p) n p q (known bytes limit s p o takes rules) o.placed_is has.placed);
  }

  pub new_opened : (t : Schema) (q : Placed) → Opens new limit t q → HasRecord s p t q
  new_opened t q r =
      let here = moved one new limit counted_header new_begins t q r in
      let u = h.schema in
      record {
        schema = here.0 ∙ ap (λ (v : Schema). with_count v (n + 1)) (sym o.schema_is);
        placed = record {
          header_is = here.1.header_is ∙ sym o.placed_is.header_is;
          length_is = here.1.length_is ∙ long_with_record;
          size_is = here.1.size_is ∙ sym o.placed_is.size_is;
          records_are = here.1.records_are;
          vars_are = here.1.vars_are
              ∙ sym (with_more u.dims (record_count u (places_of h.places) (length bytes)) (n + 1) 0 u.vars (places_of h.places))
              ∙ ap (map (with_records (n + 1))) (sym o.placed_is.vars_are);
        };
      }

  new_grows : (t : Schema) (q : Placed) → Opens new limit t q → CanGrow t q
  new_grows t q r =
      let here = moved one new limit counted_header new_begins t q r in
      let has = new_opened t q r in
      let same : extents_of_file q ≡ extents_of_file p = extents_there (with_count h.schema (n + 1)) (places_of h.places) h.length (length new) q here.1 ∙ sym extents in
      let size : records_of_file q * record_size_of_file q ≡ (n + 1) * record_size_of_file p = ap₂ (λ (a b : ℕ). a * b) has.placed.records_are has.placed.size_is in
      can_grow s t p q takes same (omega (arith, records_at_same p q same, size, has.placed.length_is)) (subst (λ (u : Schema). IsKnown u.count) (sym has.schema) tt)

  pub new_pass : PassesOn new limit counted_header
  new_pass = record { passes = new_passes; again = new_grows }
