-- The bytes of an open file pass where nothing below the next record changed.
use Rattle.std.proofs.Common.{◌≡◌, ℕ, ◌+◌, ◌*◌, ◌≤◌, min, List, length, take, map, sym, ap, ap₂, subst, ◌∙◌, arith}
use Rattle.std.proofs.lemmas.List.{take-take}
use Rattle.ncc_values.specs.Version.{count_width_of}
use Rattle.ncc_schema.specs.declared.schema.Count.TheVariants.{Known}
use Rattle.ncc_schema.specs.declared.schema.Header.{Header}
use Rattle.ncc_schema.specs.declared.schema.Schema.{Schema}
use Rattle.ncc_schema.specs.Schema.{Place, places_of}
use Rattle.ncc_header.specs.Answers.{Begins}
use Rattle.ncc_layout.specs.declared.placed_file.Placed.{Placed}
use Rattle.ncc_layout.specs.declared.placed_var.PlacedVar.{PlacedVar}
use Rattle.ncc_layout.specs.Extents.{number_of_records, extents_of, record_count}
use Rattle.ncc_layout.specs.Placed.{KeepsRules, extents_of_file, record_size_of_file, records_of_file}
use Rattle.ncc_layout.specs.Plans.{IsKnown}
use Rattle.ncc_layout.specs.Rules.{IsPlaced}
use Rattle.ncc_layout.specs.Sizes.{record_size_of}
use Rattle.ncc_check.specs.AppendLaws.{CanGrow, PassesOn, ShowsSame}
use Rattle.ncc_check.specs.Appending.{Keeps, TakesRecord, next_record_at}
use Rattle.ncc_check.specs.Checks.{Opens}
use Rattle.ncc_check.proofs.Appendable.{behind_header, header_long}
use Rattle.ncc_check.proofs.Appended.{begun_long, known_count, same_begin}
use Rattle.ncc_check.proofs.Reopening.{OneHeader, can_grow, moved, records_at_same, shown}

abbrev pub Longer : Type 0
Longer = (s : Schema) (places : List Place) (header file more n : ℕ) → s.count ≡ Known n → IsPlaced s places header file → file ≤ more → IsPlaced s places header more

-- ---- an open file that takes a record

module _ (bytes : List ℕ) (limit : ℕ) (s : Schema) (p : Placed) (o : Opens bytes limit s p) (takes : TakesRecord s p) (rules : KeepsRules p) where
  abbrev h : Header
  h = o.header

  abbrev n : ℕ
  n = records_of_file p

  pub known : h.schema.count ≡ Known n
  known =
      known_count h.schema.count (record_size_of h.schema) (length bytes) (extents_of h.schema (places_of h.places)) n
      (subst (λ (u : Schema). IsKnown u.count) o.schema_is takes.counted) o.placed_is.records_are

  pub before : h.length ≤ next_record_at p
  before = omega (arith, o.placed_is.header_is, behind_header p rules takes.some)

  pub within : h.length ≤ length bytes
  within = begun_long bytes limit h o.passes.begins

  -- the count field lies in the header
  pub field_within : 4 + count_width_of s.version ≤ h.length
  field_within =
      let b = o.passes.begins in
      omega (arith, header_long h.schema (places_of h.places) b.front b.is_header, b.long, ap (λ (u : Schema). count_width_of u.version) o.schema_is)

  count_of_any : (more : ℕ) → record_count h.schema (places_of h.places) more ≡ n
  count_of_any more = ap (number_of_records (record_size_of h.schema) more (extents_of h.schema (places_of h.places))) known

  -- ---- old bytes

  module _ (one : OneHeader) (longer : Longer) (new : List ℕ) (keeps : Keeps bytes (next_record_at p) new) where
    kept_begins : Begins new limit h
    kept_begins =
        let k = min (next_record_at p) (length bytes) in
        let inside : h.length ≤ k = omega (arith, before, within) in
        same_begin bytes new limit h o.passes.begins (sym (take-take h.length k new inside) ∙ ap (take h.length) keeps.front ∙ take-take h.length k bytes inside)

    pub kept_opens : (t : Schema) (q : Placed) → Opens new limit t q → (s ≡ t) × ShowsSame p (length new) q
    kept_opens t q r =
        let here = moved one new limit h kept_begins t q r in (
          o.schema_is ∙ sym here.0,
          shown h.schema (places_of h.places) h.length (length bytes) (length new) p q o.placed_is here.1 (count_of_any (length new) ∙ sym (count_of_any (length bytes))),
        )

    kept_grows : (t : Schema) (q : Placed) → Opens new limit t q → CanGrow t q
    kept_grows t q r =
        let same = kept_opens t q r in
        let extents : extents_of_file q ≡ extents_of_file p = ap (map (λ (x : PlacedVar). x.extent)) same.1.vars_are in
        let size : records_of_file q * record_size_of_file q ≡ records_of_file p * record_size_of_file p = ap₂ (λ (a b : ℕ). a * b) same.1.records_are same.1.size_is in
        can_grow s t p q takes extents
        (omega (arith, records_at_same p q extents, size, takes.packed.reaches, same.1.length_is, keeps.no_shorter, o.placed_is.length_is))
        (subst (λ (u : Schema). IsKnown u.count) same.0 takes.counted)

    pub kept_pass : PassesOn new limit h
    kept_pass = record {
      passes = record {
        begins = kept_begins;
        placed = longer h.schema (places_of h.places) h.length (length bytes) (length new) n known o.passes.placed keeps.no_shorter;
      };
      again = kept_grows;
    }
