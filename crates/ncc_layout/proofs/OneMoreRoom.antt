-- A placed file in a longer one, with one record more, and how far its elements reach.
use Rattle.std.proofs.Common.{◌≡◌, ℕ, zero, suc, ◌+◌, ◌*◌, ◌≤◌, Bool, true, false, List, [], ◌∷◌, map, Option, Some, None, refl, sym, subst, arith, inl, inr}
use Rattle.std.specs.Prelude.{IfSome}
use Rattle.std.specs.List.{AllByRecursion}
use Rattle.ncc_schema.specs.declared.schema.Count.TheVariants.{Known}
use Rattle.ncc_schema.specs.declared.schema.Schema.{Schema}
use Rattle.ncc_schema.specs.Schema.{Place, with_count}
use Rattle.ncc_layout.specs.declared.extent.Extent.{Extent}
use Rattle.ncc_layout.specs.Sizes.{record_size_of}
use Rattle.ncc_layout.specs.Extents.{end, extents_of, records_of, number_of_records, LeastBegin}
use Rattle.ncc_layout.specs.Rules.ByKind.{ByKind, EndsBy}
use Rattle.ncc_layout.specs.Rules.FixedAfterRecords.{NotFixedAfterRecords}
use Rattle.ncc_layout.specs.Rules.Truncated.{LastNotTruncated, NotTruncated}
use Rattle.ncc_layout.specs.Rules.{Rules, IsPlaced}
use Rattle.ncc_layout.proofs.Membership.{In, in_from_contains, contains_from_in, in_filter, in_mapped, all_in}
use Rattle.ncc_layout.proofs.RecordWindows.{in_record}

-- what follows from one fact of each, and from being there
all_from : {A : Type 0} (P : A → Type 0) (xs : List A) → ((a : A) → In xs a → P a) → AllByRecursion P xs
all_from P [] each = tt
all_from P (x ∷ xs) each = (each x (inl refl), all_from P xs (λ a there. each a (inr there)))

-- ---- a longer file

last_longer : (file more size n : ℕ) (e : Extent) → file ≤ more → LastNotTruncated file size n e → LastNotTruncated more size n e
last_longer file more size zero e longer within = tt
last_longer file more size (suc n) e longer within = omega (arith, longer, within)

longer_by_kind : (b : Bool) (file more size n : ℕ) (e : Extent) → file ≤ more → ByKind b (LastNotTruncated file size n e) (end e ≤ file) → ByKind b (LastNotTruncated more size n e) (end e ≤ more)
longer_by_kind true file more size n e longer within = last_longer file more size n e longer within
longer_by_kind false file more size n e longer within = omega (arith, longer, within)

with_within : (header file more size n m : ℕ) (es : List Extent) → Rules header file size n es → AllByRecursion (NotTruncated more size m) es → Rules header more size m es
with_within header file more size n m es rules within = record {
  not_in_header = rules.not_in_header;
  no_fixed_overlap = rules.no_fixed_overlap;
  no_record_overlap = rules.no_record_overlap;
  in_record_window = rules.in_record_window;
  not_fixed_after_records = rules.not_fixed_after_records;
  not_truncated = within;
}

longer : (header file more size n : ℕ) (es : List Extent) → file ≤ more → Rules header file size n es → Rules header more size n es
longer header file more size n es further rules =
    with_within header file more size n n es rules
    (all_from (NotTruncated more size n) es (λ e there. longer_by_kind e.is_record file more size n e further (all_in (NotTruncated file size n) es e rules.not_truncated there)))

-- ---- how far extents reach

module _ (header file size n : ℕ) (es : List Extent) (rules : Rules header file size n es) (begin : ℕ) (least : LeastBegin (records_of es) (Some begin)) where
  pub record_ends : (e : Extent) → In (records_of es) e → end e ≤ begin + size
  record_ends e there =
      let whole = in_record size es begin 0 e rules.in_record_window least (contains_from_in (records_of es) e there) in
      omega (arith, whole.ends)

  -- a fixed variable ends before the records begin
  pub fixed_ends : (e : Extent) → In es e → e.is_record ≡ false → end e ≤ begin
  fixed_ends e there is =
      let rule : EndsBy 0 (records_of es) e = subst (λ (b : Bool). ByKind b (Unit {0}) (EndsBy 0 (records_of es) e)) is (all_in (NotFixedAfterRecords es) es e rules.not_fixed_after_records there) in
      let first = in_mapped (λ (d : Extent). d.begin) (records_of es) begin (in_from_contains (map (λ (d : Extent). d.begin) (records_of es)) begin least.1) in
      omega (arith, first.2, all_in (λ (r : Extent). end e ≤ r.begin + 0) (records_of es) first.0 rule first.1)

  one_more_by_kind : (more : ℕ) (e : Extent) → begin + (n + 1) * size ≤ more → In es e → (b : Bool) → e.is_record ≡ b → ByKind b (LastNotTruncated more size (n + 1) e) (end e ≤ more)
  one_more_by_kind more e room there true is =
      let next : n + 1 ≡ suc n = omega arith in
      let ends : end e ≤ begin + size = record_ends e (in_filter (λ (d : Extent). d.is_record) es e is there) in
      let sum : (n + 1) * size ≡ n * size + size = omega arith in
      subst (λ (m : ℕ). LastNotTruncated more size m e) (sym next) (omega (arith, ends, room, sum))
  one_more_by_kind more e room there false is = omega (arith, fixed_ends e there is, room)

  pub with_one_more : (more : ℕ) → begin + (n + 1) * size ≤ more → Rules header more size (n + 1) es
  with_one_more more room =
      with_within header file more size n (n + 1) es rules
      (all_from (NotTruncated more size (n + 1)) es (λ e there. one_more_by_kind more e room there e.is_record refl))

-- without record variables the number of records says nothing
none_by_kind : (file more size n m : ℕ) (e : Extent) (b : Bool) → b ≡ false → file ≤ more → ByKind b (LastNotTruncated file size n e) (end e ≤ file) → ByKind b (LastNotTruncated more size m e) (end e ≤ more)
none_by_kind file more size n m e true is further within = absurd cc
none_by_kind file more size n m e false is further within = omega (arith, further, within)

not_record : (es : List Extent) (e : Extent) → records_of es ≡ [] → In es e → (b : Bool) → e.is_record ≡ b → b ≡ false
not_record es e none there true is = absurd (subst (λ (l : List Extent). In l e) none (in_filter (λ (d : Extent). d.is_record) es e is there))
not_record es e none there false is = refl

without_records : (header file more size n m : ℕ) (es : List Extent) → records_of es ≡ [] → file ≤ more → Rules header file size n es → Rules header more size m es
without_records header file more size n m es none further rules =
    with_within header file more size n m es rules
    (all_from (NotTruncated more size m) es (λ e there.
    none_by_kind file more size n m e e.is_record (not_record es e none there e.is_record refl) further (all_in (NotTruncated file size n) es e rules.not_truncated there)))

-- ---- a placed file

module _ (s : Schema) (places : List Place) (header file more n : ℕ) (known : s.count ≡ Known n) (placed : IsPlaced s places header file) (further : file ≤ more) where
  abbrev es : List Extent
  es = extents_of s places

  rules : Rules header file (record_size_of s) n es
  rules = subst (λ c. Rules header file (record_size_of s) (number_of_records (record_size_of s) file es c) es) known placed.rules

  pub in_longer : IsPlaced s places header more
  in_longer = record {
    none_too_large = placed.none_too_large;
    rules = subst (λ c. Rules header more (record_size_of s) (number_of_records (record_size_of s) more es c) es) (sym known) (longer header file more (record_size_of s) n es further rules);
  }

  pub with_record : (first : Option ℕ) → LeastBegin (records_of es) first → IfSome first (λ begin. begin + (n + 1) * record_size_of s ≤ more) → IsPlaced (with_count s (n + 1)) places header more
  with_record None least room = record {
    none_too_large = placed.none_too_large;
    rules = without_records header file more (record_size_of s) n (n + 1) es least further rules;
  }
  with_record (Some begin) least room = record {
    none_too_large = placed.none_too_large;
    rules = with_one_more header file (record_size_of s) n es rules begin least more room;
  }
