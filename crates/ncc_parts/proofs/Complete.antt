-- A fault of the layout has numbers.
use Rattle.std.proofs.Common.{◌≡◌, ℕ, zero, suc, ◌+◌, ◌-◌, ◌*◌, ◌/◌, ◌<◌, ◌≤◌, Bool, true, false, not, ◌&&◌, ◌||◌, ◌==◌, ltb, List, [], ◌∷◌, length, get_or, Option, Some, None, refl, sym, ap, subst, ◌∙◌, arith, ◌⊎◌, inl, inr, if◌then◌else◌, filter}
use Rattle.std.specs.Prelude.{IsSome, Contains}
use Rattle.std.specs.List.{AllByRecursion}
use Rattle.std.proofs.Math.Nat.{div-mul-le_self}
use Rattle.std.proofs.lemmas.Bool.{cases_lt, eq-eqb, le-ltb, lt-ltb}
use Rattle.ncc_schema.specs.declared.schema.Count.{Count}
use Rattle.ncc_schema.specs.declared.schema.Count.TheVariants.{Known, Streaming}
use Rattle.ncc_schema.specs.declared.schema.Header.{Header}
use Rattle.ncc_schema.specs.declared.schema.Var.{Var}
use Rattle.ncc_schema.specs.Schema.{places_of}
use Rattle.ncc_layout.specs.declared.extent.Extent.{Extent}
use Rattle.ncc_layout.specs.declared.fault.LayoutFaultKind.{LayoutFaultKind}
use Rattle.ncc_layout.specs.declared.fault.LayoutFaultKind.TheVariants as kinds
use Rattle.ncc_layout.specs.Extents.{number_of_records, end, greatest_end, least_begin, record_count, records_of, streamed, LeastBegin}
use Rattle.ncc_layout.specs.Rules.Overlap.{Before, FirstOverlap}
use Rattle.ncc_layout.specs.Faults.{FailsFirst, FirstFault}
use Rattle.ncc_layout.specs.Rules.Overlap.{Apart}
use Rattle.ncc_layout.specs.Rules.FixedAfterRecords.{NotFixedAfterRecords}
use Rattle.ncc_layout.specs.Rules.ByKind.{ByKind, EndsBy}
use Rattle.ncc_layout.specs.Rules.RecordWindow.{InRecordWindow}
use Rattle.ncc_layout.specs.Rules.Truncated.{LastNotTruncated, NotTruncated}
use Rattle.ncc_layout.specs.Rules.InHeader.{NotInHeader}
use Rattle.ncc_layout.specs.Sizes.{record_size_of}
use Rattle.std.proofs.lemmas.List.{get_or_default}
use Rattle.ncc_values.specs.declared.xtype.XType.TheVariants.{Byte}
use Rattle.ncc_parts.proofs.ExtentsAt.{extents-at, long}
use Rattle.ncc_layout.proofs.LeastBegins.{first_begin_is, is_least}
use Rattle.ncc_check.specs.Notes.{extents_in}
use Rattle.ncc_parts.specs.declared.broken.Broken.{Broken}
use Rattle.ncc_parts.specs.declared.broken.Broken.TheVariants.{InHeader, Overlap, RecordWindow, FixedAfterRecords, Truncated}
use Rattle.ncc_parts.specs.Breaking.{broken_by, broken_if, extent_at, first_overlap, in_last_record, no_extent, overlaps, truncated_by, fixed_after_records_by, record_window_by}

-- ---- one rule that fails

record At {A : Type 0} (rule : A → Type 0) (items : List A) (n : ℕ) (d : A) : Type 0 where
  there : n < length items
  fails : rule (get_or items n d) → ⊥

at : {A : Type 0} (rule : A → Type 0) (items : List A) (n : ℕ) (d : A) → FailsFirst rule items n → At rule items n d
at rule [] n d f = absurd f
at rule (a ∷ items) zero d f = record { there = omega arith; fails = f }
at rule (a ∷ items) (suc n) d f = let r = at rule items n d f.1 in record { there = omega (arith, r.there); fails = r.fails }

some_if : (t : Bool) (b : Broken) → t ≡ true → IsSome (broken_if t b)
some_if true b e = refl
some_if false b e = absurd cc

both : (b c : Bool) → b ≡ true → c ≡ true → (b && c) ≡ true
both true c e f = f
both false c e f = absurd cc

-- ---- where the records begin

ends_by : (further b : ℕ) (rs : List Extent) (e : Extent) → AllByRecursion (λ r. b ≤ r.begin) rs → end e ≤ b + further → EndsBy further rs e
ends_by further b [] e all le = tt
ends_by further b (r ∷ rs) e all le = (omega (arith, all.0, le), ends_by further b rs e all.1 le)

least : (rs : List Extent) (found : Option ℕ) → found ≡ least_begin rs → LeastBegin rs found
least rs found is = is_least rs found (is ∙ sym (first_begin_is rs))

window_told : (size : ℕ) (rs : List Extent) (e : Extent) (found : Option ℕ) → found ≡ least_begin rs → e.is_record ≡ true → (EndsBy size rs e → ⊥) → IsSome (record_window_by size e found)
window_told size rs e None is kind fails = absurd (fails (subst (λ xs. EndsBy size xs e) (sym (least rs None is)) tt))
window_told size rs e (Some b) is kind fails = by_order (cases_lt (b + size) (end e))
  where
    by_order : (b + size < end e) ⊎ (end e ≤ b + size) → IsSome (record_window_by size e (Some b))
    by_order (inl less) = some_if (e.is_record && ltb (b + size) (end e)) (RecordWindow (end e) (b + size)) (both e.is_record (ltb (b + size) (end e)) kind (lt-ltb _ _ less))
    by_order (inr le) = absurd (fails (ends_by size b rs e (least rs (Some b) is).0 le))

is_not : (t : Bool) → t ≡ false → not t ≡ true
is_not true e = absurd cc
is_not false e = refl

records_told : (rs : List Extent) (e : Extent) (found : Option ℕ) → found ≡ least_begin rs → e.is_record ≡ false → (EndsBy 0 rs e → ⊥) → IsSome (fixed_after_records_by e found)
records_told rs e None is kind fails = absurd (fails (subst (λ xs. EndsBy 0 xs e) (sym (least rs None is)) tt))
records_told rs e (Some b) is kind fails = by_order (cases_lt b (end e))
  where
    by_order : (b < end e) ⊎ (end e ≤ b) → IsSome (fixed_after_records_by e (Some b))
    by_order (inl less) = some_if (not e.is_record && ltb b (end e)) (FixedAfterRecords (end e) b) (both (not e.is_record) (ltb b (end e)) (is_not e.is_record kind) (lt-ltb _ _ less))
    by_order (inr le) = absurd (fails (ends_by 0 b rs e (least rs (Some b) is).0 (omega (arith, le))))

-- ---- the last record

ends_in : (es : List Extent) (n : ℕ) (d : Extent) → n < length es → (get_or es n d).is_record ≡ true → end (get_or es n d) ≤ greatest_end (records_of es)
ends_in [] n d lt kind = absurd (omega (arith, lt))
ends_in (e ∷ es) zero d lt kind = omega (arith, ap (λ b. greatest_end (if b then e ∷ records_of es else records_of es)) kind)
ends_in (e ∷ es) (suc n) d lt kind = by_kind e.is_record refl (ends_in es n d (omega (arith, lt)) kind)
  where
    by_kind : (b : Bool) → b ≡ e.is_record → end (get_or es n d) ≤ greatest_end (records_of es) → end (get_or es n d) ≤ greatest_end (records_of (e ∷ es))
    by_kind true is le = omega (arith, le, ap (λ b. greatest_end (if b then e ∷ records_of es else records_of es)) is)
    by_kind false is le = omega (arith, le, ap (λ b. greatest_end (if b then e ∷ records_of es else records_of es)) is)

streamed_within : (size file : ℕ) (rs : List Extent) (e : Extent) → end e ≤ greatest_end rs → LastNotTruncated file size (streamed size file rs) e
streamed_within size file [] e le = tt
streamed_within size file (r ∷ rs) e le = by_order (cases_lt file (greatest_end (r ∷ rs)))
  where
    last : ℕ
    last = greatest_end (r ∷ rs)

    more : ℕ
    more = (file - last) / size

    by_order : (file < last) ⊎ (last ≤ file) → LastNotTruncated file size (streamed size file (r ∷ rs)) e
    by_order (inl less) = subst (λ b. LastNotTruncated file size (if b then 0 else 1 + more) e) (sym (lt-ltb file last less)) tt
    by_order (inr fits) =
        let here : LastNotTruncated file size (suc more) e = omega (arith, le, fits, div-mul-le_self (file - last) size) in
        let one : suc more ≡ 1 + more = omega arith in
        subst (λ b. LastNotTruncated file size (if b then 0 else 1 + more) e) (sym (le-ltb file last fits)) (subst (λ n. LastNotTruncated file size n e) one here)

file_told : (size file : ℕ) (count : Count) (es : List Extent) (e : Extent) (b : Bool) → b ≡ e.is_record → (e.is_record ≡ true → end e ≤ greatest_end (records_of es))
    → (ByKind b (LastNotTruncated file size (number_of_records size file es count) e) (end e ≤ file) → ⊥) → IsSome (truncated_by file (if b then in_last_record size count (end e) else Some (end e)))
file_told size file count es e false is inside fails = some_if (ltb file (end e)) (Truncated (end e) file) (lt-ltb _ _ (omega (arith, fails)))
file_told size file (Known zero) es e true is inside fails = absurd (fails tt)
file_told size file (Known (suc n)) es e true is inside fails = some_if (ltb file (end e + n * size)) (Truncated (end e + n * size) file) (lt-ltb _ _ (omega (arith, fails)))
file_told size file Streaming es e true is inside fails = absurd (fails (streamed_within size file (records_of es) e (inside (sym is))))

-- ---- two that share a byte

shares : (d e : Extent) → Before d e → (Apart d e → ⊥) → e.begin < end d
shares d e before shared = by_order (cases_lt e.begin (end d))
  where
    by_order : (e.begin < end d) ⊎ (end d ≤ e.begin) → e.begin < end d
    by_order (inl less) = less
    by_order (inr le) = absurd (shared (λ byte p q r s. omega (arith, q, r, le)))

either_left : (b c : Bool) → b ≡ true → (b || c) ≡ true
either_left true c e = refl
either_left false c e = absurd cc

either_right : (b c : Bool) → c ≡ true → (b || c) ≡ true
either_right true c e = refl
either_right false c e = e

same_kind : (b c : Bool) → b ≡ c → (if b then c else not c) ≡ true
same_kind true c e = sym e
same_kind false c e = is_not c (sym e)

before_told : (d e : Extent) → Before d e → (ltb d.begin e.begin || ((d.begin == e.begin) && ltb d.variable e.variable)) ≡ true
before_told d e (inl less) = either_left (ltb d.begin e.begin) ((d.begin == e.begin) && ltb d.variable e.variable) (lt-ltb _ _ less)
before_told d e (inr ties) =
    either_right (ltb d.begin e.begin) ((d.begin == e.begin) && ltb d.variable e.variable)
    (both (d.begin == e.begin) (ltb d.variable e.variable) (eq-eqb _ _ ties.0) (lt-ltb _ _ ties.1))

overlaps_told : (d e : Extent) → Before d e → d.is_record ≡ e.is_record → e.begin < end d → overlaps d e ≡ true
overlaps_told d e before kind shared =
    both (ltb d.begin e.begin || ((d.begin == e.begin) && ltb d.variable e.variable)) ((if d.is_record then e.is_record else not e.is_record) && ltb e.begin (end d)) (before_told d e before)
    (both (if d.is_record then e.is_record else not e.is_record) (ltb e.begin (end d)) (same_kind d.is_record e.is_record kind) (lt-ltb _ _ shared))

-- a search finds one, where one is there
found : (e : Extent) (k : ℕ) (es : List Extent) (i : ℕ) (d : Extent) → i < length es → overlaps (get_or es i d) e ≡ true → IsSome (first_overlap e k es)
found e k [] i d lt told = absurd (omega (arith, lt))
found e k (x ∷ es) zero d lt told = subst (λ b. IsSome (if b then Some (Overlap e.begin k (end x)) else first_overlap e (suc k) es)) (sym told) refl
found e k (x ∷ es) (suc i) d lt told = by_test (overlaps x e) (found e (suc k) es i d (omega (arith, lt)) told)
  where
    by_test : (b : Bool) → IsSome (first_overlap e (suc k) es) → IsSome (if b then Some (Overlap e.begin k (end x)) else first_overlap e (suc k) es)
    by_test true later = refl
    by_test false later = later

-- ---- a fault

module _ (h : Header) (file : ℕ) where
  in_header_told : (n : ℕ) → FailsFirst (NotInHeader h.length) (extents_in h) n → IsSome (broken_by h file kinds.InHeader n)
  in_header_told n f =
      let r = at (NotInHeader h.length) (extents_in h) n no_extent f in
      some_if (ltb (extent_at h n).begin h.length) (InHeader (extent_at h n).begin h.length) (lt-ltb _ _ (let fails : (h.length ≤ (extent_at h n).begin) → ⊥ = r.fails in omega (arith, fails)))

  record_window_told : (n : ℕ) → FailsFirst (InRecordWindow (record_size_of h.schema) (extents_in h)) (extents_in h) n → IsSome (broken_by h file kinds.RecordWindow n)
  record_window_told n f = by_kind (extent_at h n).is_record refl (at (InRecordWindow (record_size_of h.schema) (extents_in h)) (extents_in h) n no_extent f).fails
    where
      by_kind : (b : Bool) → b ≡ (extent_at h n).is_record → (ByKind b (EndsBy (record_size_of h.schema) (records_of (extents_in h)) (extent_at h n)) (Unit {0}) → ⊥) → IsSome (broken_by h file kinds.RecordWindow n)
      by_kind true is fails = window_told (record_size_of h.schema) (records_of (extents_in h)) (extent_at h n) (least_begin (records_of (extents_in h))) refl (sym is) fails
      by_kind false is fails = absurd (fails tt)

  fixed_after_records_told : (n : ℕ) → FailsFirst (NotFixedAfterRecords (extents_in h)) (extents_in h) n → IsSome (broken_by h file kinds.FixedAfterRecords n)
  fixed_after_records_told n f = by_kind (extent_at h n).is_record refl (at (NotFixedAfterRecords (extents_in h)) (extents_in h) n no_extent f).fails
    where
      by_kind : (b : Bool) → b ≡ (extent_at h n).is_record → (ByKind b (Unit {0}) (EndsBy 0 (records_of (extents_in h)) (extent_at h n)) → ⊥) → IsSome (broken_by h file kinds.FixedAfterRecords n)
      by_kind true is fails = absurd (fails tt)
      by_kind false is fails = records_told (records_of (extents_in h)) (extent_at h n) (least_begin (records_of (extents_in h))) refl (sym is) fails

  truncated_told : (n : ℕ) → FailsFirst (NotTruncated file (record_size_of h.schema) (record_count h.schema (places_of h.places) file)) (extents_in h) n → IsSome (broken_by h file kinds.Truncated n)
  truncated_told n f =
      let r = at (NotTruncated file (record_size_of h.schema) (record_count h.schema (places_of h.places) file)) (extents_in h) n no_extent f in
      file_told (record_size_of h.schema) file h.schema.count (extents_in h) (extent_at h n) (extent_at h n).is_record refl (ends_in (extents_in h) n no_extent r.there) r.fails

-- ---- an overlap

record In (p : Extent → Bool) (es : List Extent) (x : Extent) : Type 0 where
  there : Contains es x
  test : p x ≡ true

behind : (e x : Extent) (es : List Extent) → Contains es x → Contains (e ∷ es) x
behind e x es c = (suc c.0, omega (arith, c.1), c.2)

in_filter : (p : Extent → Bool) (es : List Extent) (x : Extent) → Contains (filter p es) x → In p es x
in_filter p [] x c = absurd (omega (arith, c.1))
in_filter p (e ∷ es) x c = by_test (p e) refl (subst (λ b. Contains (if b then e ∷ filter p es else filter p es) x) refl c) (in_filter p es x)
  where
    at_index : p e ≡ true → (i : ℕ) → i < length (e ∷ filter p es) → get_or (e ∷ filter p es) i x ≡ x → (Contains (filter p es) x → In p es x) → In p (e ∷ es) x
    at_index told zero lt is rest = record { there = (0, omega arith, is); test = subst (λ y. p y ≡ true) is told }
    at_index told (suc i) lt is rest = let r = rest (i, omega (arith, lt), is) in record { there = behind e x es r.there; test = r.test }

    by_test : (b : Bool) → b ≡ p e → Contains (if b then e ∷ filter p es else filter p es) x → (Contains (filter p es) x → In p es x) → In p (e ∷ es) x
    by_test true is k rest = at_index (sym is) k.0 k.1 k.2 rest
    by_test false is k rest = let r = rest k in record { there = behind e x es r.there; test = r.test }

not_both : (t : Bool) → not t ≡ true → t ≡ false
not_both true e = absurd cc
not_both false e = refl

module _ (h : Header) (file n : ℕ) (long : length (extents_in h) ≡ length h.schema.vars) (placed : length (places_of h.places) ≡ length h.schema.vars) where
  -- the extent of a variable is that with its number
  numbered : (x : Extent) → Contains (extents_in h) x → x.variable ≡ n → x ≡ extent_at h n
  numbered x c is =
      let i = c.0 in
      let y : Var = record { name = []; dims = []; attrs = []; xtype = Byte } in
      let here = extents-at h.schema.dims 0 i h.schema.vars (places_of h.places) y (record { vsize = 0; begin = 0 }) x (omega (arith, c.1, long)) (omega (arith, c.1, long, placed)) in
      let number : x.variable ≡ i = ap (λ (e : Extent). e.variable) (sym c.2 ∙ here) ∙ (omega arith) in
      let same : i ≡ n = omega (arith, number, is) in
      sym c.2 ∙ get_or_default (extents_in h) i x no_extent c.1 ∙ ap (λ k. get_or (extents_in h) k no_extent) same

  shared_told : (d e : Extent) → Contains (extents_in h) d → Contains (extents_in h) e → e.variable ≡ n → Before d e → d.is_record ≡ e.is_record → (Apart d e → ⊥) → IsSome (broken_by h file kinds.Overlap n)
  shared_told d e c k is before kind shared =
      let later = numbered e k is in
      let told = overlaps_told d e before kind (shares d e before shared) in
      let here : overlaps (get_or (extents_in h) c.0 d) (extent_at h n) ≡ true = ap (λ x. overlaps x (extent_at h n)) c.2 ∙ ap (overlaps d) (sym later) ∙ told in
      found (extent_at h n) 0 (extents_in h) c.0 d c.1 here

  overlap_told : FirstOverlap (extents_in h) n → IsSome (broken_by h file kinds.Overlap n)
  overlap_told (inl f) =
      let d = in_filter (λ (x : Extent). not x.is_record) (extents_in h) f.earlier f.earlier_there in
      let e = in_filter (λ (x : Extent). not x.is_record) (extents_in h) f.later f.later_there in
      shared_told f.earlier f.later d.there e.there f.number_is f.ordered (not_both f.earlier.is_record d.test ∙ sym (not_both f.later.is_record e.test)) f.shared
  overlap_told (inr f) =
      let d = in_filter (λ (x : Extent). x.is_record) (extents_in h) f.1.earlier f.1.earlier_there in
      let e = in_filter (λ (x : Extent). x.is_record) (extents_in h) f.1.later f.1.later_there in
      shared_told f.1.earlier f.1.later d.there e.there f.1.number_is f.1.ordered (d.test ∙ sym e.test) f.1.shared

pub fault_told : (h : Header) (file : ℕ) (kind : LayoutFaultKind) (n : ℕ) → length (places_of h.places) ≡ length h.schema.vars → FirstFault h.schema (places_of h.places) h.length file kind n → (kind ≡ kinds.TooLarge → ⊥)
    → IsSome (broken_by h file kind n)
fault_told h file kinds.TooLarge n placed f other = absurd (other refl)
fault_told h file kinds.InHeader n placed f other = in_header_told h file n f.1
fault_told h file kinds.Overlap n placed f other = overlap_told h file n (long h.schema.dims 0 h.schema.vars (places_of h.places) placed) placed f.1.1
fault_told h file kinds.RecordWindow n placed f other = record_window_told h file n f.1.3
fault_told h file kinds.FixedAfterRecords n placed f other = fixed_after_records_told h file n f.1.4
fault_told h file kinds.Truncated n placed f other = truncated_told h file n f.1.5
