-- A rule that is told to fail does, and by the numbers that are told.
use Rattle.std.proofs.Common.{◌≡◌, ℕ, zero, suc, ◌+◌, ◌*◌, ◌<◌, ◌≤◌, min, Bool, true, false, not, ◌&&◌, ◌||◌, ◌==◌, ltb, List, [], ◌∷◌, length, get_or, Option, Some, None, refl, sym, ap, subst, ◌∙◌, arith, ◌⊎◌, inl, inr, if◌then◌else◌}
use Rattle.std.specs.Prelude.{Contains}
use Rattle.std.specs.List.{AllByRecursion}
use Rattle.std.proofs.lemmas.Bool.{eqb-true, ltb-true}
use Rattle.std.proofs.lemmas.List.{get_or_default}
use Rattle.ncc_values.specs.declared.version.Version.{Version}
use Rattle.ncc_values.specs.declared.xtype.XType.TheVariants.{Byte}
use Rattle.ncc_schema.specs.declared.schema.Count.{Count}
use Rattle.ncc_schema.specs.declared.schema.Count.TheVariants.{Known, Streaming}
use Rattle.ncc_schema.specs.declared.schema.Dim.{Dim}
use Rattle.ncc_schema.specs.declared.schema.Header.{Header}
use Rattle.ncc_schema.specs.declared.schema.Var.{Var}
use Rattle.ncc_schema.specs.Schema.{Legal, LegalDims, LegalVar, places_of}
use Rattle.ncc_layout.specs.declared.extent.Extent.{Extent}
use Rattle.ncc_layout.specs.declared.fault.LayoutFaultKind.{LayoutFaultKind}
use Rattle.ncc_layout.specs.declared.fault.LayoutFaultKind.TheVariants as kinds
use Rattle.ncc_layout.specs.Extents.{number_of_records, end, least_begin, records_of}
use Rattle.ncc_layout.specs.Rules.Overlap.{Before}
use Rattle.ncc_layout.specs.Rules.ByKind.{ByKind, EndsBy}
use Rattle.ncc_layout.specs.Rules.Truncated.{LastNotTruncated}
use Rattle.ncc_layout.specs.Sizes.{record_size_of}
use Rattle.ncc_layout.proofs.Positive.{slab_positive}
use Rattle.ncc_check.specs.Notes.{extents_in}
use Rattle.ncc_parts.specs.declared.broken.Broken.{Broken}
use Rattle.ncc_parts.specs.declared.broken.Broken.TheVariants.{InHeader, Overlap, RecordWindow, FixedAfterRecords, Truncated}
use Rattle.ncc_parts.proofs.ExtentsAt.{extents-at, short}
use Rattle.ncc_parts.specs.Breaking.{Breaks, Keeps, broken_by, broken_if, extent_at, first_overlap, in_last_record, kind_of, last_end, no_extent, overlaps, truncated_by, fixed_after_records_by, record_window_by}

-- ---- what the tests tell

record Both (b c : Bool) : Type 0 where
  left : b ≡ true
  right : c ≡ true

both : (b c : Bool) → (b && c) ≡ true → Both b c
both true c e = record { left = refl; right = e }
both false c e = absurd cc

either : (b c : Bool) → (b || c) ≡ true → (b ≡ true) ⊎ (c ≡ true)
either true c e = inl refl
either false c e = inr e

-- the numbers are these, and the test is true
record IsIf (test : Bool) (x b : Broken) : Type 0 where
  holds : test ≡ true
  is : x ≡ b

from_if : (test : Bool) (x b : Broken) → broken_if test x ≡ Some b → IsIf test x b
from_if true x b e = record { holds = refl; is = cc }
from_if false x b e = absurd cc

same_kind : (b c : Bool) → (if b then c else not c) ≡ true → b ≡ c
same_kind true c e = sym e
same_kind false true e = absurd cc
same_kind false false e = refl

before_from : (d e : Extent) → (ltb d.begin e.begin || ((d.begin == e.begin) && ltb d.variable e.variable)) ≡ true → Before d e
before_from d e is = by_test (either (ltb d.begin e.begin) ((d.begin == e.begin) && ltb d.variable e.variable) is)
  where
    by_test : (ltb d.begin e.begin ≡ true) ⊎ (((d.begin == e.begin) && ltb d.variable e.variable) ≡ true) → Before d e
    by_test (inl less) = inl (ltb-true d.begin e.begin less)
    by_test (inr ties) =
        let two = both (d.begin == e.begin) (ltb d.variable e.variable) ties in
        inr (eqb-true d.begin e.begin two.left, ltb-true d.variable e.variable two.right)

record Overlapping (d e : Extent) : Type 0 where
  ordered : Before d e
  kind : d.is_record ≡ e.is_record
  shared : e.begin < end d

overlapping : (d e : Extent) → overlaps d e ≡ true → Overlapping d e
overlapping d e is =
    let one = both (ltb d.begin e.begin || ((d.begin == e.begin) && ltb d.variable e.variable)) ((if d.is_record then e.is_record else not e.is_record) && ltb e.begin (end d)) is in
    let two = both (if d.is_record then e.is_record else not e.is_record) (ltb e.begin (end d)) one.right in
    record {
      ordered = before_from d e one.left;
      kind = same_kind d.is_record e.is_record two.left;
      shared = ltb-true e.begin (end d) two.right;
    }

-- ---- the rules

-- what is told of a variable: the numbers are right, and it breaks the rule
pub record Told (h : Header) (file : ℕ) (kind : LayoutFaultKind) (n : ℕ) (b : Broken) : Type 0 where
  pub kind_is : kind_of b ≡ kind
  pub breaks : Breaks h file n b
  pub fails : Keeps h file kind n → ⊥

-- the least begin is a bound for what ends by each
within_least : (further : ℕ) (rs : List Extent) (e : Extent) (b : ℕ) → least_begin rs ≡ Some b → EndsBy further rs e → end e ≤ b + further
within_least further [] e b is all = absurd cc
within_least further (r ∷ rs) e b is all = by_rest (least_begin rs) refl (within_least further rs e)
  where
    by_rest : (found : Option ℕ) → found ≡ least_begin rs → ((m : ℕ) → least_begin rs ≡ Some m → EndsBy further rs e → end e ≤ m + further) → end e ≤ b + further
    by_rest None none rest =
        let same : b ≡ r.begin = cc in
        omega (arith, all.0, same)
    by_rest (Some m) some rest =
        let same : b ≡ min m r.begin = cc in
        omega (arith, all.0, same, rest m (sym some) all.1)

no_window : (t : Bool) (P : Type 0) → t ≡ true → (P → ⊥) → ByKind t P (Unit {0}) → ⊥
no_window true P e fails k = fails k
no_window false P e fails k = absurd cc

no_fixed : (t : Bool) (P : Type 0) → t ≡ false → (P → ⊥) → ByKind t (Unit {0}) P → ⊥
no_fixed true P e fails k = absurd cc
no_fixed false P e fails k = fails k

is_false : (t : Bool) → not t ≡ true → t ≡ false
is_false true e = absurd cc
is_false false e = refl

module _ (h : Header) (file n : ℕ) where
  header_told : (b : Broken) → IsIf (ltb (extent_at h n).begin h.length) (InHeader (extent_at h n).begin h.length) b → Told h file kinds.InHeader n b
  header_told b i =
      let less = ltb-true (extent_at h n).begin h.length i.holds in
      record {
        kind_is = ap kind_of (sym i.is);
        breaks = subst (Breaks h file n) i.is (refl, refl, less);
        fails = λ keeps. omega (arith, less, keeps);
      }

  window_told : (b : Broken) (least : Option ℕ) → least_begin (records_of (extents_in h)) ≡ least → record_window_by (record_size_of h.schema) (extent_at h n) least ≡ Some b → Told h file kinds.RecordWindow n b
  window_told b None is e = absurd cc
  window_told b (Some begin) is e =
      let x = extent_at h n in
      let size = record_size_of h.schema in
      let window = begin + size in
      let i = from_if (x.is_record && ltb window (end x)) (RecordWindow (end x) window) b e in
      let two = both x.is_record (ltb window (end x)) i.holds in
      let less = ltb-true window (end x) two.right in
      record {
        kind_is = ap kind_of (sym i.is);
        breaks = subst (Breaks h file n) i.is (two.left, refl, (begin, is, refl), less);
        fails = no_window x.is_record (EndsBy size (records_of (extents_in h)) x) two.left (λ all. omega (arith, less, within_least size (records_of (extents_in h)) x begin is all));
      }

  records_told : (b : Broken) (least : Option ℕ) → least_begin (records_of (extents_in h)) ≡ least → fixed_after_records_by (extent_at h n) least ≡ Some b → Told h file kinds.FixedAfterRecords n b
  records_told b None is e = absurd cc
  records_told b (Some begin) is e =
      let x = extent_at h n in
      let i = from_if (not x.is_record && ltb begin (end x)) (FixedAfterRecords (end x) begin) b e in
      let two = both (not x.is_record) (ltb begin (end x)) i.holds in
      let less = ltb-true begin (end x) two.right in
      let kind = is_false x.is_record two.left in
      record {
        kind_is = ap kind_of (sym i.is);
        breaks = subst (Breaks h file n) i.is (kind, refl, is, less);
        fails = no_fixed x.is_record (EndsBy 0 (records_of (extents_in h)) x) kind (λ all. omega (arith, less, within_least 0 (records_of (extents_in h)) x begin is all));
      }

  -- the last record is in no file that ends before it
  past_told : (size : ℕ) (count : Count) (es : List Extent) (e : Extent) (t : Bool) (past : ℕ) → (if t then in_last_record size count (end e) else Some (end e)) ≡ Some past → file < past
      → ByKind t (LastNotTruncated file size (number_of_records size file es count) e) (end e ≤ file) → ⊥
  past_told size count es e false past is less keeps = let same : end e ≡ past = cc in omega (arith, same, less, keeps)
  past_told size (Known zero) es e true past is less keeps = absurd cc
  past_told size (Known (suc k)) es e true past is less keeps = let same : end e + k * size ≡ past = cc in omega (arith, same, less, keeps)
  past_told size Streaming es e true past is less keeps = absurd cc

  file_told : (b : Broken) (last : Option ℕ) → last_end (record_size_of h.schema) h.schema.count (extent_at h n) ≡ last → truncated_by file last ≡ Some b → Told h file kinds.Truncated n b
  file_told b None is e = absurd cc
  file_told b (Some past) is e =
      let i = from_if (ltb file past) (Truncated past file) b e in
      let less = ltb-true file past i.holds in
      record {
        kind_is = ap kind_of (sym i.is);
        breaks = subst (Breaks h file n) i.is (is, refl, less);
        fails = past_told (record_size_of h.schema) h.schema.count (extents_in h) (extent_at h n) (extent_at h n).is_record past is less;
      }

  -- a search that goes on from this number; the later variable has a byte
  overlap_told : 0 < (extent_at h n).slab → (b : Broken) (k : ℕ) (es : List Extent) → ((j : ℕ) → j < length es → (get_or es j no_extent ≡ extent_at h (k + j)) × (k + j < length (extents_in h)))
      → first_overlap (extent_at h n) k es ≡ Some b → Told h file kinds.Overlap n b
  overlap_told byte b k [] there e = absurd cc
  overlap_told byte b k (d ∷ es) there e =
      by_test (overlaps d (extent_at h n)) refl
      (overlap_told byte b (suc k) es (λ j lt. let at = there (suc j) (omega (arith, lt)) in (at.0 ∙ ap (extent_at h) (omega arith), omega (arith, at.1))))
    where
      here : (d ≡ extent_at h k) × (k < length (extents_in h))
      here = let at = there 0 (omega arith) in (at.0 ∙ ap (extent_at h) (omega arith), omega (arith, at.1))

      inside : Contains (extents_in h) d
      inside = (k, here.1, get_or_default (extents_in h) k d no_extent here.1 ∙ sym here.0)

      first_byte : (x y : Extent) → Before x y → x.begin ≤ y.begin
      first_byte x y (inl less) = omega (arith, less)
      first_byte x y (inr ties) = omega (arith, ties.0)

      by_test : (t : Bool) → t ≡ overlaps d (extent_at h n) → (first_overlap (extent_at h n) (suc k) es ≡ Some b → Told h file kinds.Overlap n b) → Told h file kinds.Overlap n b
      by_test true is rest =
          let x = extent_at h n in
          let o = overlapping d x (sym is) in
          let found : Some (Overlap x.begin k (end d)) ≡ Some b = ap (λ t. if t then Some (Overlap x.begin k (end d)) else first_overlap x (suc k) es) is ∙ e in
          let same : Overlap x.begin k (end d) ≡ b = cc in
          let before = subst (λ y. Before y x) here.0 o.ordered in
          let kind = subst (λ (y : Extent). y.is_record ≡ x.is_record) here.0 o.kind in
          record {
            kind_is = ap kind_of (sym same);
            breaks = subst (Breaks h file n) same (refl, omega (arith, here.1, short h.schema.dims 0 h.schema.vars (places_of h.places)), ap end here.0, kind, before, o.shared);
            fails = λ keeps. keeps d inside o.ordered o.kind x.begin (first_byte d x o.ordered) o.shared (omega arith) (omega (arith, byte));
          }
      by_test false is rest = rest (ap (λ t. if t then Some (Overlap (extent_at h n).begin k (end d)) else first_overlap (extent_at h n) (suc k) es) is ∙ e)

legal_dims : (v : Version) (dims : List Dim) (vars : List Var) (n : ℕ) (y : Var) → AllByRecursion (LegalVar v dims) vars → n < length vars → LegalDims dims (get_or vars n y).dims
legal_dims v dims [] n y all lt = absurd (omega (arith, lt))
legal_dims v dims (x ∷ vars) zero y all lt = all.0.dimids
legal_dims v dims (x ∷ vars) (suc n) y all lt = legal_dims v dims vars n y all.1 (omega (arith, lt))

-- a variable has bytes
pub has_bytes : (h : Header) (n : ℕ) → Legal h.schema (places_of h.places) → n < length h.schema.vars → 0 < (extent_at h n).slab
has_bytes h n legal lt =
    let s = h.schema in
    let y : Var = record { name = []; dims = []; attrs = []; xtype = Byte } in
    let here = extents-at s.dims 0 n s.vars (places_of h.places) y (record { vsize = 0; begin = 0 }) no_extent lt (omega (arith, lt, legal.number)) in
    subst (λ k. 0 < k) (sym (ap (λ (e : Extent). e.slab) here)) (slab_positive s.dims (get_or s.vars n y) (legal_dims s.version s.dims s.vars n y legal.sound.vars lt))

pub rule_is_false : (h : Header) (file n : ℕ) (kind : LayoutFaultKind) (b : Broken) → 0 < (extent_at h n).slab → broken_by h file kind n ≡ Some b → Told h file kind n b
rule_is_false h file n kinds.TooLarge b byte e = absurd cc
rule_is_false h file n kinds.InHeader b byte e = header_told h file n b (from_if (ltb (extent_at h n).begin h.length) (InHeader (extent_at h n).begin h.length) b e)
rule_is_false h file n kinds.Overlap b byte e =
    overlap_told h file n byte b 0 (extents_in h) (λ j lt. (ap (extent_at h) (omega arith), omega (arith, lt))) e
rule_is_false h file n kinds.RecordWindow b byte e = window_told h file n b (least_begin (records_of (extents_in h))) refl e
rule_is_false h file n kinds.FixedAfterRecords b byte e = records_told h file n b (least_begin (records_of (extents_in h))) refl e
rule_is_false h file n kinds.Truncated b byte e = file_told h file n b (last_end (record_size_of h.schema) h.schema.count (extent_at h n)) refl e
