-- What the tests of extents say of the rules.
use Rattle.std.proofs.Common.{◌≡◌, ℕ, zero, suc, ◌+◌, ◌≤◌, min, Bool, true, false, not, ◌&&◌, List, [], ◌∷◌, Some, arith, ltb}
use Rattle.std.specs.List.{AllByRecursion}
use Rattle.std.proofs.lemmas.Bool.{ltb-true, ltb-false}
use Rattle.ncc_layout.specs.declared.extent.Extent.{Extent}
use Rattle.ncc_layout.specs.Extents.{end, records_of}
use Rattle.ncc_layout.specs.Rules.ByKind.{ByKind, EndsBy}
use Rattle.ncc_layout.specs.Rules.InHeader.{NotInHeader}
use Rattle.ncc_layout.specs.Rules.RecordWindow.{InRecordWindow}
use Rattle.ncc_layout.specs.Rules.FixedAfterRecords.{NotFixedAfterRecords}
use Rattle.ncc_layout.specs.Rules.Truncated.{LastNotTruncated, NotTruncated}
use Rattle.ncc_layout.specs.Bounds.{least_from, first_begin}
use Rattle.ncc_layout.specs.Rules.InHeader.{is_in_header}
use Rattle.ncc_layout.specs.Rules.RecordWindow.{is_past_record_window}
use Rattle.ncc_layout.specs.Rules.FixedAfterRecords.{is_fixed_after_records}
use Rattle.ncc_layout.specs.Rules.Truncated.{last_record, is_truncated}
use Rattle.ncc_layout.proofs.Searching.{Tells}

-- ---- lists

pub all_from : {A : Type 0} (P Q : A → Type 0) → ((a : A) → P a → Q a) → (xs : List A) → AllByRecursion P xs → AllByRecursion Q xs
all_from P Q step [] all = tt
all_from P Q step (x ∷ xs) all = (step x all.0, all_from P Q step xs all.1)

-- ---- the first begin

pub least_below : (m : ℕ) (rs : List Extent) → least_from m rs ≤ m
least_below m [] = omega arith
least_below m (r ∷ rs) = omega (arith, least_below (min m r.begin) rs)

pub least_all : (m : ℕ) (rs : List Extent) → AllByRecursion (λ r. least_from m rs ≤ r.begin) rs
least_all m [] = tt
least_all m (r ∷ rs) = (omega (arith, least_below (min m r.begin) rs), least_all (min m r.begin) rs)

least_met : (e : Extent) (further m : ℕ) (rs : List Extent) → end e ≤ m + further → EndsBy further rs e → end e ≤ least_from m rs + further
least_met e further m [] h all = h
least_met e further m (r ∷ rs) h all = least_met e further (min m r.begin) rs (omega (arith, h, all.0)) all.1

pub ends_by : (further b : ℕ) (rs : List Extent) (e : Extent) → Some b ≡ first_begin rs → end e ≤ b + further → EndsBy further rs e
ends_by further b [] e is h = tt
ends_by further b (r ∷ rs) e is h =
    let same : b ≡ least_from r.begin rs = cc in (
      omega (arith, h, same, least_below r.begin rs),
      all_from (λ (x : Extent). least_from r.begin rs ≤ x.begin) (λ (x : Extent). end e ≤ x.begin + further) (λ x le. omega (arith, h, same, le)) rs (least_all r.begin rs),
    )

pub ends_before : (further b : ℕ) (rs : List Extent) (e : Extent) → Some b ≡ first_begin rs → EndsBy further rs e → end e ≤ b + further
ends_before further b [] e is all = absurd cc
ends_before further b (r ∷ rs) e is all =
    let same : b ≡ least_from r.begin rs = cc in
    omega (arith, same, least_met e further r.begin rs all.0 all.1)

-- ---- the rules

pub tells_in_header : (header : ℕ) → Tells (NotInHeader header) (is_in_header header)
tells_in_header header = record {
  kept = λ e is. ltb-false e.begin header is;
  broken = λ e is h. omega (arith, h, ltb-true e.begin header is);
}

by_kind_kept : (b c : Bool) (P : Type 0) → (c ≡ false → P) → (b && c) ≡ false → ByKind b P (Unit {0})
by_kind_kept true c P h is = h is
by_kind_kept false c P h is = tt

by_kind_broken : (b c : Bool) (P : Type 0) → (c ≡ true → P → ⊥) → (b && c) ≡ true → ByKind b P (Unit {0}) → ⊥
by_kind_broken true c P h is p = h is p
by_kind_broken false c P h is p = absurd cc

fixed_kept : (b c : Bool) (P : Type 0) → (c ≡ false → P) → (not b && c) ≡ false → ByKind b (Unit {0}) P
fixed_kept true c P h is = tt
fixed_kept false c P h is = h is

fixed_broken : (b c : Bool) (P : Type 0) → (c ≡ true → P → ⊥) → (not b && c) ≡ true → ByKind b (Unit {0}) P → ⊥
fixed_broken true c P h is p = absurd cc
fixed_broken false c P h is p = h is p

module _ (es : List Extent) (b : ℕ) (is : Some b ≡ first_begin (records_of es)) where
  pub tells_record_window : (record_size : ℕ) → Tells (InRecordWindow record_size es) (is_past_record_window (b + record_size))
  tells_record_window record_size = record {
    kept = λ e test. by_kind_kept e.is_record (ltb (b + record_size) (end e)) (EndsBy record_size (records_of es) e) (λ no. ends_by record_size b (records_of es) e is (ltb-false _ _ no)) test;
    broken = λ e test. by_kind_broken e.is_record (ltb (b + record_size) (end e)) (EndsBy record_size (records_of es) e)
        (λ yes all. omega (arith, ltb-true (b + record_size) (end e) yes, ends_before record_size b (records_of es) e is all)) test;
  }

  pub tells_fixed_after_records : Tells (NotFixedAfterRecords es) (is_fixed_after_records b)
  tells_fixed_after_records = record {
    kept = λ e test. fixed_kept e.is_record (ltb b (end e)) (EndsBy 0 (records_of es) e) (λ no. ends_by 0 b (records_of es) e is (omega (arith, ltb-false b (end e) no))) test;
    broken = λ e test. fixed_broken e.is_record (ltb b (end e)) (EndsBy 0 (records_of es) e)
        (λ yes all. omega (arith, ltb-true b (end e) yes, ends_before 0 b (records_of es) e is all)) test;
  }

within_kept : (b : Bool) (length record_size records : ℕ) (e : Extent) → is_truncated length (last_record record_size records) (record { begin = e.begin; slab = e.slab; variable = e.variable; is_record = b }) ≡ false
    → ByKind b (LastNotTruncated length record_size records e) (end e ≤ length)
within_kept true length record_size zero e test = tt
within_kept true length record_size (suc n) e test = ltb-false _ _ test
within_kept false length record_size zero e test = omega (arith, ltb-false _ _ test)
within_kept false length record_size (suc n) e test = omega (arith, ltb-false _ _ test)

within_broken : (b : Bool) (length record_size records : ℕ) (e : Extent) → is_truncated length (last_record record_size records) (record { begin = e.begin; slab = e.slab; variable = e.variable; is_record = b }) ≡ true
    → ByKind b (LastNotTruncated length record_size records e) (end e ≤ length) → ⊥
within_broken true length record_size zero e test h = absurd cc
within_broken true length record_size (suc n) e test h = omega (arith, h, ltb-true _ _ test)
within_broken false length record_size zero e test h = omega (arith, h, ltb-true _ _ test)
within_broken false length record_size (suc n) e test h = omega (arith, h, ltb-true _ _ test)

pub tells_truncated : (length record_size records : ℕ) → Tells (NotTruncated length record_size records) (is_truncated length (last_record record_size records))
tells_truncated length record_size records = record {
  kept = λ e test. within_kept e.is_record length record_size records e test;
  broken = λ e test. within_broken e.is_record length record_size records e test;
}
