-- A file that holds a dataset, with some records of fill values more, and one more.
use Rattle.std.proofs.Common.{◌≡◌, ◌⊎◌, inl, inr, ⊎_elim, ℕ, zero, suc, ◌+◌, ◌<◌, List, [], ◌∷◌, length, sym, ap, subst, ◌∙◌, arith}
use Rattle.ncc_values.specs.declared.values.Values.{Values}
use Rattle.ncc_schema.specs.declared.schema.Schema.{Schema}
use Rattle.ncc_schema.specs.Schema.{Place, Sound}
use Rattle.ncc_layout.specs.declared.placed_file.Placed.{Placed}
use Rattle.ncc_layout.specs.Placed.{record_size_of_file}
use Rattle.ncc_layout.specs.Plans.{IsKnown}
use Rattle.ncc_store.specs.Store.{LeavesOnly, Only}
use Rattle.ncc_store.proofs.Moments.{started}
use Rattle.ncc_check.specs.Appending.{HasRecord, HasRecordOrNot, Keeps, TakesRecord, next_record_at, with_record}
use Rattle.ncc_check.specs.Checks.{Opens}
use Rattle.ncc_build.specs.Dataset.{Dataset, IsDataset}
use Rattle.ncc_write.specs.Additions.{Adds, HoldsAll, HoldsOn}
use Rattle.ncc_write.specs.Extends.{Contains, HasRecords, HoldsSome, schema_with, with_fills}
use Rattle.ncc_write.specs.Records.{IsRecord, bytes_of_record, fill_values, followed_by}

-- ---- a moment at which nothing is pending

pub at_start : {S : Type 0} (bytes : S → List ℕ) (images : S → List ℕ → Type 0) (moment : S → ℕ)
    (images_since : S → ℕ → List ℕ → Type 0) (old : S) (P : List ℕ → Type 0)
    → ((c : List ℕ) → images_since old (moment old) c → images old c) → Only (bytes old) (images old) → P (bytes old)
    → LeavesOnly moment images_since old old P
at_start bytes images moment images_since old P now only p =
    started moment images_since old P (λ c left. subst P (sym (only c (now c left))) p)

-- whatever is pending: what a stop might have left before, or P
pub from_what_was : {S : Type 0} (images : S → List ℕ → Type 0) (moment : S → ℕ) (images_since : S → ℕ → List ℕ → Type 0)
    (old : S) (P : List ℕ → Type 0) → ((c : List ℕ) → images_since old (moment old) c → images old c)
    → LeavesOnly moment images_since old old (λ c. images old c ⊎ P c)
from_what_was images moment images_since old P now =
    started moment images_since old (λ c. images old c ⊎ P c) (λ c left. inl (now c left))

-- where nothing was pending that is P alone
pub only_what_follows : {S : Type 0} (bytes : S → List ℕ) (images : S → List ℕ → Type 0) (moment : S → ℕ)
    (images_since : S → ℕ → List ℕ → Type 0) (old new : S) (P : List ℕ → Type 0) → Only (bytes old) (images old)
    → P (bytes old) → LeavesOnly moment images_since old new (λ c. images old c ⊎ P c)
    → LeavesOnly moment images_since old new P
only_what_follows bytes images moment images_since old new P only p run =
    let less : (c : List ℕ) → images old c ⊎ P c → P c = λ c either. ⊎_elim (λ was. subst P (sym (only c was)) p) (λ q. q) either in
    record {
      later = run.later;
      each = λ c left. less c (run.each c left);
      before = λ t c le left. ⊎_elim (λ was. inl was) (λ either. inr (less c either)) (run.before t c le left);
    }

-- ---- the laws of adding

pub record Laws : Type 0 where
  pub grows : (bytes : List ℕ) (limit : ℕ) (places : List Place) (d : Dataset) (s : Schema) (p : Placed)
      (slabs : List Values) → Adds bytes limit places d s p slabs
      → HoldsOn (with_record bytes s p (bytes_of_record s slabs)) limit places (followed_by d (slabs ∷ []))
  pub dataset : (bytes : List ℕ) (limit : ℕ) (places : List Place) (d : Dataset) (s : Schema) (p : Placed)
      (slabs : List Values) → Adds bytes limit places d s p slabs → IsDataset (followed_by d (slabs ∷ []))
  pub stands : (bytes new : List ℕ) (limit : ℕ) (places : List Place) (d : Dataset) (s : Schema) (p : Placed)
      (slabs : List Values) → Adds bytes limit places d s p slabs → Keeps bytes (next_record_at p) new
      → HoldsOn new limit places d
  pub opens : (bytes image : List ℕ) (limit : ℕ) (s : Schema) (p : Placed) (t : Schema) (q : Placed)
      → Opens bytes limit s p → TakesRecord s p → length image ≡ record_size_of_file p → HasRecord s p t q
      → Opens (with_record bytes s p image) limit t q
  pub schema : (bytes : List ℕ) (limit : ℕ) (places : List Place) (d : Dataset) (s : Schema) (p : Placed)
      → HoldsAll bytes limit places d → Opens bytes limit s p → s ≡ d.schema
  pub fills : (s : Schema) → Sound s → IsRecord s (fill_values s)
  pub none : (d : Dataset) → IsKnown d.schema.count → followed_by d [] ≡ d
  pub more : (d : Dataset) (k : ℕ) → IsKnown d.schema.count
      → followed_by (with_fills d k) (fill_values d.schema ∷ []) ≡ with_fills d (k + 1)

module _ (laws : Laws) (old : List ℕ) (limit : ℕ) (places : List Place) (d : Dataset) (s : Schema) (p : Placed)
    (start : Contains old limit places d s p) where
  -- ---- none

  pub held_first : Contains old limit places (with_fills d 0) s p
  held_first = subst (λ (e : Dataset). Contains old limit places e s p) (sym (laws.none d start.dataset.counted)) start

  pub some_held : (most : ℕ) → ∥ HoldsSome old limit places d most ∥₁
  some_held most = ∣ record { more = 0; few = omega arith; holds = held_first.all } ∣₁

  -- ---- one more

  module _ (k : ℕ) (now : List ℕ) (t : Schema) (q : Placed) (has : HasRecords s p k t q)
      (held : Contains now limit places (with_fills d k) t q) (takes : TakesRecord t q) (image : List ℕ)
      (image_is : image ≡ bytes_of_record s (fill_values s)) where
    abbrev slabs : List Values
    slabs = fill_values d.schema

    adds : Adds now limit places (with_fills d k) t q slabs
    adds = record {
      dataset = held.dataset;
      all = held.all;
      opens = held.opens;
      takes = takes;
      fits = laws.fills d.schema start.dataset.sound;
    }

    same_bytes : (j : ℕ) → t ≡ schema_with s p j → bytes_of_record t slabs ≡ bytes_of_record s slabs
    same_bytes zero is = ap (λ (u : Schema). bytes_of_record u slabs) is
    same_bytes (suc j) is = ap (λ (u : Schema). bytes_of_record u slabs) is

    image_now : bytes_of_record t slabs ≡ image
    image_now = same_bytes k has.schema_is
        ∙ ap (λ (u : Schema). bytes_of_record s (fill_values u)) (sym (laws.schema old limit places d s p start.all start.opens))
        ∙ sym image_is

    grown : HoldsOn (with_record now t q image) limit places (with_fills d (k + 1))
    grown = subst (λ (i : List ℕ). HoldsOn (with_record now t q i) limit places (with_fills d (k + 1))) image_now
        (subst (λ (e : Dataset). HoldsOn (with_record now t q (bytes_of_record t slabs)) limit places e)
        (laws.more d k start.dataset.counted) (laws.grows now limit places (with_fills d k) t q slabs adds))

    pub one_fill : (u : Schema) (r : Placed) → length image ≡ record_size_of_file q → HasRecord t q u r
        → Contains (with_record now t q image) limit places (with_fills d (k + 1)) u r
    one_fill u r long one = record {
      dataset = subst IsDataset (laws.more d k start.dataset.counted)
          (laws.dataset now limit places (with_fills d k) t q slabs adds);
      all = grown.all;
      opens = laws.opens now image limit t q u r held.opens takes long one;
    }

    pub fill_or_not : (most : ℕ) (c : List ℕ) → k < most → HasRecordOrNot now t q image c
        → ∥ HoldsSome c limit places d most ∥₁
    fill_or_not most c below (inl keeps) = ∣ record {
      more = k;
      few = omega (arith, below);
      holds = (laws.stands now c limit places (with_fills d k) t q slabs adds keeps).all;
    } ∣₁
    fill_or_not most c below (inr is) = ∣ record {
      more = k + 1;
      few = omega (arith, below);
      holds = subst (λ (l : List ℕ). HoldsAll l limit places (with_fills d (k + 1))) (sym is) grown.all;
    } ∣₁
