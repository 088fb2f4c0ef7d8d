-- A file with some records more, and one more.
use Rattle.std.proofs.Common.{◌≡◌, ◌⊎◌, inl, inr, ℕ, zero, suc, ◌+◌, ◌*◌, ◌≤◌, ◌<◌, max, Bool, true, false, Some, None, Err, List, [], ◌∷◌, map, refl, sym, ap, ap₂, subst, ◌∙◌, arith}
use Rattle.std.specs.Prelude.{ltb}
use Rattle.std.specs.Prelude.{if◌then◌else◌}
use Rattle.std.proofs.lemmas.Bool.{ltb-false, le-ltb}
use Rattle.std.proofs.lemmas.Nat.{mul-le}
use Rattle.ncc_schema.specs.declared.schema.Count.TheVariants.{Known, Streaming}
use Rattle.ncc_schema.specs.declared.schema.Count.{Count}
use Rattle.ncc_schema.specs.declared.schema.Schema.{Schema}
use Rattle.ncc_schema.specs.Schema.{streaming_mark, with_count}
use Rattle.ncc_values.specs.declared.version.Version.{Version}
use Rattle.ncc_layout.specs.declared.extent.Extent.{Extent}
use Rattle.ncc_layout.specs.declared.placed_file.Placed.{Placed}
use Rattle.ncc_layout.specs.declared.placed_var.PlacedVar.{PlacedVar}
use Rattle.ncc_layout.specs.Elements.{lengthened, with_records}
use Rattle.ncc_layout.specs.Extents.{least_begin, records_of}
use Rattle.ncc_layout.specs.Packed.{begin_or_zero, record_at, records_at}
use Rattle.ncc_layout.specs.Placed.{extents_of_file, file_length_of, record_size_of_file, records_of_file, vars_of}
use Rattle.ncc_layout.specs.Plans.{IsKnown}
use Rattle.ncc_layout.specs.Standard.{PackedFrom, next_count}
use Rattle.ncc_check.specs.AppendLaws.{CanGrow}
use Rattle.ncc_write.specs.Records.{bytes_of_record, fill_values}
use Rattle.ncc_check.specs.Appending.{HasRecordOrNot, Keeps, appended, count_field, next_record_at, with_record, HasRecord, IsFull, TakesRecord, length_with_record}
use Rattle.ncc_check.specs.declared.append_error.AppendError.{AppendError}
use Rattle.ncc_check.specs.declared.append_error.AppendError.TheVariants as error
use Rattle.ncc_write.specs.Extends.{HasFillsOrNot, LeavesFills, filled_bytes, AddsAs, ExtendsAs, HasRecords, IsFullFor, RefusesMore, TakesRecords, length_with, schema_with, vars_with}

-- ---- none

pub no_records : (s : Schema) (p : Placed) → HasRecords s p 0 s p
no_records s p = record {
  schema_is = refl;
  header_is = refl;
  length_is = refl;
  size_is = refl;
  records_are = omega arith;
  vars_are = refl;
}

-- ---- the same places

extents_stay : (more : ℕ) (vars : List PlacedVar) → map (λ x. x.extent) (map (with_records more) vars) ≡ map (λ x. x.extent) vars
extents_stay more [] = refl
extents_stay more (x ∷ vars) = ap (λ (l : List Extent). x.extent ∷ l) (extents_stay more vars)

extents_with : (p : Placed) (k : ℕ) → map (λ x. x.extent) (vars_with p k) ≡ extents_of_file p
extents_with p zero = refl
extents_with p (suc k) = extents_stay (records_of_file p + suc k) (vars_of p)

module _ (s : Schema) (p : Placed) (k : ℕ) (t : Schema) (q : Placed) (has : HasRecords s p k t q) where
  same_extents : extents_of_file q ≡ extents_of_file p
  same_extents = ap (map (λ x. x.extent)) has.vars_are ∙ extents_with p k

  same_begin : records_at q ≡ records_at p
  same_begin = ap (λ (es : List Extent). begin_or_zero (least_begin (records_of es))) same_extents

  pub same_place : (n : ℕ) → record_at q n ≡ record_at p n
  same_place n = ap₂ (λ (b size : ℕ). b + n * size) same_begin has.size_is

  version_with : (k : ℕ) → (schema_with s p k).version ≡ s.version
  version_with zero = refl
  version_with (suc k) = refl

  same_version : t.version ≡ s.version
  same_version = ap (λ (u : Schema). u.version) has.schema_is ∙ version_with k

  known_with : (k : ℕ) → IsKnown s.count → IsKnown (schema_with s p k).count
  known_with zero known = known
  known_with (suc k) known = tt

  -- ---- it can grow as the file could

  reaches_with : (k : ℕ) → record_at p (records_of_file p) ≤ file_length_of p + 3
      → record_at p (records_of_file p + k) ≤ length_with p k + 3
  reaches_with zero reaches = let none : records_of_file p + 0 ≡ records_of_file p = omega arith in
      omega (arith, reaches, ap (record_at p) none)
  reaches_with (suc k) reaches = omega arith

  pub can_grow : CanGrow s p → CanGrow t q
  can_grow can = record {
    some = λ none. can.some (ap (λ (es : List Extent). least_begin (records_of es)) (sym same_extents) ∙ none);
    packed = record {
      in_turn = subst (λ (b : ℕ). PackedFrom b (records_of (extents_of_file q))) (sym same_begin)
          (subst (λ (es : List Extent). PackedFrom (records_at p) (records_of es)) (sym same_extents) can.packed.in_turn);
      reaches = omega (
        arith,
        reaches_with k can.packed.reaches,
        same_place (records_of_file q),
        ap (record_at p) has.records_are,
        has.length_is,
      );
    };
    counted = subst (λ (u : Schema). IsKnown u.count) (sym has.schema_is) (known_with k can.counted);
  }

  -- ---- room

  none_left : (v : Version) (n : ℕ) → next_count v n ≡ None → streaming_mark v ≤ n + 1
  none_left v n none = by (ltb (n + 1) (streaming_mark v)) refl none
    where
      by : (b : Bool) → ltb (n + 1) (streaming_mark v) ≡ b → (if b then Some (n + 1) else None) ≡ None
          → streaming_mark v ≤ n + 1
      by true is none = absurd (cc none)
      by false is none = ltb-false (n + 1) (streaming_mark v) is

  none_from : (v : Version) (n : ℕ) → streaming_mark v ≤ n + 1 → next_count v n ≡ None
  none_from v n past = ap (λ (b : Bool). if b then Some (n + 1) else None) (le-ltb (n + 1) (streaming_mark v) past)

  grows_with : (k : ℕ) → max (length_with p k) (record_at p (records_of_file p + k + 1)) ≡ length_with p (suc k)
  grows_with zero =
      let one : records_of_file p + 0 + 1 ≡ records_of_file p + 1 = omega arith in
      ap (λ (n : ℕ). max (file_length_of p) (record_at p n)) one
  grows_with (suc k) =
      let size = record_size_of_file p in
      let one : records_of_file p + suc k + 1 ≡ records_of_file p + suc (suc k) = omega arith in
      let later : (records_of_file p + suc (suc k)) * size ≡ (records_of_file p + suc k) * size + size = omega arith in
      omega (arith, ap (record_at p) one, later)

  length_is : length_with_record q ≡ length_with p (suc k)
  length_is =
      let next : records_of_file q + 1 ≡ records_of_file p + k + 1 = omega (arith, has.records_are) in
      ap₂ (λ (m n : ℕ). max m n) has.length_is (ap (record_at q) next ∙ same_place (records_of_file p + k + 1))
      ∙ grows_with k

  pub full_now : IsFull t.version q → IsFullFor s.version p (suc k)
  full_now (inl none) =
      let past = none_left t.version (records_of_file q) none in
      inl (omega (arith, past, has.records_are, ap streaming_mark same_version))
  full_now (inr long) = inr (omega (arith, long, length_is))

  pub full_then : IsFullFor s.version p (suc k) → IsFull t.version q
  full_then (inl past) = inl (none_from t.version (records_of_file q)
      (omega (arith, past, has.records_are, ap streaming_mark same_version)))
  full_then (inr long) = inr (omega (arith, long, length_is))

  -- ---- one more

  schema_more : (k : ℕ) (n : ℕ) → t ≡ schema_with s p k → with_count t n ≡ with_count s n
  schema_more zero n is = ap (λ (u : Schema). with_count u n) is
  schema_more (suc k) n is = ap (λ (u : Schema). with_count u n) is

  vars_more : (k n : ℕ) → map (with_records n) (vars_with p k) ≡ map (with_records n) (vars_of p)
  vars_more zero n = refl
  vars_more (suc k) n = again (records_of_file p + suc k) (vars_of p)
    where
      longer : (m : ℕ) (b : Bool) (ls : List ℕ) → lengthened n b (lengthened m b ls) ≡ lengthened n b ls
      longer m true (l ∷ ls) = refl
      longer m true [] = refl
      longer m false ls = refl

      again : (m : ℕ) (vars : List PlacedVar) → map (with_records n) (map (with_records m) vars) ≡ map (with_records n) vars
      again m [] = refl
      again m (x ∷ vars) = ap₂ (λ (ls : List ℕ) (l : List PlacedVar).
          record { xtype = x.xtype; shape = ls; extent = x.extent } ∷ l) (longer m x.extent.is_record x.shape) (again m vars)

  place_now : next_record_at q ≡ record_at p (records_of_file p + k)
  place_now = ap (record_at q) has.records_are ∙ same_place (records_of_file p + k)

  count_now : records_of_file q + 1 ≡ records_of_file p + suc k
  count_now = omega (arith, has.records_are)

  pub one_record_more : (u : Schema) (r : Placed) → HasRecord t q u r → HasRecords s p (suc k) u r
  one_record_more u r one =
      let next : records_of_file q + 1 ≡ records_of_file p + suc k = omega (arith, has.records_are) in
      record {
        schema_is = one.schema ∙ ap (with_count t) next ∙ schema_more k (records_of_file p + suc k) has.schema_is;
        header_is = one.placed.header_is ∙ has.header_is;
        length_is = one.placed.length_is ∙ length_is;
        size_is = one.placed.size_is ∙ has.size_is;
        records_are = one.placed.records_are ∙ next;
        vars_are = one.placed.vars_are ∙ ap (λ (n : ℕ). map (with_records n) (vars_of q)) next
            ∙ ap (map (with_records (records_of_file p + suc k))) has.vars_are ∙ vars_more k (records_of_file p + suc k);
      }

  pub room_more : CanGrow s p → TakesRecord t q → TakesRecords s p (suc k)
  room_more can takes = (can, λ full. takes.room (full_then full))

  -- ---- nothing is missing after a record that was added

  reached : (k : ℕ) → 0 < k → record_at p (records_of_file p + k) ≤ length_with p k
  reached zero some = absurd (omega (arith, some))
  reached (suc k) some = omega arith

  pub is_reached : 0 < k → next_record_at q ≤ file_length_of q
  is_reached some = omega (arith, place_now, reached k some, has.length_is)

  -- ---- its bytes

  pub bytes_more : (old now : List ℕ) (image : List ℕ) → now ≡ filled_bytes old s p k
      → image ≡ bytes_of_record s (fill_values s) → with_record now t q image ≡ filled_bytes old s p (suc k)
  bytes_more old now image now_is image_is =
      ap (λ (b : List ℕ). with_record b t q image) now_is
      ∙ ap (λ (i : List ℕ). with_record (filled_bytes old s p k) t q i) image_is
      ∙ ap (λ (n : ℕ). appended (filled_bytes old s p k) n (bytes_of_record s (fill_values s)) 4
      (count_field t.version (records_of_file q + 1))) place_now
      ∙ ap₂ (λ (v : Version) (n : ℕ). appended (filled_bytes old s p k) (record_at p (records_of_file p + k))
      (bytes_of_record s (fill_values s)) 4 (count_field v n)) same_version count_now

  pub fills_or_not : (old now new : List ℕ) (image : List ℕ) → now ≡ filled_bytes old s p k
      → image ≡ bytes_of_record s (fill_values s) → HasRecordOrNot now t q image new → HasFillsOrNot old s p k new
  fills_or_not old now new image now_is image_is (inl keeps) =
      inl (subst (λ (b : List ℕ). Keeps b (record_at p (records_of_file p + k)) new) now_is
      (subst (λ (n : ℕ). Keeps now n new) place_now keeps))
  fills_or_not old now new image now_is image_is (inr is) = inr (is ∙ bytes_more old now image now_is image_is)

-- ---- answers

pub as_first : (s : Schema) (p : Placed) → TakesRecord s p → CanGrow s p
as_first s p takes = record { some = takes.some; packed = takes.packed; counted = takes.counted }

longer_with : (p : Placed) (k n : ℕ) → suc k ≤ n → length_with p (suc k) ≤ length_with p n
longer_with p k zero le = absurd (omega (arith, le))
longer_with p k (suc n) le =
    let size = record_size_of_file p in
    let more : (records_of_file p + suc k) * size ≤ (records_of_file p + suc n) * size =
    mul-le (records_of_file p + suc k) size (records_of_file p + suc n) size (omega (arith, le)) (omega arith) in
    omega (arith, more)

full_for : (v : Version) (p : Placed) (k n : ℕ) → suc k ≤ n → IsFullFor v p (suc k) → IsFullFor v p n
full_for v p k n le (inl past) = inl (omega (arith, past, le))
full_for v p k n le (inr long) = inr (omega (arith, long, longer_with p k n le))

not_known : (c : Count) → IsKnown c → c ≡ Streaming → ⊥
not_known (Known n) known is = cc is
not_known Streaming known is = known

-- why the next of the records is refused is why they all are
pub refused_so : (s : Schema) (p : Placed) (k n : ℕ) (t : Schema) (q : Placed) (failed : Bool) (e : AppendError)
    → HasRecords s p k t q → failed ≡ false → TakesRecord s p → suc k ≤ n → AddsAs false t q (Err e)
    → RefusesMore failed s p n e × ((e ≡ error.Device) ⊎ (e ≡ error.CountFull))
refused_so s p k n t q failed error.Device has fresh takes le adds = ((fresh, takes), inl refl)
refused_so s p k n t q failed error.CountFull has fresh takes le adds = (
  (fresh, as_first s p takes, full_for s.version p k n le (full_now s p k t q has adds.4)),
  inr refl,
)
refused_so s p k n t q failed error.Reopen has fresh takes le adds = absurd (cc adds)
refused_so s p k n t q failed error.NoRecordVariable has fresh takes le adds =
    absurd ((can_grow s p k t q has (as_first s p takes)).some adds.1)
refused_so s p k n t q failed error.NotPacked has fresh takes le adds =
    absurd (adds.2 (can_grow s p k t q has (as_first s p takes)).packed)
refused_so s p k n t q failed error.Streaming has fresh takes le adds =
    absurd (not_known t.count (can_grow s p k t q has (as_first s p takes)).counted adds.3)
refused_so s p k n t q failed (error.WrongValues i) has fresh takes le adds = absurd adds
refused_so s p k n t q failed error.Memory has fresh takes le adds = absurd adds

pub extended_so : (failed : Bool) (s : Schema) (p : Placed) (n : ℕ) (e : AppendError) → 0 < n
    → RefusesMore failed s p n e → ExtendsAs failed s p n (Err e)
extended_so failed s p zero e some refused = absurd (omega (arith, some))
extended_so failed s p (suc n) e some refused = refused

-- the first takes five calls at most, and each after it four
pub calls_so : (k start now next : ℕ) → (k ≡ 0 → now ≤ start) → now ≤ start + 4 * k + 1 → next ≤ now + 5
    → (0 < k → next ≤ now + 4) → next ≤ start + 4 * k + 5
calls_so zero start now next none so five four = omega (arith, none refl, five)
calls_so (suc k) start now next none so five four = omega (arith, so, four (omega arith))

-- none was added
pub none_left_out : (old : List ℕ) (s : Schema) (p : Placed) (told : Bool) (most : ℕ) (e : AppendError) → 0 < most
    → LeavesFills old s p s p told most e old
none_left_out old s p told most e some = record {
  more = 0;
  fewer = some;
  room = tt;
  has = no_records s p;
  stands = λ is no_device. refl;
  failed = λ is. inl (record { front = refl; no_shorter = omega arith });
}
