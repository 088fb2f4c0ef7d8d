-- The bytes of a file with one more record, and its header.
use Rattle.std.proofs.Common.{◌≡◌, inl, inr, ℕ, ◌+◌, ◌-◌, ◌<◌, ◌≤◌, max, Bool, true, false, List, ◌++◌, length, take, drop, replicate, Some, None, refl, sym, ap, ◌∙◌, length-append, take-append-drop, arith}
use Rattle.std.specs.Prelude.{ltb, if◌then◌else◌}
use Rattle.std.proofs.lemmas.Bool.{ltb-true}
use Rattle.std.proofs.lemmas.List.{length-replicate, take_at, take-take, take-append-le}
use Rattle.ncc_values.specs.BigEndian.{length-big_endian}
use Rattle.ncc_values.specs.Version.{count_width_of}
use Rattle.ncc_values.specs.declared.version.Version.{Version}
use Rattle.ncc_schema.specs.declared.schema.Count.{Count}
use Rattle.ncc_schema.specs.declared.schema.Count.TheVariants.{Known, Streaming}
use Rattle.ncc_schema.specs.declared.schema.Header.{Header}
use Rattle.ncc_schema.specs.Header.{with_count_field}
use Rattle.ncc_schema.specs.Schema.{streaming_mark}
use Rattle.ncc_header.specs.Answers.{Begins}
use Rattle.ncc_layout.specs.declared.extent.Extent.{Extent}
use Rattle.ncc_layout.specs.Extents.{number_of_records}
use Rattle.ncc_layout.specs.Plans.{IsKnown}
use Rattle.ncc_layout.specs.Standard.{next_count}
use Rattle.ncc_store.specs.Store.{written}
use Rattle.ncc_store.proofs.Pieces.{length-written, take-written}
use Rattle.ncc_check.specs.Appending.{padded, staged, appended, count_field, IsBeforeOrAfter}

-- ---- counts

pub known_count : (c : Count) (record_size file : ℕ) (es : List Extent) (n : ℕ) → IsKnown c → n ≡ number_of_records record_size file es c → c ≡ Known n
known_count (Known m) size file es n known is = ap Known (sym is)
known_count Streaming size file es n known is = absurd known

below_by : (v : Version) (n m : ℕ) (b : Bool) → ltb (n + 1) (streaming_mark v) ≡ b → (if b then Some (n + 1) else None) ≡ Some m → m < streaming_mark v
below_by v n m true is same =
    let next : n + 1 ≡ m = cc in
    omega (arith, next, ltb-true (n + 1) (streaming_mark v) is)
below_by v n m false is same = absurd cc

pub below_mark : (v : Version) (n m : ℕ) → next_count v n ≡ Some m → m < streaming_mark v
below_mark v n m same = below_by v n m (ltb (n + 1) (streaming_mark v)) refl same

-- ---- lengths

module _ (old : List ℕ) (place : ℕ) (image : List ℕ) where
  pub padded_long : length (padded old place) ≡ max (length old) place
  padded_long = omega (arith, length-append old (replicate (place - length old) 0), length-replicate {A = ℕ} (place - length old) 0)

  pub staged_long : length (staged old place image) ≡ max (length old) (place + length image)
  staged_long = omega (arith, padded_long, length-written place image (padded old place) (omega (arith, padded_long)))

  pub appended_long : (at : ℕ) (count : List ℕ) → at + length count ≤ length old → length (appended old place image at count) ≡ max (length old) (place + length image)
  appended_long at count inside = omega (arith, staged_long, length-written at count (staged old place image) (omega (arith, staged_long, inside)))

  -- a front of the old bytes before the image
  pub staged_front : (n : ℕ) → n ≤ place → n ≤ length old → take n (staged old place image) ≡ take n old
  staged_front n before there =
      sym (take-take n place (staged old place image) before)
      ∙ ap (take n) (take-written place image (padded old place) (omega (arith, padded_long)))
      ∙ take-take n place (padded old place) before
      ∙ take-append-le n old (replicate (place - length old) 0) there

pub no_shorter : (old : List ℕ) (place : ℕ) (image : List ℕ) (at : ℕ) (count new : List ℕ) → at + length count ≤ length old → IsBeforeOrAfter old place image at count new → length old ≤ length new
no_shorter old place image at count new inside (inl kept) = kept.no_shorter
no_shorter old place image at count new inside (inr is) = omega (arith, ap length is, appended_long old place image at count inside)

-- ---- the header

-- bytes with the same front begin with the same header
pub same_begin : (old new : List ℕ) (limit : ℕ) (h : Header) → Begins old limit h → take h.length new ≡ take h.length old → Begins new limit h
same_begin old new limit h b same = record {
  front = b.front;
  rest = drop h.length new;
  joined =
      let front_is : take h.length old ≡ b.front = ap (take h.length) b.joined ∙ take_at b.front b.rest h.length (sym b.long) in
      sym (take-append-drop h.length new) ∙ ap (λ (l : List ℕ). l ++ drop h.length new) (same ∙ front_is);
  is_header = b.is_header;
  begins = b.begins;
  marks = b.marks;
  long = b.long;
  within = b.within;
}

pub begun_long : (old : List ℕ) (limit : ℕ) (h : Header) → Begins old limit h → h.length ≤ length old
begun_long old limit h b = omega (arith, b.long, ap length b.joined, length-append b.front b.rest)

pub staged_begins : (old : List ℕ) (place : ℕ) (image : List ℕ) (limit : ℕ) (h : Header) → h.length ≤ place → Begins old limit h → Begins (staged old place image) limit h
staged_begins old place image limit h before b =
    same_begin old (staged old place image) limit h b (staged_front old place image h.length before (begun_long old limit h b))

-- writing the count field is writing it again
pub field_written : (v : Version) (n : ℕ) (bytes : List ℕ) → written bytes 4 (count_field v n) ≡ with_count_field v n bytes
field_written v n bytes = ap (λ (k : ℕ). take 4 bytes ++ count_field v n ++ drop (4 + k) bytes) (length-big_endian (count_width_of v) n)

pub field_long : (v : Version) (n : ℕ) → length (count_field v n) ≡ count_width_of v
field_long v n = length-big_endian (count_width_of v) n
