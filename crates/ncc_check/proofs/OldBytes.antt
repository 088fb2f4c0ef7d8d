-- What stands of the old bytes, and where the new ones are.
use Rattle.std.proofs.Common.{◌≡◌, inl, inr, ℕ, ◌+◌, ◌-◌, ◌≤◌, min, List, ◌++◌, length, take, drop, Some, refl, sym, ap, ◌∙◌, append_assoc, arith}
use Rattle.std.proofs.lemmas.List.{drop-drop, drop-take, drop_at, length-take-le, take-take, take_at}
use Rattle.std.proofs.lemmas.List.Elements.{Contains-get_or}
use Rattle.ncc_values.proofs.ElementsLemmas.{size_of-some}
use Rattle.ncc_values.specs.Version.{count_width_of}
use Rattle.ncc_values.specs.XType.{size_of}
use Rattle.ncc_schema.specs.declared.schema.Schema.{Schema}
use Rattle.ncc_layout.specs.declared.placed_file.Placed.{Placed}
use Rattle.ncc_layout.specs.Elements.{Element, IsPlace, LiesInFile, Own, no_var, var_at}
use Rattle.ncc_layout.specs.Placed.{KeepsRules, file_length_of, header_length_of, record_size_of_file, records_of_file, vars_of}
use Rattle.ncc_store.specs.Store.{written}
use Rattle.ncc_store.proofs.Pieces.{drop-written}
use Rattle.ncc_check.specs.Appending.{HasRecordOrNot, TakesRecord, count_field, next_record_at, padded, staged, with_record}
use Rattle.ncc_check.specs.Checks.{Opens}
use Rattle.ncc_check.proofs.Appended.{field_long, padded_long, staged_front, staged_long}
use Rattle.ncc_check.proofs.PassingOn.{before, field_within}

-- ---- ranges

-- a range of equal fronts
in_front : (a b : List ℕ) (end place size : ℕ) → take end a ≡ take end b → place + size ≤ end → take size (drop place a) ≡ take size (drop place b)
in_front a b end place size same inside =
    let front = sym (take-take (place + size) end a inside) ∙ ap (take (place + size)) same ∙ take-take (place + size) end b inside in
    sym (drop-take place size a) ∙ ap (drop place) front ∙ drop-take place size b

-- what lies after a piece that is written
behind : (at : ℕ) (piece old : List ℕ) (place : ℕ) → at ≤ length old → at + length piece ≤ place → drop place (written old at piece) ≡ drop place old
behind at piece old place there further =
    let past = at + length piece in
    let k = place - past in
    let sum : past + k ≡ place = omega arith in
    ap (λ (m : ℕ). drop m (written old at piece)) (sym sum)
    ∙ sym (drop-drop k past (written old at piece))
    ∙ ap (drop k) (drop-written at piece old there)
    ∙ drop-drop k past old
    ∙ ap (λ (m : ℕ). drop m old) sum

-- a piece that is written is there
there : (at : ℕ) (piece old : List ℕ) → at ≤ length old → take (length piece) (drop at (written old at piece)) ≡ piece
there at piece old inside =
    let rest = drop (at + length piece) old in
    ap (λ (l : List ℕ). take (length piece) (drop at l)) (append_assoc (take at old) piece rest)
    ∙ ap (take (length piece)) (drop_at (take at old) (piece ++ rest) at (length-take-le at old inside))
    ∙ take_at piece rest (length piece) refl

-- ---- one more record

module _ (bytes image : List ℕ) (s : Schema) (p : Placed) where
  abbrev field : List ℕ
  field = count_field s.version (records_of_file p + 1)

  -- after the count field only the image is new
  behind_field : (place : ℕ) → 4 + count_width_of s.version ≤ place → place ≤ length (staged bytes (next_record_at p) image)
      → drop place (with_record bytes s p image) ≡ drop place (staged bytes (next_record_at p) image)
  behind_field place further inside =
      behind 4 field (staged bytes (next_record_at p) image) place (omega (arith, further, inside)) (omega (arith, further, field_long s.version (records_of_file p + 1)))

  pub old_range : (new : List ℕ) (place size : ℕ) → HasRecordOrNot bytes s p image new → 4 + count_width_of s.version ≤ place → place + size ≤ min (next_record_at p) (length bytes)
      → take size (drop place new) ≡ take size (drop place bytes)
  old_range new place size (inl kept) further inside = in_front new bytes (min (next_record_at p) (length bytes)) place size kept.front inside
  old_range new place size (inr is) further inside =
      let end = min (next_record_at p) (length bytes) in
      let at = next_record_at p in
      ap (λ (l : List ℕ). take size (drop place l)) is
      ∙ ap (take size) (behind_field place further (omega (arith, inside, staged_long bytes at image)))
      ∙ in_front (staged bytes at image) bytes end place size (staged_front bytes at image end (omega arith) (omega arith)) inside

  pub added_image : 4 + count_width_of s.version ≤ next_record_at p → take (length image) (drop (next_record_at p) (with_record bytes s p image)) ≡ image
  added_image further =
      let at = next_record_at p in
      ap (take (length image)) (behind_field at further (omega (arith, staged_long bytes at image)))
      ∙ there at image (padded bytes at) (omega (arith, padded_long bytes at image))

-- ---- elements

module _ (bytes image : List ℕ) (limit : ℕ) (s : Schema) (p : Placed) (o : Opens bytes limit s p) (takes : TakesRecord s p) (rules : KeepsRules p) where
  -- the next record lies after the count field
  pub next_behind : 4 + count_width_of s.version ≤ next_record_at p
  next_behind = omega (arith, field_within bytes limit s p o takes rules, before bytes limit s p o takes rules)

  -- an element that is there ends in the file
  ends_in_file : Own (header_length_of p) (file_length_of p) (record_size_of_file p) (vars_of p) → (n place : ℕ) (index : List ℕ)
      → IsPlace (record_size_of_file p) (vars_of p) n index (Some place) → place + size_of (var_at (vars_of p) n).xtype ≤ length bytes
  ends_in_file own n place index is =
      let x = var_at (vars_of p) n in
      let some = size_of-some x.xtype in
      let e : Element (vars_of p) = record { var = x; there = Contains-get_or (vars_of p) n no_var is.0; index = index; inside = is.1 } in
      let below = own.inside e (place + size_of x.xtype - 1) (omega (arith, some, is.2), omega (arith, some, is.2)) in
      omega (arith, below.1, some, o.placed_is.length_is)

  pub old_element : Own (header_length_of p) (file_length_of p) (record_size_of_file p) (vars_of p) → (new : List ℕ) → HasRecordOrNot bytes s p image new → (n place : ℕ) (index : List ℕ)
      → IsPlace (record_size_of_file p) (vars_of p) n index (Some place)
      → LiesInFile (header_length_of p) (next_record_at p) (var_at (vars_of p) n) place
      → take (size_of (var_at (vars_of p) n).xtype) (drop place new) ≡ take (size_of (var_at (vars_of p) n).xtype) (drop place bytes)
  old_element own new is_so n place index is lies =
      old_range bytes image s p new place (size_of (var_at (vars_of p) n).xtype) is_so
      (omega (arith, field_within bytes limit s p o takes rules, o.placed_is.header_is, lies.0))
      (omega (arith, lies.1, ends_in_file own n place index is))
