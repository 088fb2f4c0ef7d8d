-- An open file, opened anew, and what lets it grow.
use Rattle.std.proofs.Common.{◌≡◌, ℕ, suc, ◌+◌, ◌≤◌, Bool, true, false, List, [], ◌∷◌, length, map, None, refl, sym, ap, subst, ◌∙◌}
use Rattle.std.specs.Prelude.{if◌then◌else◌}
use Rattle.ncc_schema.specs.declared.schema.Dim.{Dim}
use Rattle.ncc_schema.specs.declared.schema.Header.{Header}
use Rattle.ncc_schema.specs.declared.schema.Schema.{Schema}
use Rattle.ncc_schema.specs.declared.schema.Var.{Var}
use Rattle.ncc_schema.specs.Schema.{Place, is_record_var, places_of}
use Rattle.ncc_header.specs.Answers.{Begins}
use Rattle.ncc_layout.specs.declared.extent.Extent.{Extent}
use Rattle.ncc_layout.specs.declared.placed_file.Placed.{Placed}
use Rattle.ncc_layout.specs.declared.placed_var.PlacedVar.{PlacedVar}
use Rattle.ncc_layout.specs.Elements.{lengthened, placed_from, placed_var, placed_with, with_records}
use Rattle.ncc_layout.specs.Extents.{extent_of, extents_from, extents_of, least_begin, record_count, records_of}
use Rattle.ncc_layout.specs.Packed.{begin_or_zero, record_at, records_at}
use Rattle.ncc_layout.specs.Placed.{Holds, extents_of_file, file_length_of, records_of_file}
use Rattle.ncc_layout.specs.Plans.{IsKnown}
use Rattle.ncc_layout.specs.Sizes.{inner}
use Rattle.ncc_layout.specs.Standard.{PackedFrom}
use Rattle.ncc_check.specs.AppendLaws.{CanGrow, ShowsSame}
use Rattle.ncc_check.specs.Appending.{TakesRecord}
use Rattle.ncc_check.specs.Checks.{Opens}

abbrev pub OneHeader : Type 0
OneHeader = (input : List ℕ) (limit : ℕ) (h k : Header) → Begins input limit h → Begins input limit k → h ≡ k

-- ---- one file

-- the same schema and places, and as many records
pub shown : (s : Schema) (places : List Place) (header file more : ℕ) (p q : Placed) → Holds s places header file p → Holds s places header more q
    → record_count s places more ≡ record_count s places file → ShowsSame p more q
shown s places header file more p q a b same = record {
  header_is = b.header_is ∙ sym a.header_is;
  length_is = b.length_is;
  size_is = b.size_is ∙ sym a.size_is;
  records_are = b.records_are ∙ same ∙ sym a.records_are;
  vars_are = b.vars_are ∙ ap (placed_with s places) same ∙ sym a.vars_are;
}

-- an open file by the header that its bytes begin with
pub moved : OneHeader → (bytes : List ℕ) (limit : ℕ) (h : Header) → Begins bytes limit h → (t : Schema) (q : Placed) → Opens bytes limit t q
    → (t ≡ h.schema) × Holds h.schema (places_of h.places) h.length (length bytes) q
moved one bytes limit h b t q o =
    subst (λ (k : Header). (t ≡ k.schema) × Holds k.schema (places_of k.places) k.length (length bytes) q) (one bytes limit o.header h o.passes.begins b) (o.schema_is, o.placed_is)

pub as_one : OneHeader → (bytes : List ℕ) (limit : ℕ) (s : Schema) (p : Placed) (t : Schema) (q : Placed) → Opens bytes limit s p → Opens bytes limit t q
    → (s ≡ t) × ShowsSame p (file_length_of p) q
as_one one bytes limit s p t q o r =
    let h = o.header in
    let here = moved one bytes limit h o.passes.begins t q r in
    let same = shown h.schema (places_of h.places) h.length (length bytes) (length bytes) p q o.placed_is here.1 refl in
    (o.schema_is ∙ sym here.0, subst (λ (n : ℕ). ShowsSame p n q) (sym o.placed_is.length_is) same)

-- ---- variables

extents_same : (dims : List Dim) (records n : ℕ) (vars : List Var) (places : List Place) → map (λ (x : PlacedVar). x.extent) (placed_from dims records n vars places) ≡ extents_from dims n vars places
extents_same dims records n [] places = refl
extents_same dims records n (x ∷ vars) [] = refl
extents_same dims records n (x ∷ vars) (p ∷ places) = ap (λ (l : List Extent). extent_of dims n x p ∷ l) (extents_same dims records (suc n) vars places)

pub extents_there : (s : Schema) (places : List Place) (header file : ℕ) (p : Placed) → Holds s places header file p → extents_of_file p ≡ extents_of s places
extents_there s places header file p holds =
    ap (map (λ (x : PlacedVar). x.extent)) holds.vars_are ∙ extents_same s.dims (record_count s places file) 0 s.vars places

lengthened_by : (b : Bool) (n m : ℕ) (ls : List ℕ) → lengthened m b (if b then n ∷ ls else ls) ≡ (if b then m ∷ ls else ls)
lengthened_by true n m ls = refl
lengthened_by false n m ls = refl

abbrev shaped_as : (dims : List Dim) (k : ℕ) (x : Var) (p : Place) → List ℕ → PlacedVar
shaped_as dims k x p ls = record { xtype = x.xtype; shape = ls; extent = extent_of dims k x p }

-- with another number of records
pub with_more : (dims : List Dim) (n m k : ℕ) (vars : List Var) (places : List Place) → map (with_records m) (placed_from dims n k vars places) ≡ placed_from dims m k vars places
with_more dims n m k [] places = refl
with_more dims n m k (x ∷ vars) [] = refl
with_more dims n m k (x ∷ vars) (p ∷ places) =
    ap (λ (ls : List ℕ). shaped_as dims k x p ls ∷ map (with_records m) (placed_from dims n (suc k) vars places)) (lengthened_by (is_record_var dims x) n m (inner dims x))
    ∙ ap (λ (l : List PlacedVar). placed_var dims m k x p ∷ l) (with_more dims n m (suc k) vars places)

-- ---- growing

pub records_at_same : (p q : Placed) → extents_of_file q ≡ extents_of_file p → records_at q ≡ records_at p
records_at_same p q same = ap (λ (es : List Extent). begin_or_zero (least_begin (records_of es))) same

pub can_grow : (s t : Schema) (p q : Placed) → TakesRecord s p → extents_of_file q ≡ extents_of_file p → record_at q (records_of_file q) ≤ file_length_of q + 3 → IsKnown t.count → CanGrow t q
can_grow s t p q takes same reaches known = record {
  some = subst (λ (es : List Extent). least_begin (records_of es) ≡ None → ⊥) (sym same) takes.some;
  packed = record {
    in_turn = subst (λ (es : List Extent). PackedFrom (begin_or_zero (least_begin (records_of es))) (records_of es)) (sym same) takes.packed.in_turn;
    reaches = reaches;
  };
  counted = known;
}
