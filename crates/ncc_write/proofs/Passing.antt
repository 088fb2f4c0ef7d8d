-- The file of a dataset passes, without a note.
use Rattle.std.proofs.Common.{◌≡◌, ℕ, ◌<◌, ◌≤◌, List, [], ◌++◌, length, refl, sym, ap, subst, ◌∙◌}
use Rattle.std.specs.Prelude.{zip}
use Rattle.std.specs.List.{flat_map}
use Rattle.ncc_schema.specs.declared.schema.Count.{Count}
use Rattle.ncc_schema.specs.declared.schema.Count.TheVariants.{Known, Streaming}
use Rattle.ncc_schema.specs.declared.schema.Header.{Header}
use Rattle.ncc_schema.specs.declared.schema.Schema.{Schema}
use Rattle.ncc_schema.specs.Header.{IsHeader, canon}
use Rattle.ncc_schema.specs.Names.{header_length}
use Rattle.ncc_schema.specs.Schema.{count_limit, Place, places_of, Legal, IsTyped}
use Rattle.ncc_header.specs.Answers.{Begins}
use Rattle.ncc_header.specs.Marks.{header_marks}
use Rattle.ncc_layout.specs.Extents.{extents_of}
use Rattle.ncc_layout.specs.Rules.{IsPlaced}
use Rattle.ncc_layout.specs.Standard.{standard_places, file_length, FitsVersion, AreInTurn, AreAligned}
use Rattle.ncc_layout.specs.Plans.{IsKnown, known}
use Rattle.ncc_build.specs.Building.{HasNames, HasLengths, IsBuilt}
use Rattle.ncc_build.specs.Dataset.{slabs_of, Dataset, IsDataset, in_order}
use Rattle.ncc_build.specs.File.{padded, header_of, file_of, IsWritable}
use Rattle.ncc_layout.proofs.VersionFits.{legal_places}
use Rattle.ncc_write.specs.Laws.{PassesAs, PassesUnnoted}
use Rattle.ncc_write.proofs.FileLengths.{length_header, file_length_is}
use Rattle.ncc_write.proofs.NoNotes.{IsPlain, no_notes}

-- ---- the laws below

pub record Laws : Type 0 where
  pub canonical : (s : Schema) (places : List Place) → Legal s places → IsTyped s → IsHeader s places (canon s places)
  pub unmarked : (s : Schema) (places : List Place) → Legal s places → IsTyped s → header_marks (canon s places) ≡ []
  pub begun : (s : Schema) (places : List Place) (front rest : List ℕ) (limit : ℕ) → IsHeader s places front
      → length front ≤ limit
      → (h : Header) × Begins (front ++ rest) limit h × (h.schema ≡ s) × (places_of h.places ≡ places)
  pub one : (s t : Schema) (p q : List Place) (b c x y : List ℕ) → IsHeader s p b → IsHeader t q c → b ++ x ≡ c ++ y
      → (b ≡ c) × (s ≡ t) × (p ≡ q)
  pub placed : (s : Schema) (n : ℕ) → s.count ≡ Known n → FitsVersion s n
      → IsPlaced s (standard_places s) (header_length s) (file_length s n)
  pub in_turn : (s : Schema) → AreInTurn (extents_of s (standard_places s))
  pub aligned : (s : Schema) → AreAligned (extents_of s (standard_places s))

known_is : (c : Count) → IsKnown c → c ≡ Known (known c)
known_is (Known n) h = refl
known_is Streaming h = absurd h

-- ---- the file

module _ (laws : Laws) (d : Dataset) (limit : ℕ) (is : IsDataset d) (writable : IsWritable d.schema)
    (within : length (header_of d.schema) ≤ limit) where
  abbrev s : Schema
  s = d.schema

  abbrev places : List Place
  places = standard_places s

  abbrev values : List ℕ
  values = flat_map (padded s) (zip (slabs_of s) (in_order d))

  legal : Legal s places
  legal = legal_places s (known s.count) is.sound writable.fits writable.offsets

  is_header : IsHeader s places (header_of s)
  is_header = laws.canonical s places legal is.typed

  found : (h : Header) × Begins (file_of d) limit h × (h.schema ≡ s) × (places_of h.places ≡ places)
  found = laws.begun s places (header_of s) values limit is_header within

  abbrev h : Header
  h = found.0

  front_is : found.1.front ≡ header_of s
  front_is = (laws.one h.schema s (places_of h.places) places found.1.front
      (header_of s) found.1.rest values found.1.is_header is_header (sym found.1.joined)).0

  long : header_length s ≡ h.length
  long = sym (found.1.long ∙ ap (λ (l : List ℕ). length l) front_is ∙ length_header s)

  -- in the words of the header that was found
  abbrev At : (Schema → List Place → Type 0) → Type 0
  At P = P h.schema (places_of h.places)

  moved : (P : Schema → List Place → Type 0) → P s places → At P
  moved P p = subst (P h.schema) (sym found.3) (subst (λ (t : Schema). P t places) (sym found.2) p)

  placed : IsPlaced h.schema (places_of h.places) h.length (length (file_of d))
  placed =
      let of_file = laws.placed s (known s.count) (known_is s.count is.counted) writable.fits in
      let sized = subst (λ (n : ℕ). IsPlaced s places n (length (file_of d))) long
      (subst (IsPlaced s places (header_length s)) (sym (file_length_is d is)) of_file) in
      moved (λ t q. IsPlaced t q h.length (length (file_of d))) sized

  pub passes_as : PassesAs (file_of d) limit s
  passes_as = record {
    header = h;
    passes = record { begins = found.1; placed = placed };
    schema_is = found.2;
    places_are = found.3;
  }

  module _ (built : IsBuilt s) (small : known s.count < count_limit s.version) where
    plain : IsPlain h
    plain = record {
      marks = found.1.marks ∙ ap header_marks front_is ∙ laws.unmarked s places legal is.typed;
      places = found.3 ∙ ap standard_places (sym found.2);
      names = moved (λ t q. HasNames t) built.names;
      lengths_small = moved (λ t q. HasLengths t) built.lengths;
      count = moved (λ t q. known t.count < count_limit t.version) small;
      aligned = moved (λ t q. AreAligned (extents_of t q)) (laws.aligned s);
      in_turn = moved (λ t q. AreInTurn (extents_of t q)) (laws.in_turn s);
    }

    pub passes_unnoted : PassesUnnoted (file_of d) limit s
    unfolding passes_as found
    passes_unnoted = record { passes_as = passes_as; unnoted = no_notes h plain }
