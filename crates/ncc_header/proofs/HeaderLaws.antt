-- The laws of headers.
use Rattle.std.proofs.Common.{◌≡◌, ◌≢◌, ℕ, ◌≤◌, List, [], ◌∷◌, ◌++◌, length, map, refl, sym, ap, subst, ◌∙◌, arith, ◌⊎◌, inl, inr}
use Rattle.std.proofs.lemmas.List.{append_cancel_right, append-nil}
use Rattle.ncc_values.specs.Numbers.{IsBytes}
use Rattle.ncc_header.specs.declared.fault.Fault.{Fault}
use Rattle.ncc_header.specs.declared.fault.FaultKind.TheVariants.{EndsEarly}
use Rattle.ncc_schema.specs.declared.schema.VarPlace.{VarPlace}
use Rattle.ncc_schema.specs.declared.schema.Schema.{Schema}
use Rattle.ncc_schema.specs.declared.schema.Header.{Header}
use Rattle.ncc_header.specs.Grammar.{Spells, reads, read}
use Rattle.ncc_schema.specs.Schema.{Place, place_of, places_of}
use Rattle.ncc_schema.specs.Header.{IsHeader, canon}
use Rattle.ncc_schema.proofs.CanonicalLength.{canonical_length}
use Rattle.ncc_header.specs.Fields.{header}
use Rattle.ncc_header.specs.Marks.{header_marks, header_begins}
use Rattle.ncc_header.specs.Answers.{Begins, Stops}
use Rattle.ncc_header.proofs.GrammarLaws.{one_spelling, read-is_spelled, begins_or_stops, not_both, one_stop, stop_stays, limit_covers}
use Rattle.ncc_header.proofs.ExactHeader.{exact_header}
use Rattle.ncc_header.proofs.BeginFields.{length-header_begins}

-- the fields of a header spell it, and what they spell is a header
pub fields_spell : (s : Schema) (places : List Place) (b : List ℕ) → IsHeader s places b → Spells header (s, places) b
fields_spell s places b h = exact_header.gives (s, places) b (h.legal, h.typed) h.spelled

pub spelled_by_fields : (s : Schema) (places : List Place) (b : List ℕ) → Spells header (s, places) b → IsHeader s places b
spelled_by_fields s places b h = let e = exact_header.takes (s, places) b h in record { legal = e.0.0; typed = e.0.1; spelled = e.1 }

pub one_header : (s t : Schema) (p q : List Place) (b c x y : List ℕ) → IsHeader s p b → IsHeader t q c → b ++ x ≡ c ++ y → (b ≡ c) × (s ≡ t) × (p ≡ q)
one_header s t p q b c x y h k e =
    let one = one_spelling header (s, p) (t, q) b c x y (fields_spell s p b h) (fields_spell t q c k) e in
    (one.1, ap (λ (w : Schema × List Place). w.0) one.0, ap (λ (w : Schema × List Place). w.1) one.0)

-- ---- places, and where their begin fields are

pub placed : List Place → List ℕ → List VarPlace
placed [] begins = []
placed (p ∷ places) [] = []
placed (p ∷ places) (n ∷ begins) = record { vsize = p.vsize; begin = p.begin; begin_at = n } ∷ placed places begins

pub places_of-placed : (places : List Place) (begins : List ℕ) → length begins ≡ length places → places_of (placed places begins) ≡ places
unfolding placed
places_of-placed [] begins e = refl
places_of-placed (p ∷ places) [] e = absurd (omega (arith, e))
places_of-placed (p ∷ places) (n ∷ begins) e = ap (λ (rest : List Place). p ∷ rest) (places_of-placed places begins (omega (arith, e)))

begins-placed : (places : List Place) (begins : List ℕ) → length begins ≡ length places → map (λ p. p.begin_at) (placed places begins) ≡ begins
unfolding placed
begins-placed [] [] e = refl
begins-placed [] (n ∷ begins) e = absurd (omega (arith, e))
begins-placed (p ∷ places) [] e = absurd (omega (arith, e))
begins-placed (p ∷ places) (n ∷ begins) e = ap (λ (rest : List ℕ). n ∷ rest) (begins-placed places begins (omega (arith, e)))

same_places : (p q : List VarPlace) → places_of p ≡ places_of q → map (λ x. x.begin_at) p ≡ map (λ x. x.begin_at) q → p ≡ q
same_places [] [] places begins = refl
same_places [] (y ∷ q) places begins = absurd cc
same_places (x ∷ p) [] places begins = absurd cc
same_places (x ∷ p) (y ∷ q) places begins =
    let place : place_of x ≡ place_of y = cc in
    let at : x.begin_at ≡ y.begin_at = cc in
    let rest : p ≡ q = same_places p q (cc) (cc) in
    λ i. record { vsize = (place i).vsize; begin = (place i).begin; begin_at = at i } ∷ rest i

-- ---- a header or one stop

pub header_is : Schema → List Place → (b : List ℕ) → Header
header_is s places b = record { schema = s; places = placed places (header_begins b); length = length b; marks = header_marks b }

begins_with : (s : Schema) (places : List Place) (front rest input : List ℕ) (limit : ℕ) → input ≡ front ++ rest → IsHeader s places front → length front ≤ limit → Begins input limit (header_is s places front)
unfolding header_is
begins_with s places front rest input limit joined is within =
    let number : length (header_begins front) ≡ length places = length-header_begins s places front (fields_spell s places front is) in
    record {
      front = front;
      rest = rest;
      joined = joined;
      is_header = subst (λ (p : List Place). IsHeader s p front) (sym (places_of-placed places (header_begins front) number)) is;
      begins = begins-placed places (header_begins front) number;
      marks = refl;
      long = refl;
      within = within;
    }

pub whole_begins : (bytes : List ℕ) (limit : ℕ) (s : Schema) (places : List Place) → IsHeader s places bytes → length bytes ≤ limit → (h : Header) × Begins bytes limit h
whole_begins bytes limit s places is within = (header_is s places bytes, begins_with s places bytes [] bytes limit (sym (append-nil bytes)) is within)

-- each front that is a header is what the input begins with
pub begun : (s : Schema) (places : List Place) (front rest : List ℕ) (limit : ℕ) → IsHeader s places front → length front ≤ limit → (h : Header) × Begins (front ++ rest) limit h × (h.schema ≡ s) × (places_of h.places ≡ places)
unfolding header_is
begun s places front rest limit is within =
    let number : length (header_begins front) ≡ length places = length-header_begins s places front (fields_spell s places front is) in
    (header_is s places front, begins_with s places front rest (front ++ rest) limit refl is within, refl, places_of-placed places (header_begins front) number)

pub length_is_canonical : (input : List ℕ) (limit : ℕ) (h : Header) → Begins input limit h → h.length ≡ length (canon h.schema (places_of h.places))
length_is_canonical input limit h b = b.long ∙ canonical_length h.schema (places_of h.places) b.front b.is_header

pub either : (input : List ℕ) (limit : ℕ) → IsBytes input → ((h : Header) × Begins input limit h) ⊎ ((f : Fault) × Stops input limit f)
either input limit bytes = elim (begins_or_stops header input limit bytes) [
  | inl h ↦ inl (header_is h.0.0 h.0.1 h.1, begins_with h.0.0 h.0.1 h.1 h.2 input limit h.3 (spelled_by_fields h.0.0 h.0.1 h.1 h.4) h.5)
  | inr stop ↦ inr (record { kind = stop.1; offset = stop.0 }, stop.2)
]

pub apart : (input : List ℕ) (limit : ℕ) (h : Header) (f : Fault) → Begins input limit h → Stops input limit f → ⊥
apart input limit h f b stop =
    not_both header input limit f.offset f.kind ((h.schema, places_of h.places), b.front, b.rest, b.joined, fields_spell h.schema (places_of h.places) b.front b.is_header, omega (arith, b.long, b.within)) stop

pub one_fault : (input : List ℕ) (limit : ℕ) (f g : Fault) → Stops input limit f → Stops input limit g → f ≡ g
one_fault input limit f g s t =
    let one = one_stop header input limit f.offset g.offset f.kind g.kind s t in
    λ i. record { kind = one.1 i; offset = one.0 i }

pub header_stop_stays : (input more : List ℕ) (limit : ℕ) (f : Fault) → Stops input limit f → f.kind ≢ EndsEarly → Stops (input ++ more) limit f
header_stop_stays input more limit f stop other = stop_stays header limit 0 input more f.offset f.kind other stop

pub header_limit_covers : (input more : List ℕ) (limit : ℕ) (f : Fault) → Stops input limit f → limit ≤ length input → Stops (input ++ more) limit f
header_limit_covers input more limit f stop covered = limit_covers header limit 0 input more f.offset f.kind (omega (arith, covered)) stop

pub one_begins : (input : List ℕ) (limit : ℕ) (h k : Header) → Begins input limit h → Begins input limit k → h ≡ k
one_begins input limit h k b c =
    let one = one_header h.schema k.schema (places_of h.places) (places_of k.places) b.front c.front b.rest c.rest b.is_header c.is_header (sym b.joined ∙ c.joined) in
    let long : h.length ≡ k.length = b.long ∙ ap length one.0 ∙ sym c.long in
    let places : h.places ≡ k.places = same_places h.places k.places one.2 (b.begins ∙ ap header_begins one.0 ∙ sym c.begins) in
    let marks : h.marks ≡ k.marks = b.marks ∙ ap header_marks one.0 ∙ sym c.marks in
    λ i. record { schema = one.1 i; places = places i; length = long i; marks = marks i }

-- what was read of an input is the header that it begins with
pub begins_with_read : (taken more : List ℕ) (limit at : ℕ) (x : Schema × List Place) → IsBytes (taken ++ more) → at ≡ length taken → read header limit 0 (taken ++ more) ≡ reads x at more → IsHeader x.0 x.1 taken × (at ≤ limit)
begins_with_read taken more limit at x bytes long e =
    let r = read-is_spelled header limit 0 (taken ++ more) x at more bytes e in
    let same : taken ≡ r.0 = append_cancel_right taken r.0 more r.1 in
    (subst (λ (b : List ℕ). IsHeader x.0 x.1 b) (sym same) (spelled_by_fields x.0 x.1 r.0 r.2), r.4 (omega arith))
