-- The byte that a decoder takes next is in the part that is told, in every header that begins with the bytes it took.
use Rattle.std.proofs.Common.{◌≡◌, ℕ, ◌+◌, ◌<◌, List, ◌++◌, length, Option, Some, None, refl, sym, ap, ◌∙◌, arith}
use Rattle.ncc_schema.specs.declared.schema.Header.{Header}
use Rattle.ncc_schema.specs.Names.{header_length, no_place, unplaced}
use Rattle.ncc_schema.specs.Schema.{places_of}
use Rattle.ncc_schema.proofs.Sizes.{length-canon}
use Rattle.std.proofs.lemmas.List.{length-map}
use Rattle.ncc_header.specs.declared.reading.Reading.{Reading}
use Rattle.ncc_header.specs.Answers.{Begins}
use Rattle.ncc_header.specs.Fields.{header}
use Rattle.ncc_header.specs.Grammar.{Grammar, done, field, reads, read}
use Rattle.ncc_header.specs.Left.{Given}
use Rattle.ncc_header.specs.Reading.{Course, held_of, next_of}
use Rattle.ncc_header.specs.State.{HasTaken}
use Rattle.ncc_header.specs.Steps.{size_of}
use Rattle.ncc_header.proofs.GrammarLaws.{spelled-is_read}
use Rattle.ncc_header.proofs.HeaderLaws.{fields_spell, length_is_canonical}
use Rattle.ncc_header.specs.Awaited.{AreNamesOf, next_names, next_part}
use Rattle.ncc_parts.specs.Parts.{part_at, parts_of}
use Rattle.ncc_parts.proofs.Awaited.{InPart, located}
use Rattle.ncc_parts.proofs.AwaitedNames.{names_known}
use Rattle.ncc_parts.proofs.Runs.{of_read}

-- what is left to read gives the header
left_reads : (r : Reading) (taken more : List ℕ) (h : Header) → HasTaken r taken → (b : Begins (taken ++ more) r.limit h)
    → read (next_of r) r.limit r.at (held_of r ++ more) ≡ reads (h.schema, places_of h.places) (0 + length b.front) b.rest
left_reads r taken more h t b =
    let spelled = fields_spell h.schema (places_of h.places) b.front b.is_header in
    sym (ap (λ (c : Course). c.outcome) (t.goes_on more))
    ∙ ap (read header r.limit 0) b.joined
    ∙ spelled-is_read header (h.schema, places_of h.places) b.front b.rest r.limit 0 spelled (omega (arith, b.long, b.within))

-- where no field is left nothing more is read
ends_there : (g : Grammar Given) (limit at : ℕ) (input : List ℕ) (x : Given) (end : ℕ) (rest : List ℕ) → size_of g ≡ None → read g limit at input ≡ reads x end rest → at ≡ end
unfolding read
ends_there (done y) limit at input x end rest none e = cc
ends_there (field label size wrong next) limit at input x end rest none e = absurd cc

-- a header is as long whatever the places
as_long : (h : Header) (input : List ℕ) (limit : ℕ) → Begins input limit h → h.length ≡ header_length h.schema
as_long h input limit b =
    let s = h.schema in
    length_is_canonical input limit h b
    ∙ length-canon s (places_of h.places) b.is_header.legal.number
    ∙ sym (length-canon s (unplaced s.vars) (length-map s.vars (λ x. no_place)))

pub in_next_part : (r : Reading) (taken more : List ℕ) (h : Header) → HasTaken r taken → Begins (taken ++ more) r.limit h → length taken < h.length
    → part_at (length taken) (parts_of h.schema) ≡ next_part r.next r.partial.lists
in_next_part r taken more h t b lt = by_size (size_of (next_of r)) refl
  where
    by_size : (size : Option ℕ) → size_of (next_of r) ≡ size → part_at (length taken) (parts_of h.schema) ≡ next_part r.next r.partial.lists
    by_size None e =
        let ended = ends_there (next_of r) r.limit r.at (held_of r ++ more) (h.schema, places_of h.places) (0 + length b.front) b.rest e (left_reads r taken more h t b) in
        absurd (omega (arith, ended, lt, b.long, t.long))
    by_size (Some n) e =
        let l = located r.next r.partial n e in
        let w = of_read (next_of r) r.limit r.at l.into (held_of r ++ more) (h.schema, places_of h.places) (0 + length b.front) b.rest (InPart l.part (l.into + n)) l.runs (left_reads r taken more h t b) in
        let at : w.1.start + l.into ≡ r.at = omega (arith, w.0, w.1.total, as_long h (taken ++ more) r.limit b, b.long) in
        let place : length taken ≡ w.1.start + (l.into + length (held_of r)) = omega (arith, at, t.long) in
        ap (λ k. part_at k (parts_of h.schema)) place
        ∙ w.1.is_in (l.into + length (held_of r)) (omega (arith, t.still_short n e))
        ∙ sym l.told

pub names_of_next : (r : Reading) (taken more : List ℕ) (h : Header) → HasTaken r taken → Begins (taken ++ more) r.limit h → AreNamesOf h.schema (next_names r.next r.partial)
names_of_next r taken more h t b =
    (of_read (next_of r) r.limit r.at 0 (held_of r ++ more) (h.schema, places_of h.places) (0 + length b.front) b.rest (λ x m. AreNamesOf x.0 (next_names r.next r.partial)) (names_known r.next r.partial 0) (left_reads r taken more h t b)).1
