-- A header without notes on its spelling is canonical.
use Rattle.std.proofs.Common.{◌≡◌, ◌≢◌, ℕ, zero, suc, ◌<◌, List, [], ◌∷◌, length, get_or, sym, ap, ◌∙◌, arith, refl}
use Rattle.std.specs.Prelude.{Contains}
use Rattle.std.proofs.lemmas.List.{length-map}
use Rattle.ncc_schema.specs.declared.schema.Header.{Header}
use Rattle.ncc_schema.specs.declared.schema.Mark.{Mark}
use Rattle.ncc_schema.specs.declared.schema.Mark.TheVariants as marks
use Rattle.ncc_schema.specs.declared.schema.Schema.{Schema}
use Rattle.ncc_schema.specs.declared.schema.VarPlace.{VarPlace}
use Rattle.ncc_schema.specs.Header.{IsHeader, canon}
use Rattle.ncc_schema.specs.Schema.{Place, place_of, places_of}
use Rattle.ncc_header.specs.Answers.{Begins}
use Rattle.ncc_header.specs.Marks.{header_marks}
use Rattle.ncc_layout.specs.Sizes.{rounded}
use Rattle.ncc_layout.specs.Standard.{vsize_word}
use Rattle.ncc_check.specs.declared.note.NoteKind.TheVariants.{VsizeField, HeaderPadding, TaggedEmpty}
use Rattle.ncc_check.specs.Notes.{IsDue, vsize_words, vsizes, vsize_field, with_words}

unmarked : (ms : List Mark) → ((n : ℕ) → ¬ Contains ms (marks.Padding n)) → ((n : ℕ) → ¬ Contains ms (marks.TaggedEmpty n)) → ms ≡ []
unmarked [] p t = refl
unmarked (marks.Padding n ∷ ms) p t = absurd (p n (0, omega arith, refl))
unmarked (marks.TaggedEmpty n ∷ ms) p t = absurd (t n (0, omega arith, refl))

not_other : (a b : ℕ) → ¬ (a ≢ b) → a ≡ b
not_other zero zero h = refl
not_other zero (suc b) h = absurd (h (λ e. omega (arith, e)))
not_other (suc a) zero h = absurd (h (λ e. omega (arith, e)))
not_other (suc a) (suc b) h = ap suc (not_other a b (λ other. h (λ e. other (omega (arith, e)))))

-- places whose words are these
worded : (words : List ℕ) (places : List VarPlace) → length words ≡ length places → ((n : ℕ) → n < length words → ¬ (get_or (vsizes places) n 0 ≢ get_or words n 0)) → with_words words (places_of places) ≡ places_of places
worded [] [] long same = refl
worded [] (p ∷ places) long same = absurd (omega (arith, long))
worded (w ∷ words) [] long same = absurd (omega (arith, long))
worded (w ∷ words) (p ∷ places) long same =
    let word : p.vsize ≡ w = not_other p.vsize w (same 0 (omega arith)) in
    let rest : with_words words (places_of places) ≡ places_of places = worded words places (omega (arith, long)) (λ n below. same (suc n) (omega (arith, below))) in
    λ i. record { vsize = sym word i; begin = p.begin } ∷ rest i

pub canonical : ((s : Schema) (places : List Place) (b : List ℕ) → IsHeader s places b → header_marks b ≡ [] → b ≡ canon s places) → (bytes : List ℕ) (limit : ℕ) (h : Header) (b : Begins bytes limit h) → ((offset : ℕ) → ¬ IsDue h VsizeField offset) → ((offset : ℕ) → ¬ IsDue h HeaderPadding offset) → ((offset : ℕ) → ¬ IsDue h TaggedEmpty offset) → b.front ≡ canon h.schema (with_words (vsize_words h.schema) (places_of h.places))
canonical law bytes limit h b size padding tag =
    let plain : header_marks b.front ≡ [] = sym b.marks ∙ unmarked h.marks padding tag in
    let long : length (vsize_words h.schema) ≡ length h.places =
    length-map h.schema.vars (λ x. vsize_word h.schema.version (rounded h.schema.dims x)) ∙ sym b.is_header.legal.number ∙ length-map h.places place_of in
    let words : with_words (vsize_words h.schema) (places_of h.places) ≡ places_of h.places =
    worded (vsize_words h.schema) h.places long (λ n below other. size (vsize_field h n) (record { number = n; there = omega (arith, below, length-map h.schema.vars (λ x. vsize_word h.schema.version (rounded h.schema.dims x))); other = other; at = refl })) in
    law h.schema (places_of h.places) b.front b.is_header plain ∙ ap (canon h.schema) (sym words)
