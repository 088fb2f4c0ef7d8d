-- Nothing is noted of a header of a schema that was built, canonical and with the standard placement.
use Rattle.std.proofs.Common.{◌≡◌, ℕ, zero, suc, ◌%◌, ◌<◌, ◌≤◌, List, [], ◌∷◌, map, length, get_or, refl, ap, subst, ◌∙◌, arith, inl, inr}
use Rattle.std.specs.Prelude.{Contains}
use Rattle.std.specs.List.{AllByRecursion}
use Rattle.ncc_schema.specs.declared.schema.Count.{Count}
use Rattle.ncc_schema.specs.declared.schema.Count.TheVariants.{Known, Streaming}
use Rattle.ncc_schema.specs.declared.schema.Dim.{Dim}
use Rattle.ncc_schema.specs.declared.schema.Header.{Header}
use Rattle.ncc_schema.specs.declared.schema.Mark.{Mark}
use Rattle.ncc_schema.specs.declared.schema.Mark.TheVariants as marks
use Rattle.ncc_schema.specs.declared.schema.Schema.{Schema}
use Rattle.ncc_schema.specs.declared.schema.Var.{Var}
use Rattle.ncc_schema.specs.declared.schema.VarPlace.{VarPlace}
use Rattle.ncc_schema.specs.Schema.{count_limit, lengths, Place, places_of}
use Rattle.ncc_layout.specs.Extents.{extents_from, NumberedFrom}
use Rattle.ncc_layout.specs.Sizes.{rounded}
use Rattle.ncc_layout.specs.Standard.{vsize_word, standard_from, standard_places, AreInTurn, AreAligned}
use Rattle.ncc_layout.specs.Plans.{known}
use Rattle.ncc_build.specs.Building.{HasNames, HasLengths}
use Rattle.ncc_check.specs.declared.note.NoteKind.{NoteKind}
use Rattle.ncc_check.specs.declared.note.NoteKind.TheVariants.{VsizeField, HeaderPadding, TaggedEmpty, NameRule, DuplicateName, UnalignedBegin, Order, LargeCount}
use Rattle.ncc_check.specs.Notes.{vsize_words, vsizes, extents_in, HasLargeCount, IsDue, AreNotes}
use Rattle.ncc_write.proofs.NamesKept.{name_fits, name_differs}
use Rattle.ncc_write.proofs.BeginsInOrder.{later_begins_later, each_of}

-- ---- parts

no_item : {A : Type 0} (a : A) → Contains [] a → ⊥
no_item a (k, below, is) = omega (arith, below)

sizes_of_places : (places : List VarPlace) → vsizes places ≡ map (λ p. p.vsize) (places_of places)
sizes_of_places [] = refl
sizes_of_places (p ∷ places) = ap (λ (l : List ℕ). p.vsize ∷ l) (sizes_of_places places)

standard_sizes : (s : Schema) (n : ℕ) (vars : List Var)
    → map (λ p. p.vsize) (standard_from s n vars) ≡ map (λ x. vsize_word s.version (rounded s.dims x)) vars
standard_sizes s n [] = refl
standard_sizes s n (x ∷ vars) = ap (λ (l : List ℕ). vsize_word s.version (rounded s.dims x) ∷ l)
    (standard_sizes s (suc n) vars)

numbered : (dims : List Dim) (n : ℕ) (vars : List Var) (places : List Place)
    → NumberedFrom n (extents_from dims n vars places)
numbered dims n [] places = tt
numbered dims n (x ∷ vars) [] = tt
numbered dims n (x ∷ vars) (p ∷ places) = (refl, numbered dims (suc n) vars places)

not_large : (s : Schema) (c : Count) → known c < count_limit s.version → HasLargeCount s c → ⊥
not_large s (Known n) small large = omega (arith, small, large)
not_large s Streaming small large = large

length_small : (limit : ℕ) (dims : List Dim) (i : ℕ) → AllByRecursion (λ d. d.length < limit) dims → i < length dims
    → get_or (lengths dims) i 0 < limit
length_small limit [] i all below = absurd (omega (arith, below))
length_small limit (d ∷ dims) zero all below = all.0
length_small limit (d ∷ dims) (suc i) all below = length_small limit dims i all.1 (omega (arith, below))

-- ---- all of a header

-- what holds of a header of a schema that was built
pub record IsPlain (h : Header) : Type 0 where
  pub marks : h.marks ≡ []
  pub places : places_of h.places ≡ standard_places h.schema
  pub names : HasNames h.schema
  pub lengths_small : HasLengths h.schema
  pub count : known h.schema.count < count_limit h.schema.version
  pub aligned : AreAligned (extents_in h)
  pub in_turn : AreInTurn (extents_in h)

nothing_due : (h : Header) → IsPlain h → (kind : NoteKind) (offset : ℕ) → IsDue h kind offset → ⊥
nothing_due h plain VsizeField offset due =
    let words : vsizes h.places ≡ vsize_words h.schema = sizes_of_places h.places
    ∙ ap (map (λ (p : Place). p.vsize)) plain.places ∙ standard_sizes h.schema 0 h.schema.vars in
    due.other (ap (λ (l : List ℕ). get_or l due.number 0) words)
nothing_due h plain HeaderPadding offset due = no_item (marks.Padding offset)
    (subst (λ (l : List Mark). Contains l (marks.Padding offset)) plain.marks due)
nothing_due h plain TaggedEmpty offset due = no_item (marks.TaggedEmpty offset)
    (subst (λ (l : List Mark). Contains l (marks.TaggedEmpty offset)) plain.marks due)
nothing_due h plain NameRule offset due = due.bad (name_fits h.schema due.named plain.names due.there)
nothing_due h plain DuplicateName offset due = name_differs h.schema due.earlier due.later plain.names
    due.later_there due.ordered due.same
nothing_due h plain UnalignedBegin offset due = due.unaligned
    (each_of (λ e. e.begin % 4 ≡ 0) (extents_in h) due.extent plain.aligned due.there)
nothing_due h plain Order offset due =
    let le : due.earlier.begin ≤ due.later.begin = later_begins_later 0 (extents_in h)
    (numbered h.schema.dims 0 h.schema.vars (places_of h.places)) plain.in_turn due.earlier due.later
    due.earlier_there due.later_there due.ordered due.kind in
    omega (arith, le, due.swapped)
nothing_due h plain LargeCount offset (inl due) = not_large h.schema h.schema.count plain.count due.0
nothing_due h plain LargeCount offset (inr due) =
    let small = length_small (count_limit h.schema.version) h.schema.dims due.number plain.lengths_small due.there in
    omega (arith, small, due.large)

pub no_notes : (h : Header) → IsPlain h → AreNotes h []
no_notes h plain = record {
  due = λ n there. absurd (no_item n there);
  all = λ kind offset due. absurd (nothing_due h plain kind offset due);
  ordered = tt;
}
