-- A header whose count field is written again shows the same marks and begin fields.
use Rattle.std.proofs.Common.{◌≡◌, ℕ, ◌+◌, List, [], ◌∷◌, ◌++◌, length, take, drop, None, refl, sym, ap, ◌∙◌, append_assoc}
use Rattle.std.specs.Prelude.{unwrap_or}
use Rattle.std.proofs.lemmas.List.{length-append}
use mathlib.Core.Path.{fun_ext}
use Rattle.ncc_values.specs.BigEndian.{length-big_endian}
use Rattle.ncc_values.specs.Numbers.{big_endian, number_of}
use Rattle.ncc_values.specs.Version.{byte_of, version_of, count_width_of}
use Rattle.ncc_values.specs.declared.version.Version.{Version}
use Rattle.ncc_values.specs.declared.version.Version.TheVariants.{V1, V2, V5}
use Rattle.ncc_schema.specs.declared.schema.Count.{Count}
use Rattle.ncc_schema.specs.declared.schema.Header.{Header}
use Rattle.ncc_schema.specs.declared.schema.Schema.{Schema}
use Rattle.ncc_schema.specs.Header.{IsHeader, numrecs_word, with_count_field}
use Rattle.ncc_schema.specs.Schema.{with_count, header_with_count, places_of}
use Rattle.ncc_schema.proofs.CountField.{start_of, old_field, new_field, Parts, parts_of, with_rest}
use Rattle.ncc_header.specs.Grammar.{Plain, Grammar, done, field, Field, fields, ◌>>=◌}
use Rattle.ncc_header.specs.Fields.{magic_wrong, version_wrong, list, dim, attrs, var, header, numrecs_of}
use Rattle.ncc_header.specs.Marks.{marks, begins, header_marks, header_begins}
use Rattle.ncc_header.specs.Answers.{Begins}
use Rattle.ncc_header.proofs.Exact.{◌then◌, flat}
use Rattle.ncc_header.proofs.FieldsLaws.{fields_first}
use Rattle.ncc_header.proofs.ExactHeader.{Whole, whole, lists}

-- the fields are the same, whatever is told of them
fields-into : {A B : Type 0} (g : Grammar A) (to : A → B) (at : ℕ) (b : List ℕ) → fields (g >>= λ a. done (to a)) at b ≡ fields g at b
unfolding fields
fields-into (done a) to at b = refl
fields-into (field label size wrong next) to at b =
    ap (λ (l : List Field). record { label = label; at = at; bytes = take size b } ∷ l) (fields-into (next (take size b)) to (at + size) (drop size b))

-- ---- what follows the count

abbrev behind_count : Version → Count → Grammar Whole
behind_count v c =
    list v 10 (dim v) >>= λ dims. attrs v >>= λ gatts. list v 11 (λ _. var v dims) >>= λ vars. done (whole (0, (v, (c, (dims, (gatts, vars))))))

behind_flat : (v : Version) (c : Count) → (lists v >>= λ x. done (whole (0, (v, (c, x))))) ≡ behind_count v c
behind_flat v c = flat (list v 10 (dim v)) (λ dims. attrs v then λ _. list v 11 (λ _. var v dims)) (λ x. done (whole (0, (v, (c, x)))))
    ∙ ap (λ q. list v 10 (dim v) >>= q) (fun_ext (λ dims. flat (attrs v) (λ _. list v 11 (λ _. var v dims)) (λ x. done (whole (0, (v, (c, (dims, x))))))))

behind_fields : (v : Version) (c : Count) (at : ℕ) (b : List ℕ) → fields (behind_count v c) at b ≡ fields (lists v) at b
behind_fields v c at b =
    ap (λ (g : Grammar Whole). fields g at b) (sym (behind_flat v c)) ∙ fields-into (lists v) (λ x. whole (0, (v, (c, x)))) at b

-- ---- the header

-- the version that its byte tells
told : (v : Version) → unwrap_or (version_of (number_of (big_endian 1 (byte_of v)))) V1 ≡ v
told V1 = refl
told V2 = refl
told V5 = refl

abbrev plain : (at : ℕ) → List ℕ → Field
plain at bytes = record { label = Plain; at = at; bytes = bytes }

abbrev from_count : Version → Grammar Whole
from_count v = field Plain (count_width_of v) (λ b. None) (λ b. behind_count v (numrecs_of v (number_of b)))

count_fields : (v : Version) (at : ℕ) (count rest : List ℕ) → length count ≡ count_width_of v → fields (from_count v) at (count ++ rest) ≡ plain at count ∷ fields (lists v) (at + count_width_of v) rest
count_fields v at count rest long =
    fields_first Plain (count_width_of v) (λ b. None) (λ b. behind_count v (numrecs_of v (number_of b))) at count rest long
    ∙ ap (λ (l : List Field). plain at count ∷ l) (behind_fields v (numrecs_of v (number_of count)) (at + count_width_of v) rest)

abbrev behind_letters : Grammar Whole
behind_letters = field Plain 1 (λ b. version_wrong (number_of b)) (λ b. from_count (unwrap_or (version_of (number_of b)) V1))

version_fields : (v : Version) (rest : List ℕ) → fields behind_letters 3 (big_endian 1 (byte_of v) ++ rest) ≡ plain 3 (big_endian 1 (byte_of v)) ∷ fields (from_count v) 4 rest
version_fields v rest =
    fields_first Plain 1 (λ b. version_wrong (number_of b)) (λ b. from_count (unwrap_or (version_of (number_of b)) V1)) 3 (big_endian 1 (byte_of v)) rest (length-big_endian 1 (byte_of v))
    ∙ ap (λ (u : Version). plain 3 (big_endian 1 (byte_of v)) ∷ fields (from_count u) 4 rest) (told v)

letters_first : (rest : List ℕ) → fields header 0 (0x43 ∷ 0x44 ∷ 0x46 ∷ rest) ≡ plain 0 (0x43 ∷ 0x44 ∷ 0x46 ∷ []) ∷ fields behind_letters 3 rest
letters_first rest = fields_first Plain 3 (λ b. magic_wrong (number_of b)) (λ b. behind_letters) 0 (0x43 ∷ 0x44 ∷ 0x46 ∷ []) rest refl

-- three plain fields, and those of the lists, whatever the count is
header_fields : (v : Version) (count rest : List ℕ) → length count ≡ count_width_of v
    → fields header 0 (start_of v ++ (count ++ rest)) ≡ plain 0 (0x43 ∷ 0x44 ∷ 0x46 ∷ []) ∷ plain 3 (big_endian 1 (byte_of v)) ∷ plain 4 count ∷ fields (lists v) (4 + count_width_of v) rest
header_fields v count rest long =
    letters_first (big_endian 1 (byte_of v) ++ (count ++ rest))
    ∙ ap (λ (l : List Field). plain 0 (0x43 ∷ 0x44 ∷ 0x46 ∷ []) ∷ l)
    (version_fields v (count ++ rest) ∙ ap (λ (l : List Field). plain 3 (big_endian 1 (byte_of v)) ∷ l) (count_fields v 4 count rest long))

-- ---- the count field written again

module _ (s : Schema) (n : ℕ) where
  abbrev v : Version
  v = s.version

  old_long : length (old_field s) ≡ count_width_of v
  old_long = length-big_endian (count_width_of v) (numrecs_word v s.count)

  new_long : length (new_field s n) ≡ count_width_of v
  new_long = length-big_endian (count_width_of v) n

  -- what the fields show, where plain ones show nothing
  same_shown : {A : Type 0} (shown : List Field → List A) → ((at : ℕ) (bytes : List ℕ) (l : List Field) → shown (plain at bytes ∷ l) ≡ shown l)
      → (rest : List ℕ) → shown (fields header 0 (start_of v ++ (old_field s ++ rest))) ≡ shown (fields header 0 (start_of v ++ (new_field s n ++ rest)))
  same_shown shown skips rest = of (old_field s) old_long ∙ sym (of (new_field s n) new_long)
    where
      of : (count : List ℕ) → length count ≡ count_width_of v → shown (fields header 0 (start_of v ++ (count ++ rest))) ≡ shown (fields (lists v) (4 + count_width_of v) rest)
      of count long =
          ap shown (header_fields v count rest long)
          ∙ skips 0 (0x43 ∷ 0x44 ∷ 0x46 ∷ []) (plain 3 (big_endian 1 (byte_of v)) ∷ plain 4 count ∷ fields (lists v) (4 + count_width_of v) rest)
          ∙ skips 3 (big_endian 1 (byte_of v)) (plain 4 count ∷ fields (lists v) (4 + count_width_of v) rest)
          ∙ skips 4 count (fields (lists v) (4 + count_width_of v) rest)

  module _ (b rest : List ℕ) (joined : b ≡ start_of v ++ (old_field s ++ rest)) where
    same_marks : header_marks b ≡ header_marks (with_count_field v n b)
    same_marks = ap header_marks joined ∙ same_shown marks (λ at bytes l. refl) rest ∙ ap header_marks (sym (with_rest s n b rest joined))

    same_begins : header_begins b ≡ header_begins (with_count_field v n b)
    same_begins = ap header_begins joined ∙ same_shown begins (λ at bytes l. refl) rest ∙ ap header_begins (sym (with_rest s n b rest joined))

    same_length : length (with_count_field v n b) ≡ length b
    same_length =
        ap length (with_rest s n b rest joined)
        ∙ length-append (start_of v) (new_field s n ++ rest)
        ∙ ap (λ (k : ℕ). length (start_of v) + k) (length-append (new_field s n) rest ∙ ap (λ (k : ℕ). k + length rest) (new_long ∙ sym old_long) ∙ sym (length-append (old_field s) rest))
        ∙ sym (length-append (start_of v) (old_field s ++ rest))
        ∙ ap length (sym joined)

    -- with more behind it
    joined_more : (more : List ℕ) → b ++ more ≡ start_of v ++ (old_field s ++ (rest ++ more))
    joined_more more =
        ap (λ (t : List ℕ). t ++ more) joined
        ∙ append_assoc (start_of v) (old_field s ++ rest) more
        ∙ ap (λ (t : List ℕ). start_of v ++ t) (append_assoc (old_field s) rest more)

    rewritten_front : (more : List ℕ) → with_count_field v n (b ++ more) ≡ with_count_field v n b ++ more
    rewritten_front more =
        with_rest s n (b ++ more) (rest ++ more) (joined_more more)
        ∙ ap (λ (t : List ℕ). start_of v ++ t) (sym (append_assoc (new_field s n) rest more))
        ∙ sym (append_assoc (start_of v) (new_field s n ++ rest) more)
        ∙ ap (λ (t : List ℕ). t ++ more) (sym (with_rest s n b rest joined))

module _ (input : List ℕ) (limit : ℕ) (h : Header) (n : ℕ) (b : Begins input limit h) where
  parts : Parts h.schema (places_of h.places) b.front
  parts = parts_of h.schema (places_of h.places) b.front b.is_header

  pub recounted : IsHeader (with_count h.schema n) (places_of h.places) (with_count_field h.schema.version n b.front) → Begins (with_count_field h.schema.version n input) limit (header_with_count h n)
  recounted is = record {
    front = with_count_field h.schema.version n b.front;
    rest = b.rest;
    joined = ap (with_count_field h.schema.version n) b.joined ∙ rewritten_front h.schema n b.front parts.lists parts.joined b.rest;
    is_header = is;
    begins = b.begins ∙ same_begins h.schema n b.front parts.lists parts.joined;
    marks = b.marks ∙ same_marks h.schema n b.front parts.lists parts.joined;
    long = b.long ∙ sym (same_length h.schema n b.front parts.lists parts.joined);
    within = b.within;
  }

  pub as_long : length (with_count_field h.schema.version n input) ≡ length input
  as_long =
      same_length h.schema n input (parts.lists ++ b.rest) (b.joined ∙ joined_more h.schema n b.front parts.lists parts.joined b.rest)
