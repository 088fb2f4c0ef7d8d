-- An open file that has one more record.
use Rattle.std.proofs.Common.{◌≡◌, ℕ, ◌+◌, ◌*◌, ◌<◌, ◌≤◌, Bool, false, List, length, sym, ap, ap₂, subst, ◌∙◌, arith}
use Rattle.std.specs.Prelude.{IsTrue}
use Rattle.ncc_values.specs.Version.{count_width_of}
use Rattle.ncc_values.specs.declared.version.Version.{Version}
use Rattle.ncc_schema.specs.declared.schema.Count.TheVariants.{Known}
use Rattle.ncc_schema.specs.declared.schema.Header.{Header}
use Rattle.ncc_schema.specs.declared.schema.Schema.{Schema}
use Rattle.ncc_schema.specs.Header.{with_count_field}
use Rattle.ncc_schema.specs.Schema.{Place, header_with_count, places_of, streaming_mark, with_count}
use Rattle.ncc_header.specs.Answers.{Begins}
use Rattle.ncc_layout.specs.declared.placed_file.Placed.{Placed}
use Rattle.ncc_layout.specs.Extents.{extents_of}
use Rattle.ncc_layout.specs.Placed.{HasOneMore, Holds, KeepsRules, file_length_of, record_size_of_file, records_of_file}
use Rattle.ncc_layout.specs.Plans.{IsKnown}
use Rattle.ncc_layout.specs.Sizes.{record_size_of}
use Rattle.ncc_check.specs.Appending.{IsNext, TakesRecord, count_field, next_record_at, staged, with_record}
use Rattle.ncc_check.specs.Checks.{StandsIn}
use Rattle.ncc_check.specs.Told.{tells_header}
use Rattle.ncc_check.proofs.Appendable.{behind_header}
use Rattle.ncc_check.proofs.Appended.{appended_long, below_mark, field_long, field_written, known_count, staged_begins}

pub record Laws : Type 0 where
  pub begun : (input : List ℕ) (limit : ℕ) (h : Header) (n : ℕ) → Begins input limit h → n < streaming_mark h.schema.version
      → Begins (with_count_field h.schema.version n input) limit (header_with_count h n)
  pub placed : (s : Schema) (places : List Place) (header file more n : ℕ) (p q : Placed) → s.count ≡ Known n → Holds s places header file p
      → HasOneMore p more q → Holds (with_count s (n + 1)) places header more q

pub told_by : (tells failed : Bool) → failed ≡ false → IsTrue (tells_header tells failed) → IsTrue tells
told_by tells failed is told = subst (λ (b : Bool). IsTrue (tells_header tells b)) is told

module _ (laws : Laws) (s : Schema) (p q : Placed) (image : List ℕ) (count place more : ℕ) (next : IsNext s.version p count place more)
    (takes : TakesRecord s p) (keeps : KeepsRules p) (long : length image ≡ record_size_of_file p) (grown : HasOneMore p more q) where
  -- the bytes are as many as the file is long
  pub long_enough : (old new : List ℕ) → file_length_of p ≡ length old → 4 + count_width_of s.version ≤ length old → new ≡ with_record old s p image → file_length_of q ≡ length new
  long_enough old new same inside is =
      let sum : (records_of_file p + 1) * record_size_of_file p ≡ records_of_file p * record_size_of_file p + record_size_of_file p = omega arith in
      omega (
        arith,
        grown.length_is,
        next.length_is,
        ap length is,
        appended_long old (next_record_at p) image 4 (count_field s.version (records_of_file p + 1)) (omega (arith, inside, field_long s.version (records_of_file p + 1))),
        same,
        sum,
        long,
      )

  -- the header of the bytes is that with one more record
  pub stands_with : (told : Bool) (old new : List ℕ) → 4 + count_width_of s.version ≤ file_length_of p → (IsTrue told → new ≡ with_record old s p image) → StandsIn told old s p
      → StandsIn told new (with_count s count) q
  stands_with told old new inside is st =
      let h = st.header in
      let t = h.schema in
      let version : s.version ≡ t.version = ap (λ (u : Schema). u.version) st.schema_is in
      let less : count < streaming_mark t.version = subst (λ (v : Version). count < streaming_mark v) version (below_mark s.version (records_of_file p) count next.counts) in
      let counted : IsKnown t.count = subst (λ (u : Schema). IsKnown u.count) st.schema_is takes.counted in
      let known : t.count ≡ Known (records_of_file p) =
      known_count t.count (record_size_of t) (file_length_of p) (extents_of t (places_of h.places)) (records_of_file p) counted st.placed_is.records_are in
      let holds = laws.placed t (places_of h.places) h.length (file_length_of p) more (records_of_file p) p q known st.placed_is grown in
      let before : h.length ≤ next_record_at p = omega (arith, st.placed_is.header_is, behind_header p keeps takes.some) in
      let field = λ (bytes : List ℕ). field_written s.version (records_of_file p + 1) bytes
      ∙ ap₂ (λ (v : Version) (n : ℕ). with_count_field v n bytes) version (sym next.count_is) in
      record {
        header = header_with_count h count;
        begun = (with_count_field t.version count st.begun.0, st.begun.1, laws.begun st.begun.0 st.begun.1 h count st.begun.2 less);
        schema_is = ap (λ (u : Schema). with_count u count) st.schema_is;
        placed_is = subst (λ (n : ℕ). Holds (with_count t n) (places_of h.places) h.length (file_length_of q) q) (sym next.count_is)
            (subst (λ (m : ℕ). Holds (with_count t (records_of_file p + 1)) (places_of h.places) h.length m q) (sym grown.length_is) holds);
        begins = λ yes.
            let b = st.begins yes in
            let bytes = staged old (next_record_at p) image in (
              b.0,
              subst (λ (l : List ℕ). Begins l b.0 (header_with_count h count)) (sym (is yes ∙ field bytes))
                  (laws.begun bytes b.0 h count (staged_begins old (next_record_at p) image b.0 h before b.1) less),
            );
        length_is = λ yes. long_enough old new (st.length_is yes) (omega (arith, inside, st.length_is yes)) (is yes);
      }
