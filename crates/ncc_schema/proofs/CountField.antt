-- The count field of a header, written again.
use Rattle.std.proofs.Common.{◌≡◌, ℕ, ◌+◌, ◌<◌, List, [], ◌∷◌, ◌++◌, length, take, drop, refl, sym, ap, ap₂, ◌∙◌, append_assoc, arith}
use Rattle.std.specs.Prelude.{zip}
use Rattle.std.proofs.Math.Seq.{take-append_seam, drop-append_seam, drop-append-add}
use Rattle.ncc_values.specs.BigEndian.{length-big_endian}
use Rattle.ncc_values.specs.Numbers.{big_endian}
use Rattle.ncc_values.specs.Version.{byte_of, count_width_of}
use Rattle.ncc_values.specs.declared.version.Version.{Version}
use Rattle.ncc_schema.specs.declared.schema.Schema.{Schema}
use Rattle.ncc_schema.specs.Header.{◌⨾◌, list, dim, attr, var, nc_dimension, nc_attribute, nc_variable, IsHeader, numrecs_word, with_count_field, canon, canon_attr, canon_dim, canon_list, canon_var}
use Rattle.ncc_schema.specs.Schema.{streaming_mark, with_count, Place, Legal, IsTyped}

-- three parts, of which the second is another
pub replaced : (head old new rest : List ℕ) (m w : ℕ) → m ≡ length head → w ≡ length old → head ++ (new ++ rest) ≡ take m (head ++ (old ++ rest)) ++ new ++ drop (m + w) (head ++ (old ++ rest))
replaced head old new rest m w long wide =
    let first = ap (λ (k : ℕ). take k (head ++ (old ++ rest))) long ∙ take-append_seam head (old ++ rest) in
    let last = ap₂ (λ (j k : ℕ). drop (j + k) (head ++ (old ++ rest))) long wide ∙ drop-append-add head (old ++ rest) (length old) ∙ drop-append_seam old rest in
    sym (append_assoc head new rest) ∙ ap₂ (λ (a b : List ℕ). a ++ new ++ b) (sym first) (sym last)

legal_counted : (s : Schema) (places : List Place) (n : ℕ) → n < streaming_mark s.version → Legal s places → Legal (with_count s n) places
legal_counted s places n less legal = record {
  sound = record {
    count = less;
    dims_number = legal.sound.dims_number;
    dims = legal.sound.dims;
    one_record_dim = legal.sound.one_record_dim;
    gatts_number = legal.sound.gatts_number;
    gatts = legal.sound.gatts;
    vars_number = legal.sound.vars_number;
    vars = legal.sound.vars;
  };
  number = legal.number;
  placed = legal.placed;
}

typed_counted : (s : Schema) (n : ℕ) → IsTyped s → IsTyped (with_count s n)
typed_counted s n typed = record { dims = typed.dims; gatts = typed.gatts; vars = typed.vars }

-- the letters and the version
abbrev pub start_of : Version → List ℕ
start_of v = 0x43 ∷ 0x44 ∷ 0x46 ∷ big_endian 1 (byte_of v)

-- what the count field held before
abbrev pub old_field : Schema → List ℕ
old_field s = big_endian (count_width_of s.version) (numrecs_word s.version s.count)

abbrev pub new_field : Schema → ℕ → List ℕ
new_field s n = big_endian (count_width_of s.version) n

-- a header is its start, its count field and its lists
pub record Parts (s : Schema) (places : List Place) (b : List ℕ) : Type 0 where
  pub lists : List ℕ
  pub joined : b ≡ start_of s.version ++ (old_field s ++ lists)
  pub spelled : (list s.version nc_dimension (dim s.version) s.dims ⨾ list s.version nc_attribute (attr s.version) s.gatts ⨾ list s.version nc_variable (var s.version) (zip s.vars places)) lists

pub parts_of : (s : Schema) (places : List Place) (b : List ℕ) → IsHeader s places b → Parts s places b
parts_of s places b h =
    let version = h.spelled.4 in
    let count = version.4 in
    record {
      lists = count.1;
      joined = h.spelled.2 ∙ ap₂ (λ (x y : List ℕ). x ++ y) h.spelled.3 (version.2 ∙ ap₂ (λ (x y : List ℕ). x ++ y) version.3 (count.2 ∙ ap (λ (x : List ℕ). x ++ count.1) count.3));
      spelled = count.4;
    }

-- whatever lies behind the count field
pub with_rest : (s : Schema) (n : ℕ) (b rest : List ℕ) → b ≡ start_of s.version ++ (old_field s ++ rest) → with_count_field s.version n b ≡ start_of s.version ++ (new_field s n ++ rest)
with_rest s n b rest joined =
    let long : 4 ≡ length (start_of s.version) = omega (arith, length-big_endian 1 (byte_of s.version)) in
    let wide : count_width_of s.version ≡ length (old_field s) = sym (length-big_endian (count_width_of s.version) (numrecs_word s.version s.count)) in
    ap (with_count_field s.version n) joined ∙ sym (replaced (start_of s.version) (old_field s) (new_field s n) rest 4 (count_width_of s.version) long wide)

pub rewritten : (s : Schema) (places : List Place) (b : List ℕ) (n : ℕ) → IsHeader s places b → n < streaming_mark s.version → IsHeader (with_count s n) places (with_count_field s.version n b)
rewritten s places b n h less =
    let parts = parts_of s places b h in
    let lists = parts.lists in
    record {
      legal = legal_counted s places n less h.legal;
      typed = typed_counted s n h.typed;
      spelled = (
        0x43 ∷ 0x44 ∷ 0x46 ∷ [],
        big_endian 1 (byte_of s.version) ++ (new_field s n ++ lists),
        with_rest s n b lists parts.joined,
        refl,
        (big_endian 1 (byte_of s.version), new_field s n ++ lists, refl, refl, (new_field s n, lists, refl, refl, parts.spelled)),
      );
    }

-- of the canonical spelling also where the schema isn't legal
pub canon_rewritten : (s : Schema) (places : List Place) (n : ℕ) → canon (with_count s n) places ≡ with_count_field s.version n (canon s places)
canon_rewritten s places n =
    let v = s.version in
    let lists = canon_list v nc_dimension (canon_dim v) s.dims ++ (canon_list v nc_attribute (canon_attr v) s.gatts ++ canon_list v nc_variable (canon_var v) (zip s.vars places)) in
    sym (with_rest s n (canon s places) lists refl)
