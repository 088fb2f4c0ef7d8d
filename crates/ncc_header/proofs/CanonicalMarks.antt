-- The canonical spelling has no marks: one lemma for each way of making grammars, one line for each rule.
use Rattle.std.proofs.Common.{◌≡◌, ℕ, zero, suc, ◌+◌, ◌-◌, ◌*◌, ◌^◌, ◌<◌, Bool, true, false, List, [], ◌∷◌, ◌++◌, length, take, drop, Option, None, refl, sym, ap, ap₂, subst, ◌∙◌, append_assoc, append-nil, length-append, arith}
use Rattle.std.specs.List.{flat_map}
use Rattle.std.specs.Prelude.{◌==◌, if◌then◌else◌}
use Rattle.std.proofs.lemmas.Bool.{eqb-true, and_parts, false_from_ne_true}
use Rattle.std.proofs.lemmas.List.{take_at, drop_at, take_all, length-replicate, append_cancel_left}
use Rattle.std.proofs.lemmas.List.Concat.{flat_map-append}
use Rattle.ncc_values.specs.BigEndian.{length-big_endian, number_of-big_endian}
use Rattle.ncc_values.specs.Numbers.{big_endian, number_onto, number_of}
use Rattle.ncc_values.specs.Padding.{padding_of}
use Rattle.ncc_values.specs.Values.{type_of, count_of}
use Rattle.ncc_values.specs.Version.{count_width_of, offset_width_of}
use Rattle.ncc_values.specs.XType.{size_of}
use Rattle.ncc_values.specs.declared.version.Version.{Version}
use Rattle.ncc_values.specs.declared.xtype.XType.{XType}
use Rattle.ncc_header.specs.declared.fault.Wrong.{Wrong}
use Rattle.ncc_schema.specs.declared.schema.Mark.{Mark}
use Rattle.ncc_schema.specs.declared.schema.Mark.TheVariants as of
use Rattle.ncc_schema.specs.declared.schema.Dim.{Dim}
use Rattle.ncc_schema.specs.declared.schema.Schema.{Schema}
use Rattle.ncc_header.specs.Grammar.{Plain, CountOfTagged, Begin, Grammar, done, Spells, Field, fields, ◌>>=◌, ◌into◌, repeat}
use Rattle.ncc_schema.specs.Schema.{Place}
use Rattle.ncc_schema.specs.Header.{IsHeader, exactly, zeros, canon_name, canon_head, canon_list, canon_dimids, canon_dim, canon_attr, canon_var, canon}
use Rattle.ncc_header.specs.Fields.{nc_type, values, bytes, list_tag, magic, version, numrecs, nelems_wrong, tag_wrong, list_nelems_wrong, dim_length_wrong, dimid_wrong, begin_wrong, number, number_field, padding, name, label_of_count, list_nelems, list_head, list, dim, attr, attrs, dimid, dimids, var, header}
use Rattle.ncc_header.specs.Marks.{marks, mark_of, all_zero, header_marks}
use Rattle.ncc_header.proofs.GrammarLaws.{joined}
use Rattle.ncc_header.proofs.FieldsLaws.{fields-join}
use Rattle.ncc_header.proofs.Exact.{Exact, ◌then◌, exact_then, exact_number, exact_bytes, exact_padding}
use Rattle.ncc_header.proofs.ExactLists.{exact_nelems, exact_name}
use Rattle.ncc_header.proofs.ExactVars.{exact_type, exact_values, var_flat, var_of, var_parts}
use Rattle.ncc_header.proofs.HeaderLaws.{fields_spell}
use Rattle.ncc_header.proofs.ExactHeader.{exact_magic, exact_version, exact_numrecs, header_flat, whole, parts, lists, zip_maps}
use Rattle.ncc_schema.proofs.Sizes.{length-canon_head}

-- ---- parts

same_split : (a b p q : List ℕ) → a ++ b ≡ p ++ q → length p ≡ length a → (p ≡ a) × (q ≡ b)
same_split a b p q e long = (
  sym (take_at p q (length a) long) ∙ ap (take (length a)) (sym e) ∙ take_at a b (length a) refl,
  sym (drop_at p q (length a) long) ∙ ap (drop (length a)) (sym e) ∙ drop_at a b (length a) refl,
)

marks_of_both : (xs ys : List Field) → marks xs ≡ [] → marks ys ≡ [] → marks (xs ++ ys) ≡ []
marks_of_both xs ys m n = flat_map-append (λ f. mark_of f.label f.at f.bytes) xs ys
    ∙ ap₂ (λ (a b : List Mark). a ++ b) m n

-- every spelling of a value is as long as the canonical one, and that has no marks
pub record Clean {A : Type 0} (g : Grammar A) (c : A → List ℕ) : Type 0 where
  pub long : (a : A) (b : List ℕ) → Spells g a b → length b ≡ length (c a)
  pub clean : (a : A) (at : ℕ) → Spells g a (c a) → marks (fields g at (c a)) ≡ []

-- bytes that spell a and then c
record Joined {A B : Type 0} (g : Grammar A) (f : A → Grammar B) (a : A) (c : B) (b : List ℕ) : Type 0 where
  first : List ℕ
  rest : List ℕ
  joined_is : b ≡ first ++ rest
  spells_first : Spells g a first
  spells_rest : Spells (f a) c rest

-- its marks are those of the parts, where the first is canonical
clean_join : {A B : Type 0} (g : Grammar A) (f : A → Grammar B) {c : A → List ℕ} (one : Clean g c) (a : A) (z : B)
    (r : List ℕ) (at : ℕ) (t : Joined g f a z (c a ++ r))
    → (Spells (f a) z r → marks (fields (f a) (at + length (c a)) r) ≡ []) → marks (fields (g >>= f) at (c a ++ r)) ≡ []
clean_join g f {c = c} one a z r at t rest =
    let parts = same_split (c a) r t.first t.rest t.joined_is (one.long a t.first t.spells_first) in
    let first = subst (Spells g a) parts.0 t.spells_first in
    ap marks (fields-join g f a at (c a) r first)
    ∙ marks_of_both (fields g at (c a)) (fields (f a) (at + length (c a)) r) (one.clean a at first)
    (rest (subst (Spells (f a) z) parts.1 t.spells_rest))

-- ---- ways of making grammars

-- what is only named anew
no_more : {A : Type 0} (x : A) (at : ℕ) (b : List ℕ) → fields (done x) at b ≡ []
unfolding fields
no_more x at b = refl

named : {A B : Type 0} (g : Grammar A) (to : A → B) (x : B) (b : List ℕ) → Spells (g into to) x b
    → (a : A) × (to a ≡ x) × Spells g a b
named g to x b sp =
    let j = joined g (λ a. done (to a)) x b sp in
    (j.0, j.5.0, subst (Spells g j.0) (sym (j.3 ∙ ap (λ (t : List ℕ). j.1 ++ t) j.5.1 ∙ append-nil j.1)) j.4)

fields_named : {A B : Type 0} (g : Grammar A) (to : A → B) (a : A) (at : ℕ) (b : List ℕ) → Spells g a b
    → fields (g into to) at b ≡ fields g at b
fields_named g to a at b sp =
    ap (fields (g into to) at) (sym (append-nil b)) ∙ fields-join g (λ a. done (to a)) a at b [] sp
    ∙ ap (λ (l : List Field). fields g at b ++ l) (no_more (to a) (at + length b) []) ∙ append-nil (fields g at b)

clean_into : {A B : Type 0} {g : Grammar A} {c : A → List ℕ} (to : A → B) (from : B → A)
    → ((a : A) (b : List ℕ) → Spells g a b → from (to a) ≡ a) → Clean g c → Clean (g into to) (λ x. c (from x))
clean_into {g = g} {c = c} to from back one = record {
  long = λ x b sp.
      let n = named g to x b sp in
      one.long n.0 b n.2 ∙ ap (λ a. length (c a)) (sym (back n.0 b n.2) ∙ ap from n.1);
  clean = λ x at sp.
      let n = named g to x (c (from x)) sp in
      let is = sym (back n.0 (c (from x)) n.2) ∙ ap from n.1 in
      ap marks (fields_named g to n.0 at (c (from x)) n.2)
      ∙ one.clean (from x) at (subst (λ a. Spells g a (c (from x))) is n.2);
}

second_of : {A B : Type 0} (h : Grammar B) (a : A) (x : A × B) (b : List ℕ) → Spells (h into (λ y. (a, y))) x b
    → (a ≡ x.0) × Spells h x.1 b
second_of {A = A} {B = B} h a x b sp =
    let n = named h (λ y. (a, y)) x b sp in
    (ap (λ (z : A × B). z.0) n.1, subst (λ (y : B). Spells h y b) (ap (λ (z : A × B). z.1) n.1) n.2)

clean_then : {A B : Type 0} {g : Grammar A} {h : A → Grammar B} {c : A → List ℕ} {d : A → B → List ℕ} → Clean g c
    → ((a : A) → Clean (h a) (d a)) → Clean (g then h) (λ x. c x.0 ++ d x.0 x.1)
clean_then {A = A} {B = B} {g = g} {h = h} {c = c} {d = d} one rest = record { long = long; clean = clean }
  where
    next : A → Grammar (A × B)
    next a = h a >>= λ y. done (a, y)

    parts : (x : A × B) (b : List ℕ) → Spells (g then h) x b → Joined g (λ a. h a >>= λ y. done (a, y)) x.0 x b
    parts x b sp =
        let j = joined g (λ a. h a >>= λ y. done (a, y)) x b sp in
        let is = (second_of (h j.0) j.0 x j.2 j.5).0 in
        record {
          first = j.1;
          rest = j.2;
          joined_is = j.3;
          spells_first = subst (λ (a : A). Spells g a j.1) is j.4;
          spells_rest = subst (λ (a : A). Spells (h a >>= λ y. done (a, y)) x j.2) is j.5;
        }

    long : (x : A × B) (b : List ℕ) → Spells (g then h) x b → length b ≡ length (c x.0 ++ d x.0 x.1)
    long x b sp =
        let t = parts x b sp in
        ap length t.joined_is ∙ length-append t.first t.rest
        ∙ ap₂ (λ (m n : ℕ). m + n) (one.long x.0 t.first t.spells_first)
        ((rest x.0).long x.1 t.rest (second_of (h x.0) x.0 x t.rest t.spells_rest).1)
        ∙ sym (length-append (c x.0) (d x.0 x.1))

    clean : (x : A × B) (at : ℕ) → Spells (g then h) x (c x.0 ++ d x.0 x.1)
        → marks (fields (g then h) at (c x.0 ++ d x.0 x.1)) ≡ []
    clean x at sp =
        clean_join g (λ a. h a >>= λ y. done (a, y)) one x.0 x (d x.0 x.1) at (parts x (c x.0 ++ d x.0 x.1) sp)
        (λ second.
        let it = (second_of (h x.0) x.0 x (d x.0 x.1) second).1 in
        ap marks (fields_named (h x.0) (λ y. (x.0, y)) x.1 (at + length (c x.0)) (d x.0 x.1) it)
        ∙ (rest x.0).clean x.1 (at + length (c x.0)) it)

clean_as : {A : Type 0} {g h : Grammar A} {c : A → List ℕ} → g ≡ h → Clean g c → Clean h c
clean_as {c = c} p e = subst (λ g. Clean g c) p e

-- what has one spelling, with no field that can have a mark
clean_exact : {A : Type 0} {g : Grammar A} {F : A → Type 0} {c : A → List ℕ} → Exact g F (λ a. exactly (c a))
    → ((at : ℕ) (b : List ℕ) → marks (fields g at b) ≡ []) → Clean g c
clean_exact {c = c} e none = record { long = λ a b sp. ap length (e.takes a b sp).1; clean = λ a at sp. none at (c a) }

-- ---- items

record ItemsOf {A : Type 0} (c : A → List ℕ) (before all : List A) (k : ℕ) (b : List ℕ) : Type 0 where
  items : List A
  all_is : all ≡ before ++ items
  number : length items ≡ k
  long : length b ≡ length (flat_map c items)

items_of : {A : Type 0} {g : List A → Grammar A} {c : A → List ℕ} → ((before : List A) → Clean (g before) c)
    → (before : List A) (k : ℕ) (all : List A) (b : List ℕ) → Spells (repeat g before k) all b
    → ItemsOf c before all k b
items_of one before zero all b sp = record {
  items = [];
  all_is = sym sp.0 ∙ sym (append-nil before);
  number =
      refl;
  long = ap length sp.1;
}
items_of {g = g} {c = c} one before (suc k) all b sp =
    let j = joined (g before) (λ a. repeat g (before ++ a ∷ []) k) all b sp in
    let two = items_of {c = c} one (before ++ j.0 ∷ []) k all j.2 j.5 in
    record {
      items = j.0 ∷ two.items;
      all_is = two.all_is ∙ append_assoc before (j.0 ∷ []) two.items;
      number = ap suc two.number;
      long = ap length j.3 ∙ length-append j.1 j.2 ∙ ap₂ (λ (m n : ℕ). m + n)
          ((one before).long j.0 j.1 j.4) two.long ∙ sym (length-append (c j.0) (flat_map c two.items));
    }

clean_items : {A : Type 0} {g : List A → Grammar A} {c : A → List ℕ} → ((before : List A) → Clean (g before) c)
    → (before : List A) (k : ℕ) (items : List A) (at : ℕ) → length items ≡ k
    → Spells (repeat g before k) (before ++ items) (flat_map c items)
    → marks (fields (repeat g before k) at (flat_map c items)) ≡ []
clean_items {c = c} one before zero items at number sp = ap marks (no_more before at (flat_map c items))
clean_items one before (suc k) [] at number sp = absurd (omega (arith, number))
clean_items {A = A} {g = g} {c = c} one before (suc k) (a ∷ items) at number sp =
    let all = before ++ a ∷ items in
    let next = λ (x : A). repeat g (before ++ x ∷ []) k in
    let j = joined (g before) next all (c a ++ flat_map c items) sp in
    let two = items_of {c = c} one (before ++ j.0 ∷ []) k all j.2 j.5 in
    let same : a ∷ items ≡ j.0 ∷ two.items = append_cancel_left before (a ∷ items) (j.0 ∷ two.items)
    (two.all_is ∙ append_assoc before (j.0 ∷ []) two.items) in
    let first : j.0 ≡ a = cc in
    let t : Joined (g before) next a all (c a ++ flat_map c items) = record {
      first = j.1;
      rest = j.2;
      joined_is = j.3;
      spells_first = subst (λ (x : A). Spells (g before) x j.1) first j.4;
      spells_rest = subst (λ (x : A). Spells (next x) all j.2) first j.5;
    } in
    clean_join (g before) next (one before) a all (flat_map c items) at t (λ rest.
    clean_items {c = c} one (before ++ a ∷ []) k items (at + length (c a)) (omega (arith, number))
    (subst (λ (l : List A). Spells (next a) l (flat_map c items)) (sym (append_assoc before (a ∷ []) items)) rest))

clean_counted : {A : Type 0} {head : Grammar ℕ} {r : ℕ → List ℕ} {g : List A → Grammar A} {c : A → List ℕ}
    → Clean head r → ((before : List A) → Clean (g before) c)
    → Clean (head >>= λ n. repeat g [] n) (λ items. r (length items) ++ flat_map c items)
clean_counted {A = A} {head = head} {r = r} {g = g} {c = c} h one = record { long = long; clean = clean }
  where
    parts : (all : List A) (b : List ℕ) → Spells (head >>= λ n. repeat g [] n) all b
        → Joined head (λ n. repeat g [] n) (length all) all b
    parts all b sp =
        let j = joined head (λ n. repeat g [] n) all b sp in
        let two = items_of {c = c} one [] j.0 all j.2 j.5 in
        let is : j.0 ≡ length all = sym two.number ∙ ap length (sym two.all_is) in
        record {
          first = j.1;
          rest = j.2;
          joined_is = j.3;
          spells_first = subst (λ (n : ℕ). Spells head n j.1) is j.4;
          spells_rest = subst (λ (n : ℕ). Spells (repeat g [] n) all j.2) is j.5;
        }

    long : (all : List A) (b : List ℕ) → Spells (head >>= λ n. repeat g [] n) all b
        → length b ≡ length (r (length all) ++ flat_map c all)
    long all b sp =
        let t = parts all b sp in
        let two = items_of {c = c} one [] (length all) all t.rest t.spells_rest in
        ap length t.joined_is ∙ length-append t.first t.rest
        ∙ ap₂ (λ (m n : ℕ). m + n) (h.long (length all) t.first t.spells_first)
        (two.long ∙ ap (λ (l : List A). length (flat_map c l)) (sym two.all_is))
        ∙ sym (length-append (r (length all)) (flat_map c all))

    clean : (all : List A) (at : ℕ) → Spells (head >>= λ n. repeat g [] n) all (r (length all) ++ flat_map c all)
        → marks (fields (head >>= λ n. repeat g [] n) at (r (length all) ++ flat_map c all)) ≡ []
    clean all at sp =
        clean_join head (λ n. repeat g [] n) h (length all) all (flat_map c all) at
        (parts all (r (length all) ++ flat_map c all) sp)
        (λ rest. clean_items {c = c} one [] (length all) all (at + length (r (length all))) refl rest)

-- ---- padding

all_zeros : (n : ℕ) → all_zero (zeros n) ≡ true
all_zeros zero = refl
all_zeros (suc n) = all_zeros n

zeros_long : (n : ℕ) → length (zeros n) ≡ n
zeros_long n = length-replicate {A = ℕ} n 0

take_zeros : (n : ℕ) → take n (zeros n) ≡ zeros n
take_zeros n = take_all n (zeros n) (omega (arith, zeros_long n))

unmarked_if : (z : Bool) (m : Mark) → z ≡ true → ((if z then [] else m ∷ []) ++ []) ≡ []
unmarked_if true m h = refl
unmarked_if false m h = absurd cc

clean_padding : (n : ℕ) → Clean (padding n) (λ _. zeros (padding_of n))
unfolding fields
clean_padding n = record {
  long = λ a b sp. ((exact_padding n).takes a b sp).1.0 ∙ sym (zeros_long (padding_of n));
  clean = λ a at sp. unmarked_if (all_zero (take (padding_of n) (zeros (padding_of n)))) (of.Padding at)
      (ap all_zero (take_zeros (padding_of n)) ∙ all_zeros (padding_of n));
}

-- ---- fields that have no mark

number_plain : (w : ℕ) (wrong : ℕ → Option Wrong) (at : ℕ) (b : List ℕ)
    → marks (fields (number_field Plain w wrong) at b) ≡ []
unfolding fields
number_plain w wrong at b = refl

number_begin : (w : ℕ) (wrong : ℕ → Option Wrong) (at : ℕ) (b : List ℕ)
    → marks (fields (number_field Begin w wrong) at b) ≡ []
unfolding fields
number_begin w wrong at b = refl

bytes_plain : (n at : ℕ) (b : List ℕ) → marks (fields (bytes n) at b) ≡ []
unfolding fields
bytes_plain n at b = refl

values_plain : (t : XType) (k at : ℕ) (b : List ℕ) → marks (fields (values t k) at b) ≡ []
unfolding fields
values_plain t k at b = refl

type_plain : (v : Version) (at : ℕ) (b : List ℕ) → marks (fields (nc_type v) at b) ≡ []
unfolding fields
type_plain v at b = refl

magic_plain : (at : ℕ) (b : List ℕ) → marks (fields magic at b) ≡ []
unfolding fields
magic_plain at b = refl

version_plain : (at : ℕ) (b : List ℕ) → marks (fields version at b) ≡ []
unfolding fields
version_plain at b = refl

numrecs_plain : (v : Version) (at : ℕ) (b : List ℕ) → marks (fields (numrecs v) at b) ≡ []
unfolding fields
numrecs_plain v at b = refl

-- ---- the head of a list

pub zero_number : (b : List ℕ) (n : ℕ) → all_zero b ≡ true → n ≡ 0 → number_onto n b ≡ 0
zero_number [] n h e = e
zero_number (x ∷ b) n h e =
    let both = and_parts (x == 0) (all_zero b) h in
    zero_number b (n * 256 + x) both.1 (omega (arith, e, eqb-true x 0 both.0))

some_byte : (w n : ℕ) → 0 < n → n < 256 ^ w → all_zero (big_endian w n) ≡ false
some_byte w n some small = false_from_ne_true (all_zero (big_endian w n))
    (λ h. omega (arith, some, number_of-big_endian w n small, zero_number (big_endian w n) 0 h refl))

counted_mark : (z : Bool) (m : Mark) → z ≡ false → ((if z then m ∷ [] else []) ++ []) ≡ []
counted_mark false m h = refl
counted_mark true m h = absurd cc

-- a number of items that isn't zero, behind whichever tag
count_unmarked : (w n at : ℕ) (wrong : ℕ → Option Wrong) (z : Bool) → 0 < n → n < 256 ^ w
    → marks (fields (number_field (if z then Plain else CountOfTagged) w wrong) at (big_endian w n)) ≡ []
unfolding fields
count_unmarked w n at wrong true some small = refl
count_unmarked w n at wrong false some small =
    let all : take w (big_endian w n) ≡ big_endian w n =
    take_all w (big_endian w n) (omega (arith, length-big_endian w n)) in
    counted_mark (all_zero (take w (big_endian w n))) (of.TaggedEmpty (at - 4))
    (ap all_zero all ∙ some_byte w n some small)

module _ (v : Version) (own n : ℕ) (b : List ℕ) (sp : Spells (list_head v own) n b) where
  abbrev head_parts : (t : ℕ) × (x : List ℕ) × (y : List ℕ) × (b ≡ x ++ y) × Spells (list_tag own) t x × Spells
      (list_nelems v t) n y
  head_parts = joined (number 4 (tag_wrong own)) (list_nelems v) n b sp

  tag_is : (head_parts.0 < 256 ^ 4) × (head_parts.1 ≡ big_endian 4 head_parts.0)
  tag_is = let one = (exact_number Plain 4 (tag_wrong own)).takes head_parts.0 head_parts.1 head_parts.4 in
      (one.0.0, one.1)

  count_is : (n < 256 ^ count_width_of v) × (head_parts.2 ≡ big_endian (count_width_of v) n)
  count_is = let two = (exact_number (label_of_count head_parts.0) (count_width_of v)
      (list_nelems_wrong v head_parts.0)).takes n head_parts.2 head_parts.5 in (two.0.0, two.1)

  head_long : length b ≡ length (canon_head v own n)
  head_long =
      ap length head_parts.3 ∙ length-append head_parts.1 head_parts.2
      ∙ ap₂ (λ (k m : ℕ). k + m) (ap length tag_is.1 ∙ length-big_endian 4 head_parts.0)
      (ap length count_is.1 ∙ length-big_endian (count_width_of v) n)
      ∙ sym (length-canon_head v own n)

  head_fields : (at : ℕ) → fields (list_head v own) at b ≡ fields (list_tag own) at head_parts.1 ++ fields
      (list_nelems v head_parts.0) (at + length head_parts.1) head_parts.2
  head_fields at = ap (fields (list_head v own) at) head_parts.3
      ∙ fields-join (list_tag own) (list_nelems v) head_parts.0 at head_parts.1 head_parts.2 head_parts.4

  head_unmarked : (at : ℕ) → marks (fields (list_nelems v head_parts.0) (at + length head_parts.1) head_parts.2) ≡ []
      → marks (fields (list_head v own) at b) ≡ []
  head_unmarked at rest =
      ap marks (head_fields at)
      ∙ marks_of_both (fields (list_tag own) at head_parts.1)
      (fields (list_nelems v head_parts.0) (at + length head_parts.1) head_parts.2)
      (number_plain 4 (tag_wrong own) at head_parts.1) rest

  some_unmarked : (at : ℕ) → 0 < n → marks (fields (list_head v own) at b) ≡ []
  some_unmarked at some = head_unmarked at
      (ap (λ (l : List ℕ). marks (fields (list_nelems v head_parts.0) (at + length head_parts.1) l)) count_is.1
      ∙ count_unmarked (count_width_of v) n (at + length head_parts.1) (list_nelems_wrong v head_parts.0)
      (head_parts.0 == 0) some count_is.0)

  -- behind a tag that is zero
  none_unmarked : (at : ℕ) → head_parts.0 ≡ 0 → marks (fields (list_head v own) at b) ≡ []
  none_unmarked at none = head_unmarked at
      (ap (λ (t : ℕ). marks (fields (list_nelems v t) (at + length head_parts.1) head_parts.2)) none
      ∙ number_plain (count_width_of v) (list_nelems_wrong v 0) (at + length head_parts.1) head_parts.2)

zero_tag : (v : Version) (own : ℕ) (sp : Spells (list_head v own) 0 (canon_head v own 0))
    → (head_parts v own 0 (canon_head v own 0) sp).0 ≡ 0
zero_tag v own sp =
    let parts = head_parts v own 0 (canon_head v own 0) sp in
    let tag = tag_is v own 0 (canon_head v own 0) sp in
    let long : length parts.1 ≡ length (big_endian 4 0) = ap length tag.1 ∙ length-big_endian 4 parts.0
    ∙ sym (length-big_endian 4 0) in
    let same : big_endian 4 parts.0 ≡ big_endian 4 0 = sym tag.1
    ∙ (same_split (big_endian 4 0) (big_endian (count_width_of v) 0) parts.1 parts.2 parts.3 long).0 in
    sym (number_of-big_endian 4 parts.0 tag.0) ∙ ap number_of same ∙ number_of-big_endian 4 0 (omega arith)

head_clean : (v : Version) (own n at : ℕ) → Spells (list_head v own) n (canon_head v own n)
    → marks (fields (list_head v own) at (canon_head v own n)) ≡ []
head_clean v own zero at sp = none_unmarked v own 0 (canon_head v own 0) sp at (zero_tag v own sp)
head_clean v own (suc n) at sp = some_unmarked v own (suc n) (canon_head v own (suc n)) sp at (omega arith)

clean_head : (v : Version) (own : ℕ) → Clean (list_head v own) (canon_head v own)
clean_head v own = record { long = λ n b sp. head_long v own n b sp; clean = λ n at sp. head_clean v own n at sp }

-- ---- the rules

clean_name : (v : Version) → Clean (name v) (canon_name v)
clean_name v =
    let parts_exact = exact_then (exact_nelems v) (λ n _. exact_then (exact_bytes n) (λ _ _. exact_padding n)) in
    clean_into (λ x. x.1.0) (λ n. (length n, (n, tt))) (λ a b sp. ap (λ (k : ℕ). (k, (a.1.0, tt)))
    (parts_exact.takes a b sp).0.1.0.0)
    (clean_then (clean_exact (exact_nelems v) (number_plain (count_width_of v) (nelems_wrong v)))
    (λ n. clean_then (clean_exact (exact_bytes n) (bytes_plain n)) (λ _. clean_padding n)))

clean_list : {A : Type 0} {item : List A → Grammar A} {c : A → List ℕ} (v : Version) (own : ℕ)
    → ((before : List A) → Clean (item before) c) → Clean (list v own item) (canon_list v own c)
clean_list v own one = clean_counted (clean_head v own) one

clean_dim : (v : Version) (before : List Dim) → Clean (dim v before) (canon_dim v)
clean_dim v before = clean_into (λ x. record { name = x.0; length = x.1 }) (λ d. (d.name, d.length)) (λ a b sp. refl)
    (clean_then (clean_name v) (λ _. clean_exact (exact_number Plain (count_width_of v) (dim_length_wrong v before))
    (number_plain (count_width_of v) (dim_length_wrong v before))))

clean_attr : (v : Version) → Clean (attr v) (canon_attr v)
clean_attr v =
    let parts_exact = exact_then (exact_name v) (λ _ _. exact_then (exact_type v)
    (λ t _. exact_then (exact_nelems v) (λ k _. exact_then (exact_values t k)
    (λ _ _. exact_padding (k * size_of t))))) in
    clean_into (λ x. record { name = x.0; values = x.1.1.1.0 })
    (λ a. (a.name, (type_of a.values, (count_of a.values, (a.values, tt)))))
    (λ a b sp i. let f = (parts_exact.takes a b sp).0 in (a.0, (f.1.1.1.0.0 i, (f.1.1.1.0.1 i, (a.1.1.1.0, tt)))))
    (clean_then (clean_name v) (λ _. clean_then (clean_exact (exact_type v) (type_plain v))
    (λ t. clean_then (clean_exact (exact_nelems v) (number_plain (count_width_of v) (nelems_wrong v)))
    (λ k. clean_then (clean_exact (exact_values t k) (values_plain t k)) (λ _. clean_padding (k * size_of t))))))

clean_attrs : (v : Version) → Clean (attrs v) (canon_list v 12 (canon_attr v))
clean_attrs v = clean_list v 12 (λ _. clean_attr v)

clean_dimid : (v : Version) (dims : List Dim) (before : List ℕ)
    → Clean (dimid v dims before) (big_endian (count_width_of v))
clean_dimid v dims before = clean_exact (exact_number Plain (count_width_of v) (dimid_wrong dims before))
    (number_plain (count_width_of v) (dimid_wrong dims before))

clean_dimids : (v : Version) (dims : List Dim) → Clean (dimids v dims) (canon_dimids v)
clean_dimids v dims = clean_counted (clean_exact (exact_nelems v) (number_plain (count_width_of v) (nelems_wrong v)))
    (clean_dimid v dims)

clean_var : (v : Version) (dims : List Dim) → Clean (var v dims) (canon_var v)
clean_var v dims = clean_as (var_flat v dims) (clean_into var_of var_parts (λ a b sp. refl)
    (clean_then (clean_name v) (λ _. clean_then (clean_dimids v dims)
    (λ _. clean_then (clean_attrs v) (λ _. clean_then (clean_exact (exact_type v) (type_plain v))
    (λ _. clean_then (clean_exact (exact_number Plain (count_width_of v) (λ n. None))
    (number_plain (count_width_of v) (λ n. None))) (λ _. clean_exact
    (exact_number Begin (offset_width_of v) (begin_wrong v))
    (number_begin (offset_width_of v) (begin_wrong v)))))))))

-- the letters are one number
letters_are : {B : Type 0} (g : ℕ → Grammar B) (x : ℕ × B) (b : List ℕ) → Spells (magic then g) x b → 0x434446 ≡ x.0
letters_are {B = B} g x b sp =
    let j = joined magic (λ n. g n >>= λ y. done (n, y)) x b sp in
    let k = joined (g j.0) (λ y. done (j.0, y)) x j.2 j.5 in
    sym (exact_magic.takes j.0 j.1 j.4).0 ∙ ap (λ (y : ℕ × B). y.0) k.5.0

clean_header : Clean header (λ x. canon x.0 x.1)
clean_header = clean_as header_flat (clean_into whole parts
    (λ x b sp i. (
      letters_are (λ _. version then λ v. numrecs v then λ _. lists v) x b sp i,
      (x.1.0, (x.1.1.0, (x.1.1.1.0, (x.1.1.1.1.0, zip_maps x.1.1.1.1.1 i)))),
    ))
    (clean_then (clean_exact exact_magic magic_plain) (λ _. clean_then (clean_exact exact_version version_plain)
    (λ v. clean_then (clean_exact (exact_numrecs v) (numrecs_plain v)) (λ _.
    clean_then (clean_list v 10 (clean_dim v)) (λ dims. clean_then (clean_attrs v)
    (λ _. clean_list v 11 (λ _. clean_var v dims))))))))

pub canonical_is_unmarked : (s : Schema) (places : List Place) → IsHeader s places (canon s places)
    → header_marks (canon s places) ≡ []
canonical_is_unmarked s places h = clean_header.clean (s, places) 0 (fields_spell s places (canon s places) h)
