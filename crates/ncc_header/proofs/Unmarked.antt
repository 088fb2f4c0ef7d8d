-- Without marks, a spelling is the canonical one: one lemma for each way of making grammars, one line for each rule.
use Rattle.std.proofs.Common.{◌≡◌, ℕ, zero, suc, ◌+◌, ◌*◌, Bool, true, false, not, List, [], ◌∷◌, ◌++◌, length, take, None, refl, sym, ap, ap₂, subst, ◌∙◌, append_assoc, append-nil, arith, inl, inr}
use Rattle.std.specs.List.{flat_map}
use Rattle.std.specs.Prelude.{◌==◌, ◌&&◌, if◌then◌else◌}
use Rattle.std.proofs.lemmas.Bool.{eqb-true}
use Rattle.std.proofs.lemmas.List.{take_at}
use Rattle.ncc_values.specs.Numbers.{big_endian}
use Rattle.ncc_values.specs.Padding.{padding_of}
use Rattle.ncc_values.specs.Values.{type_of, count_of}
use Rattle.ncc_values.specs.Version.{count_width_of, offset_width_of}
use Rattle.ncc_values.specs.XType.{size_of}
use Rattle.ncc_values.specs.declared.version.Version.{Version}
use Rattle.ncc_values.specs.declared.version.Version.TheVariants.{V1, V2, V5}
use Rattle.ncc_header.specs.declared.fault.FaultKind.TheVariants.{BadTag}
use Rattle.ncc_schema.specs.declared.schema.Mark.{Mark}
use Rattle.ncc_schema.specs.declared.schema.Mark.TheVariants as of
use Rattle.ncc_schema.specs.declared.schema.Dim.{Dim}
use Rattle.ncc_schema.specs.declared.schema.Schema.{Schema}
use Rattle.ncc_header.specs.Grammar.{Plain, CountOfTagged, Begin, Grammar, done, Spells, Field, fields, ◌>>=◌, ◌into◌, repeat}
use Rattle.ncc_schema.specs.Schema.{Place}
use Rattle.ncc_schema.specs.Header.{IsHeader, list_tag, exactly, zeros, canon_name, canon_head, canon_list, canon_dimids, canon_dim, canon_attr, canon_var, canon}
use Rattle.ncc_header.specs.Fields.{magic, version, numrecs, nelems_wrong, tag_wrong, list_nelems_wrong, dim_length_wrong, dimid_wrong, begin_wrong, at_tag_if, number, number_field, padding, name, label_of_count, list_nelems, list_head, list, dim, attr, attrs, dimid, dimids, var, header}
use Rattle.ncc_header.specs.Marks.{marks, mark_of, all_zero, header_marks}
use Rattle.ncc_header.proofs.GrammarLaws.{joined}
use Rattle.ncc_header.proofs.FieldsLaws.{fields-join}
use Rattle.ncc_header.proofs.Exact.{Exact, ◌then◌, exact_then, exact_number, exact_bytes, exact_padding}
use Rattle.ncc_header.proofs.Judgements.{first-none}
use Rattle.ncc_header.proofs.ExactLists.{tag_takes, exact_nelems, exact_name}
use Rattle.ncc_header.proofs.ExactVars.{exact_type, exact_values, var_flat, var_of, var_parts}
use Rattle.ncc_header.proofs.HeaderLaws.{fields_spell}
use Rattle.ncc_header.proofs.ExactHeader.{exact_magic, exact_version, exact_numrecs, header_flat, whole, parts, lists, zip_maps}

-- ---- marks of parts

nil_parts : {A : Type 0} (xs ys : List A) → xs ++ ys ≡ [] → (xs ≡ []) × (ys ≡ [])
nil_parts [] ys h = (refl, h)
nil_parts (x ∷ xs) ys h = absurd cc

marks-append : (xs ys : List Field) → marks (xs ++ ys) ≡ [] → (marks xs ≡ []) × (marks ys ≡ [])
marks-append [] ys h = (refl, h)
marks-append (x ∷ xs) ys h =
    let first = nil_parts (mark_of x.label x.at x.bytes) (marks (xs ++ ys)) h in
    let rest = marks-append xs ys first.1 in
    (ap₂ (λ (a b : List Mark). a ++ b) first.0 rest.0, rest.1)

-- a spelling without marks is canonical
pub record Unmarked {A : Type 0} (g : Grammar A) (c : A → List ℕ) : Type 0 where
  pub canonical : (a : A) (b : List ℕ) (at : ℕ) → Spells g a b → marks (fields g at b) ≡ [] → b ≡ c a

abbrev Parts : {A B : Type 0} → Grammar A → (A → Grammar B) → B → List ℕ → ℕ → Type 0
Parts {A = A} g f c b at = (a : A) × (x : List ℕ) × (y : List ℕ) × (b ≡ x ++ y) × Spells g a x × Spells (f a) c y × (marks (fields g at x) ≡ []) × (marks (fields (f a) (at + length x) y) ≡ [])

parts_of : {A B : Type 0} (g : Grammar A) (f : A → Grammar B) (c : B) (b : List ℕ) (at : ℕ) → Spells (g >>= f) c b → marks (fields (g >>= f) at b) ≡ [] → Parts g f c b at
parts_of g f c b at sp none =
    let j = joined g f c b sp in
    let split = marks-append (fields g at j.1) (fields (f j.0) (at + length j.1) j.2) (sym (ap marks (ap (fields (g >>= f) at) j.3 ∙ fields-join g f j.0 at j.1 j.2 j.4)) ∙ none) in
    (j.0, j.1, j.2, j.3, j.4, j.5, split.0, split.1)

-- ---- ways of making grammars

unmarked_then : {A B : Type 0} {g : Grammar A} {h : A → Grammar B} {c : A → List ℕ} {d : A → B → List ℕ} → Unmarked g c → ((a : A) → Unmarked (h a) (d a)) → Unmarked (g then h) (λ x. c x.0 ++ d x.0 x.1)
unmarked_then {A = A} {B = B} {g = g} {h = h} {c = c} {d = d} one rest = record {
  canonical = λ x b at sp none.
      let j = parts_of g (λ a. h a >>= λ y. done (a, y)) x b at sp none in
      let k = parts_of (h j.0) (λ y. done (j.0, y)) x j.2 (at + length j.1) j.5 j.7 in
      let second : j.2 ≡ d j.0 k.0 = k.3 ∙ ap (λ (t : List ℕ). k.1 ++ t) k.5.1 ∙ append-nil k.1 ∙ (rest j.0).canonical k.0 k.1 (at + length j.1) k.4 k.6 in
      subst (λ (z : A × B). b ≡ c z.0 ++ d z.0 z.1) k.5.0 (j.3 ∙ ap₂ (λ (s t : List ℕ). s ++ t) (one.canonical j.0 j.1 at j.4 j.6) second);
}

unmarked_into : {A B : Type 0} {g : Grammar A} {c : A → List ℕ} (to : A → B) (from : B → A) → ((a : A) (b : List ℕ) → Spells g a b → from (to a) ≡ a) → Unmarked g c → Unmarked (g into to) (λ x. c (from x))
unmarked_into {g = g} {c = c} to from back one = record {
  canonical = λ x b at sp none.
      let j = parts_of g (λ a. done (to a)) x b at sp none in
      let is : j.0 ≡ from x = sym (back j.0 j.1 j.4) ∙ ap from j.5.0 in
      j.3 ∙ ap (λ (t : List ℕ). j.1 ++ t) j.5.1 ∙ append-nil j.1 ∙ one.canonical j.0 j.1 at j.4 j.6 ∙ ap c is;
}

unmarked_as : {A : Type 0} {g h : Grammar A} {c : A → List ℕ} → g ≡ h → Unmarked g c → Unmarked h c
unmarked_as {c = c} p e = subst (λ g. Unmarked g c) p e

-- what has one spelling
unmarked_exact : {A : Type 0} {g : Grammar A} {F : A → Type 0} {c : A → List ℕ} → Exact g F (λ a. exactly (c a)) → Unmarked g c
unmarked_exact e = record { canonical = λ a b at sp none. (e.takes a b sp).1 }

unmarked_repeat : {A : Type 0} {g : List A → Grammar A} {c : A → List ℕ} → ((before : List A) → Unmarked (g before) c) → (before : List A) (k : ℕ) (all : List A) (b : List ℕ) (at : ℕ) → Spells (repeat g before k) all b → marks (fields (repeat g before k) at b) ≡ []
    → (items : List A) × (all ≡ before ++ items) × (length items ≡ k) × (b ≡ flat_map c items)
unmarked_repeat one before zero all b at sp none = ([], sym sp.0 ∙ sym (append-nil before), refl, sp.1)
unmarked_repeat {g = g} {c = c} one before (suc k) all b at sp none =
    let j = parts_of (g before) (λ a. repeat g (before ++ a ∷ []) k) all b at sp none in
    let two = unmarked_repeat {c = c} one (before ++ j.0 ∷ []) k all j.2 (at + length j.1) j.5 j.7 in
    (j.0 ∷ two.0, two.1 ∙ append_assoc before (j.0 ∷ []) two.0, ap suc two.2, j.3 ∙ ap₂ (λ (s t : List ℕ). s ++ t) ((one before).canonical j.0 j.1 at j.4 j.6) two.3)

unmarked_counted : {A : Type 0} {head : Grammar ℕ} {r : ℕ → List ℕ} {g : List A → Grammar A} {c : A → List ℕ} → Unmarked head r → ((before : List A) → Unmarked (g before) c) → Unmarked (head >>= λ n. repeat g [] n) (λ items. r (length items) ++ flat_map c items)
unmarked_counted {A = A} {head = head} {r = r} {g = g} {c = c} h one = record {
  canonical = λ all b at sp none.
      let j = parts_of head (λ n. repeat g [] n) all b at sp none in
      let two = unmarked_repeat {c = c} one [] j.0 all j.2 (at + length j.1) j.5 j.7 in
      let len : j.0 ≡ length all = sym two.2 ∙ ap length (sym two.1) in
      j.3 ∙ ap₂ (λ (s t : List ℕ). s ++ t) (h.canonical j.0 j.1 at j.4 j.6 ∙ ap r len) (two.3 ∙ ap (flat_map c) (sym two.1));
}

-- ---- padding

and_parts : (x y : Bool) → (x && y) ≡ true → (x ≡ true) × (y ≡ true)
and_parts true true h = (refl, refl)
and_parts true false h = absurd cc
and_parts false y h = absurd cc

zero_bytes : (b : List ℕ) → all_zero b ≡ true → b ≡ zeros (length b)
zero_bytes [] h = refl
zero_bytes (x ∷ b) h = let both = and_parts (x == 0) (all_zero b) h in ap₂ (λ (y : ℕ) (t : List ℕ). y ∷ t) (eqb-true x 0 both.0) (zero_bytes b both.1)

zero_if_none : (z : Bool) (m : Mark) → ((if z then [] else m ∷ []) ++ []) ≡ [] → z ≡ true
zero_if_none true m h = refl
zero_if_none false m h = absurd cc

unmarked_padding : (n : ℕ) → Unmarked (padding n) (λ _. zeros (padding_of n))
unfolding fields
unmarked_padding n = record { canonical = canonical }
  where
    zeros_read : (b : List ℕ) (at : ℕ) → marks (fields (padding n) at b) ≡ [] → all_zero (take (padding_of n) b) ≡ true
    zeros_read b at none = zero_if_none (all_zero (take (padding_of n) b)) (of.Padding at) none

    canonical : (a : Unit {0}) (b : List ℕ) (at : ℕ) → Spells (padding n) a b → marks (fields (padding n) at b) ≡ [] → b ≡ zeros (padding_of n)
    canonical a b at sp none =
        let len : length b ≡ padding_of n = ((exact_padding n).takes a b sp).1.0 in
        let all : take (padding_of n) b ≡ b = ap (take (padding_of n)) (sym (append-nil b)) ∙ take_at b [] (padding_of n) len in
        zero_bytes b (subst (λ (t : List ℕ). all_zero t ≡ true) all (zeros_read b at none)) ∙ ap zeros len

-- ---- the head of a list

-- the number behind a tag, labelled so
abbrev labelled : Version → (t : ℕ) → Bool → Grammar ℕ
labelled v t z = number_field (if z then Plain else CountOfTagged) (count_width_of v) (list_nelems_wrong v t)

-- a tag that isn't zero is marked where its list is empty
tagged_empty : (v : Version) (t at : ℕ) → marks (fields (labelled v t false) at (big_endian (count_width_of v) 0)) ≡ [] → ⊥
unfolding fields
tagged_empty V1 t at h = cc
tagged_empty V2 t at h = cc
tagged_empty V5 t at h = cc

head_is : (v : Version) (own t n at : ℕ) (z : Bool) → (t == 0) ≡ z → list_tag own n (big_endian 4 t) → marks (fields (labelled v t z) at (big_endian (count_width_of v) n)) ≡ [] → big_endian 4 t ++ big_endian (count_width_of v) n ≡ canon_head v own n
head_is v own t (suc n) at z is (inl p) none = ap (λ (x : List ℕ). x ++ big_endian (count_width_of v) (suc n)) p
head_is v own t (suc n) at z is (inr p) none = absurd (omega (arith, p.0))
head_is v own t zero at true is tags none = ap (λ (m : ℕ). big_endian 4 m ++ big_endian (count_width_of v) 0) (eqb-true t 0 is)
head_is v own t zero at false is tags none = absurd (tagged_empty v t at none)

unmarked_head : (v : Version) (own : ℕ) → Unmarked (list_head v own) (canon_head v own)
unmarked_head v own = record { canonical = canonical }
  where
    canonical : (n : ℕ) (b : List ℕ) (at : ℕ) → Spells (list_head v own) n b → marks (fields (list_head v own) at b) ≡ [] → b ≡ canon_head v own n
    canonical n b at sp none =
        let j = parts_of (number 4 (tag_wrong own)) (list_nelems v) n b at sp none in
        let one = (exact_number Plain 4 (tag_wrong own)).takes j.0 j.1 j.4 in
        let two = (exact_number (label_of_count j.0) (count_width_of v) (list_nelems_wrong v j.0)).takes n j.2 j.5 in
        let both = first-none (nelems_wrong v n) (at_tag_if ((j.0 == 0) && not (n == 0)) BadTag) two.0.1 in
        let tags = tag_takes own j.0 n (j.0 == 0) (j.0 == own) refl refl one.0.1 both.1 in
        j.3 ∙ ap₂ (λ (s t : List ℕ). s ++ t) one.1 two.1 ∙ head_is v own j.0 n (at + length j.1) (j.0 == 0) refl tags (subst (λ (y : List ℕ). marks (fields (list_nelems v j.0) (at + length j.1) y) ≡ []) two.1 j.7)

-- ---- the rules

unmarked_name : (v : Version) → Unmarked (name v) (canon_name v)
unmarked_name v =
    let parts_exact = exact_then (exact_nelems v) (λ n _. exact_then (exact_bytes n) (λ _ _. exact_padding n)) in
    unmarked_into (λ x. x.1.0) (λ n. (length n, (n, tt))) (λ a b sp. ap (λ (k : ℕ). (k, (a.1.0, tt))) (parts_exact.takes a b sp).0.1.0.0)
    (unmarked_then (unmarked_exact (exact_nelems v)) (λ n. unmarked_then (unmarked_exact (exact_bytes n)) (λ _. unmarked_padding n)))

unmarked_list : {A : Type 0} {item : List A → Grammar A} {c : A → List ℕ} (v : Version) (own : ℕ) → ((before : List A) → Unmarked (item before) c) → Unmarked (list v own item) (canon_list v own c)
unmarked_list v own one = unmarked_counted (unmarked_head v own) one

unmarked_dim : (v : Version) (before : List Dim) → Unmarked (dim v before) (canon_dim v)
unmarked_dim v before = unmarked_into (λ x. record { name = x.0; length = x.1 }) (λ d. (d.name, d.length)) (λ a b sp. refl)
    (unmarked_then (unmarked_name v) (λ _. unmarked_exact (exact_number Plain (count_width_of v) (dim_length_wrong v before))))

unmarked_attr : (v : Version) → Unmarked (attr v) (canon_attr v)
unmarked_attr v =
    let parts_exact = exact_then (exact_name v) (λ _ _. exact_then (exact_type v) (λ t _. exact_then (exact_nelems v) (λ k _. exact_then (exact_values t k) (λ _ _. exact_padding (k * size_of t))))) in
    unmarked_into (λ x. record { name = x.0; values = x.1.1.1.0 }) (λ a. (a.name, (type_of a.values, (count_of a.values, (a.values, tt)))))
    (λ a b sp i. let f = (parts_exact.takes a b sp).0 in (a.0, (f.1.1.1.0.0 i, (f.1.1.1.0.1 i, (a.1.1.1.0, tt)))))
    (unmarked_then (unmarked_name v) (λ _. unmarked_then (unmarked_exact (exact_type v)) (λ t. unmarked_then (unmarked_exact (exact_nelems v)) (λ k. unmarked_then (unmarked_exact (exact_values t k)) (λ _. unmarked_padding (k * size_of t))))))

unmarked_attrs : (v : Version) → Unmarked (attrs v) (canon_list v 12 (canon_attr v))
unmarked_attrs v = unmarked_list v 12 (λ _. unmarked_attr v)

unmarked_dimid : (v : Version) (dims : List Dim) (before : List ℕ) → Unmarked (dimid v dims before) (big_endian (count_width_of v))
unmarked_dimid v dims before = unmarked_exact (exact_number Plain (count_width_of v) (dimid_wrong dims before))

unmarked_dimids : (v : Version) (dims : List Dim) → Unmarked (dimids v dims) (canon_dimids v)
unmarked_dimids v dims = unmarked_counted (unmarked_exact (exact_nelems v)) (unmarked_dimid v dims)

unmarked_var : (v : Version) (dims : List Dim) → Unmarked (var v dims) (canon_var v)
unmarked_var v dims = unmarked_as (var_flat v dims) (unmarked_into var_of var_parts (λ a b sp. refl)
    (unmarked_then (unmarked_name v) (λ _. unmarked_then (unmarked_dimids v dims) (λ _. unmarked_then (unmarked_attrs v) (λ _. unmarked_then (unmarked_exact (exact_type v))
    (λ _. unmarked_then (unmarked_exact (exact_number Plain (count_width_of v) (λ n. None))) (λ _. unmarked_exact (exact_number Begin (offset_width_of v) (begin_wrong v)))))))))

-- the letters are one number
letters_are : {B : Type 0} (g : ℕ → Grammar B) (x : ℕ × B) (b : List ℕ) → Spells (magic then g) x b → 0x434446 ≡ x.0
letters_are {B = B} g x b sp =
    let j = joined magic (λ n. g n >>= λ y. done (n, y)) x b sp in
    let k = joined (g j.0) (λ y. done (j.0, y)) x j.2 j.5 in
    sym (exact_magic.takes j.0 j.1 j.4).0 ∙ ap (λ (y : ℕ × B). y.0) k.5.0

unmarked_header : Unmarked header (λ x. canon x.0 x.1)
unmarked_header = unmarked_as header_flat (unmarked_into whole parts
    (λ x b sp i. (letters_are (λ _. version then λ v. numrecs v then λ _. lists v) x b sp i, (x.1.0, (x.1.1.0, (x.1.1.1.0, (x.1.1.1.1.0, zip_maps x.1.1.1.1.1 i))))))
    (unmarked_then (unmarked_exact exact_magic) (λ _. unmarked_then (unmarked_exact exact_version) (λ v. unmarked_then (unmarked_exact (exact_numrecs v)) (λ _.
    unmarked_then (unmarked_list v 10 (unmarked_dim v)) (λ dims. unmarked_then (unmarked_attrs v) (λ _. unmarked_list v 11 (λ _. unmarked_var v dims))))))))

pub unmarked_is_canonical : (s : Schema) (places : List Place) (b : List ℕ) → IsHeader s places b → header_marks b ≡ [] → b ≡ canon s places
unmarked_is_canonical s places b h none = unmarked_header.canonical (s, places) b 0 (fields_spell s places b h) none
