-- Names and lists: their rules are exact.
use Rattle.std.proofs.Common.{◌≡◌, ℕ, ◌^◌, ◌<◌, Bool, true, false, not, ◌&&◌, ◌||◌, List, [], ◌∷◌, ◌++◌, length, None, refl, sym, ap, subst, arith, inl, inr}
use Rattle.std.specs.List.{AllByRecursion}
use Rattle.std.specs.Prelude.{◌==◌}
use Rattle.std.proofs.lemmas.Bool.{lt-ltb, eqb-true, eq-eqb, ne_eqb}
use Rattle.ncc_values.specs.Numbers.{IsBytes, big_endian}
use Rattle.ncc_values.specs.Version.{count_width_of}
use Rattle.ncc_values.specs.declared.version.Version.{Version}
use Rattle.ncc_header.specs.declared.fault.FaultKind.TheVariants.{NegativeCount, BadTag}
use Rattle.ncc_header.specs.Grammar.{Plain, Grammar, Spells}
use Rattle.ncc_schema.specs.Schema.{count_limit, LegalName}
use Rattle.ncc_schema.specs.Header.{list_tag}
use Rattle.ncc_schema.specs.Header as spelled
use Rattle.ncc_header.specs.Fields.{unless, at_tag_if, nelems_wrong, tag_wrong, list_nelems_wrong, number, nelems, name, label_of_count, list_nelems, list_head, list}
use Rattle.ncc_header.proofs.GrammarLaws.{joined, join}
use Rattle.ncc_header.proofs.Exact.{Exact, exact_then, exact_into, exact_fits, exact_counted, AllAfter, exact_number, exact_bytes, exact_padding}
use Rattle.ncc_header.proofs.Judgements.{first-none, at_tag_if-none, below-none, none-below, not-false, count_limit-fits}

-- ---- names

pub exact_nelems : (v : Version) → Exact (nelems v) (λ n. n < count_limit v) (spelled.non_neg v)
exact_nelems v = exact_fits (exact_number Plain (count_width_of v) (nelems_wrong v))
    (λ n f. below-none n (count_limit v) NegativeCount f.1)
    (λ n f. (omega (arith, f, count_limit-fits v), none-below n (count_limit v) NegativeCount f))

pub exact_name : (v : Version) → Exact (name v) (λ n. LegalName v n × IsBytes n) (spelled.name v)
exact_name v = exact_fits (exact_into (λ x. x.1.0) (λ n. (length n, (n, tt))) (exact_then (exact_nelems v) (λ n f. exact_then (exact_bytes n) (λ _ f. exact_padding n)))
    (λ a f. ap (λ (k : ℕ). (k, (a.1.0, tt))) f.1.0.0))
    (λ n f. (f.0.0, f.0.1.0.1))
    (λ n f. ((f.0, ((refl, f.1), tt)), refl))

-- ---- the head of a list

-- what a tag and the number behind it are judged for, read together
pub tag_takes : (own t n : ℕ) (is_zero is_own : Bool) → (t == 0) ≡ is_zero → (t == own) ≡ is_own → unless (is_zero || is_own) BadTag ≡ None → at_tag_if (is_zero && not (n == 0)) BadTag ≡ None → list_tag own n (big_endian 4 t)
tag_takes own t n true is_own z o h k =
    let empty : n ≡ 0 = eqb-true n 0 (not-false (n == 0) (at_tag_if-none (not (n == 0)) BadTag k)) in
    inr (empty, ap (big_endian 4) (eqb-true t 0 z))
tag_takes own t n false true z o h k = inl (ap (big_endian 4) (eqb-true t own o))
tag_takes own t n false false z o h k = absurd cc

pub exact_head : (v : Version) (own : ℕ) → 0 < own → own < 256 ^ 4 → Exact (list_head v own) (λ n. n < count_limit v) (spelled.list_head v own)
exact_head v own pos small = record { takes = takes; gives = gives }
  where
    takes : (n : ℕ) (b : List ℕ) → Spells (list_head v own) n b → (n < count_limit v) × spelled.list_head v own n b
    takes n b sp =
        let j = joined (number 4 (tag_wrong own)) (list_nelems v) n b sp in
        let one = (exact_number Plain 4 (tag_wrong own)).takes j.0 j.1 j.4 in
        let two = (exact_number (label_of_count j.0) (count_width_of v) (list_nelems_wrong v j.0)).takes n j.2 j.5 in
        let both = first-none (nelems_wrong v n) (at_tag_if ((j.0 == 0) && not (n == 0)) BadTag) two.0.1 in (
          below-none n (count_limit v) NegativeCount both.0,
          (j.1, j.2, j.3, subst (list_tag own n) (sym one.1) (tag_takes own j.0 n (j.0 == 0) (j.0 == own) refl refl one.0.1 both.1), two.1),
        )

    gives_at : (t n : ℕ) (x y : List ℕ) → t < 256 ^ 4 → tag_wrong own t ≡ None → n < count_limit v → list_nelems_wrong v t n ≡ None → x ≡ big_endian 4 t → y ≡ big_endian (count_width_of v) n → Spells (list_head v own) n (x ++ y)
    gives_at t n x y low tag_ok few count_ok is also =
        join (number 4 (tag_wrong own)) (list_nelems v) t n x y
        ((exact_number Plain 4 (tag_wrong own)).gives t x (low, tag_ok) is)
        ((exact_number (label_of_count t) (count_width_of v) (list_nelems_wrong v t)).gives n y (omega (arith, few, count_limit-fits v), count_ok) also)

    by_tag : (n : ℕ) (x y : List ℕ) → n < count_limit v → list_tag own n x → y ≡ big_endian (count_width_of v) n → Spells (list_head v own) n (x ++ y)
    by_tag n x y few (inl is) also =
        gives_at own n x y small (rw (ne_eqb own 0 (omega (arith, pos)), eq-eqb own own refl) refl) few (rw (ne_eqb own 0 (omega (arith, pos)), lt-ltb n (count_limit v) few) refl) is also
    by_tag n x y few (inr is) also =
        gives_at 0 n x y (omega arith) refl few (rw (lt-ltb n (count_limit v) few, is.0) refl) is.1 also

    gives : (n : ℕ) (b : List ℕ) → n < count_limit v → spelled.list_head v own n b → Spells (list_head v own) n b
    gives n b few s = subst (Spells (list_head v own) n) (sym s.2) (by_tag n s.0 s.1 few s.3 s.4)

-- ---- lists

pub exact_list : {A : Type 0} {item : List A → Grammar A} {F : List A → A → Type 0} {S : A → List ℕ → Type 0} (v : Version) (own : ℕ) → 0 < own → own < 256 ^ 4 → ((before : List A) → Exact (item before) (F before) S)
    → Exact (list v own item) (λ items. (length items < count_limit v) × AllAfter F [] items) (spelled.list v own S)
exact_list v own pos small e = exact_counted (exact_head v own pos small) e

-- where each item is judged alone

pub all_after : {A : Type 0} (F : A → Type 0) (before items : List A) → AllAfter (λ _. F) before items → AllByRecursion F items
all_after F before [] h = tt
all_after F before (a ∷ items) h = (h.0, all_after F (before ++ a ∷ []) items h.1)

pub after_all : {A : Type 0} (F : A → Type 0) (before items : List A) → AllByRecursion F items → AllAfter (λ _. F) before items
after_all F before [] h = tt
after_all F before (a ∷ items) h = (h.0, after_all F (before ++ a ∷ []) items h.1)

-- what holds of each item is two facts

pub all_both : {A : Type 0} (P Q : A → Type 0) (items : List A) → AllByRecursion (λ a. P a × Q a) items → AllByRecursion P items × AllByRecursion Q items
all_both P Q [] h = (tt, tt)
all_both P Q (a ∷ items) h = let rest = all_both P Q items h.1 in ((h.0.0, rest.0), (h.0.1, rest.1))

pub both_all : {A : Type 0} (P Q : A → Type 0) (items : List A) → AllByRecursion P items → AllByRecursion Q items → AllByRecursion (λ a. P a × Q a) items
both_all P Q [] h k = tt
both_all P Q (a ∷ items) h k = ((h.0, k.0), both_all P Q items h.1 k.1)
