-- A grammar of fields is exact if it spells just what a language says: one lemma for each way of making grammars.
use Rattle.std.proofs.Common.{◌≡◌, ℕ, zero, suc, ◌^◌, ◌<◌, List, [], ◌∷◌, ◌++◌, length, Option, None, refl, sym, ap, subst, subst₂, ◌∙◌, append_assoc, append-nil, arith}
use mathlib.Core.Path.{fun_ext}
use Rattle.ncc_values.specs.Numbers.{IsBytes, big_endian, number_of}
use Rattle.ncc_values.specs.BigEndian.{length-big_endian, bytes-big_endian, number_of-big_endian, big_endian-number_of, number_of-lt}
use Rattle.ncc_header.specs.declared.fault.Wrong.{Wrong}
use Rattle.ncc_header.specs.Grammar.{Label, Grammar, done, field, Spells, ◌>>=◌, ◌into◌, repeat}
use Rattle.ncc_schema.specs.Header.{◌⨾◌, exactly, each}
use Rattle.ncc_schema.specs.Header as spelled
use Rattle.ncc_header.specs.Fields.{number_field, bytes, padding}
use Rattle.ncc_header.proofs.GrammarLaws.{joined, join}

-- the fields of g, and then those that its value asks for
infixr 12 ◌then◌
abbrev pub ◌then◌ : {A B : Type 0} → Grammar A → (A → Grammar B) → Grammar (A × B)
g then h = g >>= λ a. h a >>= λ b. done (a, b)

-- joining is associative
pub join_assoc : {A B C : Type 0} (g : Grammar A) (f : A → Grammar B) (h : B → Grammar C) → ((g >>= f) >>= h) ≡ (g >>= λ a. f a >>= h)
join_assoc (done x) f h = refl
join_assoc (field label size wrong next) f h = ap (field label size wrong) (fun_ext (λ b. join_assoc (next b) f h))

-- pairs taken apart
pub flat : {A B C : Type 0} (g : Grammar A) (h : A → Grammar B) (k : A × B → Grammar C) → ((g then h) >>= k) ≡ (g >>= λ a. h a >>= λ b. k (a, b))
flat g h k = join_assoc g (λ a. h a >>= λ b. done (a, b)) k ∙ ap (λ q. g >>= q) (fun_ext (λ a. join_assoc (h a) (λ b. done (a, b)) k))

-- the grammar spells a by b exactly if a fits and b is in its language
pub record Exact {A : Type 0} (g : Grammar A) (Fits : A → Type 0) (language : A → List ℕ → Type 0) : Type 0 where
  pub takes : (a : A) (b : List ℕ) → Spells g a b → Fits a × language a b
  pub gives : (a : A) (b : List ℕ) → Fits a → language a b → Spells g a b

-- the first part, the rest by its value
pub exact_then : {A B : Type 0} {g : Grammar A} {h : A → Grammar B} {F : A → Type 0} {S : A → List ℕ → Type 0} {G : A → B → Type 0} {T : A → B → List ℕ → Type 0}
    → Exact g F S → ((a : A) → F a → Exact (h a) (G a) (T a)) → Exact (g then h) (λ c. F c.0 × G c.0 c.1) (λ c. S c.0 ⨾ T c.0 c.1)
exact_then {A = A} {B = B} {g = g} {h = h} {F = F} {S = S} {G = G} {T = T} first rest = record { takes = takes; gives = gives }
  where
    takes : (c : A × B) (b : List ℕ) → Spells (g then h) c b → (F c.0 × G c.0 c.1) × (S c.0 ⨾ T c.0 c.1) b
    takes c b sp =
        let j = joined g (λ a. h a >>= λ x. done (a, x)) c b sp in
        let k = joined (h j.0) (λ x. done (j.0, x)) c j.2 j.5 in
        let one = first.takes j.0 j.1 j.4 in
        let two = (rest j.0 one.0).takes k.0 k.1 k.4 in
        let whole : j.2 ≡ k.1 = k.3 ∙ ap (λ (t : List ℕ). k.1 ++ t) k.5.1 ∙ append-nil k.1 in
        subst (λ (d : A × B). (F d.0 × G d.0 d.1) × (S d.0 ⨾ T d.0 d.1) b) k.5.0
        ((one.0, two.0), (j.1, k.1, j.3 ∙ ap (λ (t : List ℕ). j.1 ++ t) whole, one.1, two.1))

    gives : (c : A × B) (b : List ℕ) → F c.0 × G c.0 c.1 → (S c.0 ⨾ T c.0 c.1) b → Spells (g then h) c b
    gives c b f s =
        let last : Spells (h c.0 >>= λ x. done (c.0, x)) c (s.1 ++ []) = join (h c.0) (λ x. done (c.0, x)) c.1 c s.1 [] ((rest c.0 f.0).gives c.1 s.1 f.1 s.4) (refl, refl) in
        let both : Spells (g then h) c (s.0 ++ (s.1 ++ [])) = join g (λ a. h a >>= λ x. done (a, x)) c.0 c s.0 (s.1 ++ []) (first.gives c.0 s.0 f.0 s.3) last in
        subst (λ (t : List ℕ). Spells (g then h) c t) (ap (λ (t : List ℕ). s.0 ++ t) (append-nil s.1) ∙ sym s.2) both

-- the same values, written otherwise
pub exact_into : {A B : Type 0} {g : Grammar A} {F : A → Type 0} {S : A → List ℕ → Type 0} (to : A → B) (from : B → A)
    → Exact g F S → ((a : A) → F a → from (to a) ≡ a) → Exact (g into to) (λ b. F (from b) × (to (from b) ≡ b)) (λ b. S (from b))
exact_into {A = A} {B = B} {g = g} {F = F} {S = S} to from e back = record { takes = takes; gives = gives }
  where
    takes : (c : B) (b : List ℕ) → Spells (g into to) c b → (F (from c) × (to (from c) ≡ c)) × S (from c) b
    takes c b sp =
        let j = joined g (λ a. done (to a)) c b sp in
        let one = e.takes j.0 j.1 j.4 in
        let is : from c ≡ j.0 = ap from (sym j.5.0) ∙ back j.0 one.0 in
        let whole : b ≡ j.1 = j.3 ∙ ap (λ (t : List ℕ). j.1 ++ t) j.5.1 ∙ append-nil j.1 in
        ((subst F (sym is) one.0, ap to is ∙ j.5.0), subst (λ (a : A). S a b) (sym is) (subst (S j.0) (sym whole) one.1))

    gives : (c : B) (b : List ℕ) → F (from c) × (to (from c) ≡ c) → S (from c) b → Spells (g into to) c b
    gives c b f s =
        subst (λ (t : List ℕ). Spells (g into to) c t) (append-nil b) (join g (λ a. done (to a)) (from c) c b [] (e.gives (from c) b f.0 s) (f.1, refl))

-- what fits, said otherwise
pub exact_fits : {A : Type 0} {g : Grammar A} {F G : A → Type 0} {S : A → List ℕ → Type 0} → Exact g F S → ((a : A) → F a → G a) → ((a : A) → G a → F a) → Exact g G S
exact_fits e to from = record { takes = λ a b sp. (to a (e.takes a b sp).0, (e.takes a b sp).1); gives = λ a b f s. e.gives a b (from a f) s }

-- each of them, told of those before it
abbrev pub AllAfter : {A : Type 0} → (List A → A → Type 0) → List A → List A → Type 0
AllAfter F before [] = Unit {0}
AllAfter F before (a ∷ items) = F before a × AllAfter F (before ++ a ∷ []) items

abbrev pub Items : {A : Type 0} → (List A → A → Type 0) → List A → ℕ → List A → Type 0
Items F before k items = (length items ≡ k) × AllAfter F before items

-- k more items after those before
repeat_takes : {A : Type 0} {g : List A → Grammar A} {F : List A → A → Type 0} {S : A → List ℕ → Type 0} → ((before : List A) → Exact (g before) (F before) S)
    → (before : List A) (k : ℕ) (all : List A) (b : List ℕ) → Spells (repeat g before k) all b → (items : List A) × (all ≡ before ++ items) × Items F before k items × each S items b
repeat_takes e before zero all b sp = ([], sym sp.0 ∙ sym (append-nil before), (refl, tt), sp.1)
repeat_takes {A = A} {g = g} {F = F} {S = S} e before (suc k) all b sp =
    let j = joined (g before) (λ a. repeat g (before ++ a ∷ []) k) all b sp in
    let one = (e before).takes j.0 j.1 j.4 in
    let two = repeat_takes {F = F} {S = S} e (before ++ j.0 ∷ []) k all j.2 j.5 in
    (j.0 ∷ two.0, two.1 ∙ append_assoc before (j.0 ∷ []) two.0, (ap suc two.2.0, (one.0, two.2.1)), (j.1, j.2, j.3, one.1, two.3))

repeat_gives : {A : Type 0} {g : List A → Grammar A} {F : List A → A → Type 0} {S : A → List ℕ → Type 0} → ((before : List A) → Exact (g before) (F before) S)
    → (before : List A) (k : ℕ) (items : List A) (b : List ℕ) → Items F before k items → each S items b → Spells (repeat g before k) (before ++ items) b
repeat_gives e before zero [] b f s = (sym (append-nil before), s)
repeat_gives e before zero (a ∷ items) b f s = absurd (omega (arith, f.0))
repeat_gives e before (suc k) [] b f s = absurd (omega (arith, f.0))
repeat_gives {A = A} {g = g} {F = F} {S = S} e before (suc k) (a ∷ items) b f s =
    let others : Spells (repeat g (before ++ a ∷ []) k) ((before ++ a ∷ []) ++ items) s.1 = repeat_gives {F = F} {S = S} e (before ++ a ∷ []) k items s.1 (omega (arith, f.0), f.1.1) s.4 in
    let both : Spells (repeat g before (suc k)) ((before ++ a ∷ []) ++ items) (s.0 ++ s.1) = join (g before) (λ a. repeat g (before ++ a ∷ []) k) a ((before ++ a ∷ []) ++ items) s.0 s.1 ((e before).gives a s.0 f.1.0 s.3) others in
    subst₂ (λ (x : List A) (t : List ℕ). Spells (repeat g before (suc k)) x t) (append_assoc before (a ∷ []) items) (sym s.2) both

-- a number, and that many items
pub exact_counted : {A : Type 0} {head : Grammar ℕ} {H : ℕ → Type 0} {R : ℕ → List ℕ → Type 0} {g : List A → Grammar A} {F : List A → A → Type 0} {S : A → List ℕ → Type 0}
    → Exact head H R → ((before : List A) → Exact (g before) (F before) S) → Exact (head >>= λ n. repeat g [] n) (λ items. H (length items) × AllAfter F [] items) (λ items. R (length items) ⨾ each S items)
exact_counted {A = A} {head = head} {H = H} {R = R} {g = g} {F = F} {S = S} h e = record { takes = takes; gives = gives }
  where
    takes : (all : List A) (b : List ℕ) → Spells (head >>= λ n. repeat g [] n) all b → (H (length all) × AllAfter F [] all) × (R (length all) ⨾ each S all) b
    takes all b sp =
        let j = joined head (λ n. repeat g [] n) all b sp in
        let one = h.takes j.0 j.1 j.4 in
        let two = repeat_takes {F = F} {S = S} e [] j.0 all j.2 j.5 in
        let len : j.0 ≡ length all = sym two.2.0 ∙ ap length (sym two.1) in
        ((subst H len one.0, subst (AllAfter F []) (sym two.1) two.2.1), (j.1, j.2, j.3, subst (λ (n : ℕ). R n j.1) len one.1, subst (λ (x : List A). each S x j.2) (sym two.1) two.3))

    gives : (all : List A) (b : List ℕ) → H (length all) × AllAfter F [] all → (R (length all) ⨾ each S all) b → Spells (head >>= λ n. repeat g [] n) all b
    gives all b f s = subst (λ (t : List ℕ). Spells (head >>= λ n. repeat g [] n) all t) (sym s.2)
        (join head (λ n. repeat g [] n) (length all) all s.0 s.1 (h.gives (length all) s.0 f.0 s.3) (repeat_gives {F = F} {S = S} e [] (length all) all s.1 (refl, f.1) s.4))

-- the same grammar, written otherwise
pub exact_as : {A : Type 0} {g h : Grammar A} {F : A → Type 0} {S : A → List ℕ → Type 0} → g ≡ h → Exact g F S → Exact h F S
exact_as {F = F} {S = S} p e = subst (λ g. Exact g F S) p e

-- ---- single fields

pub exact_number : (label : Label) (w : ℕ) (wrong : ℕ → Option Wrong) → Exact (number_field label w wrong) (λ n. (n < 256 ^ w) × (wrong n ≡ None)) (spelled.number w)
exact_number label w wrong = record { takes = takes; gives = gives }
  where
    takes : (n : ℕ) (b : List ℕ) → Spells (number_field label w wrong) n b → ((n < 256 ^ w) × (wrong n ≡ None)) × spelled.number w n b
    takes n b sp =
        let whole : b ≡ sp.0 = sp.2 ∙ ap (λ (t : List ℕ). sp.0 ++ t) sp.6.1 ∙ append-nil sp.0 in
        subst (λ (m : ℕ). ((m < 256 ^ w) × (wrong m ≡ None)) × spelled.number w m b) sp.6.0
        ((number_of-lt w sp.0 sp.4 sp.3, sp.5), whole ∙ sym (subst (λ (k : ℕ). big_endian k (number_of sp.0) ≡ sp.0) sp.3 (big_endian-number_of sp.0 sp.4)))

    gives : (n : ℕ) (b : List ℕ) → (n < 256 ^ w) × (wrong n ≡ None) → spelled.number w n b → Spells (number_field label w wrong) n b
    gives n b f s = (big_endian w n, [], s ∙ sym (append-nil (big_endian w n)), length-big_endian w n, bytes-big_endian w n, rw (number_of-big_endian w n f.0) f.1, (number_of-big_endian w n f.0, refl))

pub exact_bytes : (n : ℕ) → Exact (bytes n) (λ x. (length x ≡ n) × IsBytes x) exactly
exact_bytes n = record {
  takes = λ x b sp. subst (λ (y : List ℕ). ((length y ≡ n) × IsBytes y) × exactly y b) sp.6.0 ((sp.3, sp.4), sp.2 ∙ ap (λ (t : List ℕ). sp.0 ++ t) sp.6.1 ∙ append-nil sp.0);
  gives = λ x b f s. (x, [], s ∙ sym (append-nil x), f.0, f.1, refl, (refl, refl));
}

pub exact_padding : (n : ℕ) → Exact (padding n) (λ _. Unit {0}) (λ _. spelled.padding n)
exact_padding n = record {
  takes = λ x b sp.
      let whole : sp.0 ≡ b = sym (sp.2 ∙ ap (λ (t : List ℕ). sp.0 ++ t) sp.6.1 ∙ append-nil sp.0) in
      (tt, (ap length (sym whole) ∙ sp.3, subst IsBytes whole sp.4));
  gives = λ x b f s. (b, [], sym (append-nil b), s.0, s.1, refl, (refl, refl));
}
