-- Elements of lists, of their images and of what a test keeps.
use Rattle.std.proofs.Common.{◌≡◌, zero, suc, Bool, true, false, cond, List, [], ◌∷◌, map, refl, sym, ap, subst, ◌∙◌, arith, ◌⊎◌, inl, inr}
use Rattle.std.specs.Prelude.{Contains, filter}
use Rattle.std.specs.List.{AllByRecursion}
use Rattle.std.proofs.lemmas.List.Elements.{Contains-append_right}

-- an element, by recursion
abbrev pub In : {A : Type 0} → List A → A → Type 0
In [] a = ⊥
In (x ∷ xs) a = (x ≡ a) ⊎ In xs a

pub in_from_contains : {A : Type 0} (xs : List A) (a : A) → Contains xs a → In xs a
in_from_contains [] a (k, below, is) = absurd (omega (arith, below))
in_from_contains (x ∷ xs) a (zero, below, is) = inl is
in_from_contains (x ∷ xs) a (suc k, below, is) = inr (in_from_contains xs a (k, omega (arith, below), is))

pub contains_from_in : {A : Type 0} (xs : List A) (a : A) → In xs a → Contains xs a
contains_from_in [] a h = absurd h
contains_from_in (x ∷ xs) a (inl e) = subst (λ (y : _). Contains (x ∷ xs) y) e (0, omega arith, refl)
contains_from_in (x ∷ xs) a (inr h) = Contains-append_right (x ∷ []) xs a (contains_from_in xs a h)

pub in_map : {A B : Type 0} (f : A → B) (xs : List A) (a : A) → In xs a → In (map f xs) (f a)
in_map f [] a h = absurd h
in_map f (x ∷ xs) a (inl e) = inl (ap f e)
in_map f (x ∷ xs) a (inr h) = inr (in_map f xs a h)

pub in_mapped : {A B : Type 0} (f : A → B) (xs : List A) (b : B) → In (map f xs) b → (a : A) × In xs a × (f a ≡ b)
in_mapped f [] b h = absurd h
in_mapped f (x ∷ xs) b (inl e) = (x, inl refl, e)
in_mapped f (x ∷ xs) b (inr h) =
    let found = in_mapped f xs b h in
    (found.0, inr found.1, found.2)

kept : {A : Type 0} (b : Bool) (x : A) (ys : List A) (a : A) → In ys a → In (cond b (x ∷ ys) ys) a
kept true x ys a h = inr h
kept false x ys a h = h

kept_first : {A : Type 0} (b : Bool) (x : A) (ys : List A) (a : A) → b ≡ true → x ≡ a → In (cond b (x ∷ ys) ys) a
kept_first true x ys a t e = inl e
kept_first false x ys a t e = absurd cc

pub in_filter : {A : Type 0} (p : A → Bool) (xs : List A) (a : A) → p a ≡ true → In xs a → In (filter p xs) a
in_filter p [] a t h = absurd h
in_filter p (x ∷ xs) a t (inl e) = kept_first (p x) x (filter p xs) a (ap p e ∙ t) e
in_filter p (x ∷ xs) a t (inr h) = kept (p x) x (filter p xs) a (in_filter p xs a t h)

was_kept : {A : Type 0} (p : A → Bool) (b : Bool) (x : A) (ys : List A) (a : A) → p x ≡ b → In (cond b (x ∷ ys) ys) a → ((x ≡ a) × (p a ≡ true)) ⊎ In ys a
was_kept p true x ys a e (inl s) = inl (s, ap p (sym s) ∙ e)
was_kept p true x ys a e (inr h) = inr h
was_kept p false x ys a e h = inr h

sooner : {A : Type 0} (p : A → Bool) (x : A) (xs : List A) (a : A) → ((x ≡ a) × (p a ≡ true)) ⊎ (In xs a × (p a ≡ true)) → In (x ∷ xs) a × (p a ≡ true)
sooner p x xs a (inl h) = (inl h.0, h.1)
sooner p x xs a (inr h) = (inr h.0, h.1)

further : {A B C : Type 0} → A ⊎ B → (B → C) → A ⊎ C
further (inl a) f = inl a
further (inr b) f = inr (f b)

pub filter_in : {A : Type 0} (p : A → Bool) (xs : List A) (a : A) → In (filter p xs) a → In xs a × (p a ≡ true)
filter_in p [] a h = absurd h
filter_in p (x ∷ xs) a h = sooner p x xs a (further (was_kept p (p x) x (filter p xs) a refl h) (filter_in p xs a))

pub all_in : {A : Type 0} (P : A → Type 0) (xs : List A) (a : A) → AllByRecursion P xs → In xs a → P a
all_in P [] a all h = absurd h
all_in P (x ∷ xs) a all (inl e) = subst P e all.0
all_in P (x ∷ xs) a all (inr h) = all_in P xs a all.1 h

pub all_filter : {A : Type 0} (P : A → Type 0) (p : A → Bool) (xs : List A) → AllByRecursion P xs → AllByRecursion P (filter p xs)
all_filter P p [] all = tt
all_filter P p (x ∷ xs) all = all_kept (p x) (filter p xs) all.0 (all_filter P p xs all.1)
  where
    all_kept : (b : Bool) (ys : List _) → P x → AllByRecursion P ys → AllByRecursion P (cond b (x ∷ ys) ys)
    all_kept true ys h k = (h, k)
    all_kept false ys h k = k
