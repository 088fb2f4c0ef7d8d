-- Lists made of a run of numbers.
use Rattle.std.proofs.Common.{◌≡◌, ℕ, zero, suc, ◌+◌, ◌-◌, ◌*◌, ◌<◌, ◌≤◌, List, [], ◌∷◌, ◌++◌, map, take, drop, refl, sym, ap, ◌∙◌, arith}
use Rattle.std.specs.List.{AllByRecursion, range_with_len}
use Rattle.std.proofs.lemmas.List.FromFn.{take-map-range_with_len}

-- a run, and after it the next one
pub map-range_split : {A : Type 0} (f : ℕ → A) (x y z next : ℕ) → x + y ≡ next → map f (range_with_len x (y + z)) ≡ map f (range_with_len x y) ++ map f (range_with_len next z)
map-range_split f x zero z next e =
    ap (λ (n : ℕ). map f (range_with_len x n)) (let same : zero + z ≡ z = omega arith in same)
    ∙ ap (λ (n : ℕ). map f (range_with_len n z)) (let same : x ≡ next = omega (arith, e) in same)
map-range_split f x (suc y) z next e =
    ap (λ (n : ℕ). map f (range_with_len x n)) (let same : suc y + z ≡ suc (y + z) = omega arith in same)
    ∙ ap (λ l. f x ∷ l) (map-range_split f (x + 1) y z next (omega (arith, e)))

-- the same numbers at other places
pub map-range_shift : {A : Type 0} (f g : ℕ → A) (x i n : ℕ) → ((k : ℕ) → i ≤ k → k < i + n → f (x + k) ≡ g k) → map f (range_with_len (x + i) n) ≡ map g (range_with_len i n)
map-range_shift f g x i zero same = refl
map-range_shift f g x i (suc n) same =
    ap (λ a. a ∷ map f (range_with_len (x + i + 1) n)) (same i (omega arith) (omega arith))
    ∙ ap (λ (m : ℕ). g i ∷ map f (range_with_len m n)) (let one : x + i + 1 ≡ x + (i + 1) = omega arith in one)
    ∙ ap (λ l. g i ∷ l) (map-range_shift f g x (i + 1) n (λ k low high. same k (omega (arith, low)) (omega (arith, high))))

pub take-map-range : {A : Type 0} (f : ℕ → A) (a n k : ℕ) → k ≤ n → take k (map f (range_with_len a n)) ≡ map f (range_with_len a k)
take-map-range f a n k le = take-map-range_with_len f a n k le

pub drop-map-range : {A : Type 0} (f : ℕ → A) (k a n next : ℕ) → a + k ≡ next → drop k (map f (range_with_len a n)) ≡ map f (range_with_len next (n - k))
drop-map-range f zero a n next e =
    ap (λ (m : ℕ). map f (range_with_len m n)) (let same : a ≡ next = omega (arith, e) in same)
    ∙ ap (λ (m : ℕ). map f (range_with_len next m)) (let same : n ≡ n - 0 = omega arith in same)
drop-map-range f (suc k) a zero next e = ap (λ (m : ℕ). map f (range_with_len next m)) (let none : 0 ≡ 0 - suc k = omega arith in none)
drop-map-range f (suc k) a (suc n) next e =
    drop-map-range f k (a + 1) n next (omega (arith, e))
    ∙ ap (λ (m : ℕ). map f (range_with_len next m)) (let same : n - k ≡ suc n - suc k = omega arith in same)

-- what holds of all items holds of each
pub all-range : {A : Type 0} (f : ℕ → A) (P : A → Type 0) (a n : ℕ) → AllByRecursion P (map f (range_with_len a n)) → (k : ℕ) → k < n → P (f (a + k))
all-range f P a zero all k lt = absurd (omega (arith, lt))
all-range f P a (suc n) all zero lt = let same : a ≡ a + zero = omega arith in rw (← same) all.0
all-range f P a (suc n) all (suc k) lt =
    let same : a + 1 + k ≡ a + suc k = omega arith in
    rw (← same) (all-range f P (a + 1) n all.1 k (omega (arith, lt)))

pub map_same : {A B : Type 0} (f g : A → B) (P : A → Type 0) → ((a : A) → P a → f a ≡ g a) → (xs : List A) → AllByRecursion P xs → map f xs ≡ map g xs
map_same f g P same [] all = refl
map_same f g P same (x ∷ xs) all = ap (λ b. b ∷ map f xs) (same x all.0) ∙ ap (λ l. g x ∷ l) (map_same f g P same xs all.1)

pub map_each : {A B : Type 0} (f g : A → B) → ((a : A) → f a ≡ g a) → (xs : List A) → map f xs ≡ map g xs
map_each f g same [] = refl
map_each f g same (x ∷ xs) = ap (λ b. b ∷ map f xs) (same x) ∙ ap (λ l. g x ∷ l) (map_each f g same xs)

pub last_and_one : (m size : ℕ) → 0 < m → (m - 1) * size + size ≡ m * size
last_and_one zero size some = absurd (omega (arith, some))
last_and_one (suc m) size some =
    let less : suc m - 1 ≡ m = omega arith in
    ap (λ (n : ℕ). n * size + size) less ∙ omega arith

-- what is left after the next ones
pub rest_behind : {A : Type 0} (f : ℕ → A) (taken count n : ℕ) → map f (range_with_len (taken + n) (count - (taken + n))) ≡ drop n (map f (range_with_len taken (count - taken)))
rest_behind f taken count n =
    let same : count - taken - n ≡ count - (taken + n) = omega arith in
    sym (drop-map-range f n taken (count - taken) (taken + n) refl ∙ ap (λ (m : ℕ). map f (range_with_len (taken + n) m)) same)
