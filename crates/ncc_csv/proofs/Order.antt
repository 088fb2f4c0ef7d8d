-- The index lists below some counts, by their number.
use Rattle.std.proofs.Common.{◌≡◌, ℕ, zero, suc, ◌+◌, ◌*◌, ◌/◌, ◌%◌, ◌<◌, ◌≤◌, List, [], ◌∷◌, ◌++◌, map, length, get_or, take, drop, set, decimal, append_assoc, refl, sym, ap, subst, ◌∙◌, arith}
use Rattle.std.specs.List.{flat_map, range_with_len}
use Rattle.std.proofs.lemmas.List.{append-nil, length-map, length-append, map-append, get_or-map, take_more, length-take-le, drop-set, drop_all}
use Rattle.std.proofs.lemmas.List.Concat.{get_or-flat_map, flat_map_single}
use Rattle.std.proofs.lemmas.List.Folds.{flat_map-map}
use Rattle.std.proofs.lemmas.List.FromFn.{length-range_with_len, get_or-range_with_len}
use Rattle.std.proofs.lemmas.Grind.{flat_map-append}
use Rattle.std.proofs.Math.Nat.{mod-add-div', div-lt_iff_lt-mul}
use Rattle.ncc_slab.specs.Selection.{index_lists, index_of}
use Rattle.ncc_slab.specs.declared.slab.Slab.{Slab}
use Rattle.ncc_csv.specs.Rows.{HasIndices}
use Rattle.ncc_csv.specs.Runs.{leading_texts}

-- ---- lists of lists

flat_map_same : {A B : Type 0} (f g : A → List B) → ((a : A) → f a ≡ g a) → (xs : List A) → flat_map f xs ≡ flat_map g xs
flat_map_same f g same [] = refl
flat_map_same f g same (x ∷ xs) = ap (λ z. z ++ flat_map f xs) (same x) ∙ ap (λ z. g x ++ z) (flat_map_same f g same xs)

flat_map-flat_map : {A B C : Type 0} (g : B → List C) (f : A → List B) (xs : List A) → flat_map g (flat_map f xs) ≡ flat_map (λ x. flat_map g (f x)) xs
flat_map-flat_map g f [] = refl
flat_map-flat_map g f (x ∷ xs) = flat_map-append g (f x) (flat_map f xs) ∙ ap (λ z. flat_map g (f x) ++ z) (flat_map-flat_map g f xs)

pub map-map : {A B C : Type 0} (g : B → C) (f : A → B) (xs : List A) → map g (map f xs) ≡ map (λ x. g (f x)) xs
map-map g f [] = refl
map-map g f (x ∷ xs) = ap (λ z. g (f x) ∷ z) (map-map g f xs)

map-flat_map : {A B C : Type 0} (g : B → C) (f : A → List B) (xs : List A) → map g (flat_map f xs) ≡ flat_map (λ x. map g (f x)) xs
map-flat_map g f [] = refl
map-flat_map g f (x ∷ xs) = map-append g (f x) (flat_map f xs) ∙ ap (λ z. map g (f x) ++ z) (map-flat_map g f xs)

-- ---- one more dimension after the others

-- the lists that begin with this one
abbrev behind : (c : ℕ) → List ℕ → List (List ℕ)
behind c ks = map (λ k. ks ++ k ∷ []) (range_with_len 0 c)

-- those below the counts, and one more count
index_lists-append : (cs : List ℕ) (c : ℕ) → index_lists (cs ++ c ∷ []) ≡ flat_map (behind c) (index_lists cs)
index_lists-append [] c = flat_map_single (λ (k : ℕ). k ∷ []) (range_with_len 0 c) ∙ sym (append-nil (behind c []))
index_lists-append (b ∷ cs) c =
    flat_map_same (λ k. map (λ ks. k ∷ ks) (index_lists (cs ++ c ∷ []))) (λ k. flat_map (behind c) (map (λ ks. k ∷ ks) (index_lists cs)))
    (λ k.
    ap (λ z. map (λ (ks : List ℕ). k ∷ ks) z) (index_lists-append cs c)
    ∙ map-flat_map (λ (ks : List ℕ). k ∷ ks) (behind c) (index_lists cs)
    ∙ flat_map_same (λ ks. map (λ (js : List ℕ). k ∷ js) (behind c ks)) (λ ks. behind c (k ∷ ks)) (λ ks. map-map (λ (js : List ℕ). k ∷ js) (λ j. ks ++ j ∷ []) (range_with_len 0 c)) (index_lists cs)
    ∙ sym (flat_map-map (behind c) (λ (ks : List ℕ). k ∷ ks) (index_lists cs)))
    (range_with_len 0 b)
    ∙ sym (flat_map-flat_map (behind c) (λ k. map (λ ks. k ∷ ks) (index_lists cs)) (range_with_len 0 b))

length-behind : (c : ℕ) (ks : List ℕ) → length (behind c ks) ≡ c
length-behind c ks = length-map (range_with_len 0 c) (λ k. ks ++ k ∷ []) ∙ length-range_with_len 0 c

get_or-behind : (c : ℕ) (ks : List ℕ) (j : ℕ) → j < c → get_or (behind c ks) j [] ≡ ks ++ j ∷ []
get_or-behind c ks j lt =
    get_or-map (λ k. ks ++ k ∷ []) (range_with_len 0 c) j 0 [] (omega (arith, lt, length-range_with_len 0 c))
    ∙ ap (λ (k : ℕ). ks ++ k ∷ []) (get_or-range_with_len 0 c j 0 lt ∙ omega arith)

length-all_behind : (c : ℕ) (lists : List (List ℕ)) → length (flat_map (behind c) lists) ≡ length lists * c
length-all_behind c [] = omega arith
length-all_behind c (ks ∷ lists) =
    omega (arith, length-append (behind c ks) (flat_map (behind c) lists), length-behind c ks, length-all_behind c lists)

pub length-index_lists : (cs : List ℕ) (c : ℕ) → length (index_lists (cs ++ c ∷ [])) ≡ length (index_lists cs) * c
length-index_lists cs c = ap (λ (l : List (List ℕ)). length l) (index_lists-append cs c) ∙ length-all_behind c (index_lists cs)

-- the list with the number i c + j
pub get_or-index_lists : (cs : List ℕ) (c i j : ℕ) → i < length (index_lists cs) → j < c → get_or (index_lists (cs ++ c ∷ [])) (i * c + j) [] ≡ get_or (index_lists cs) i [] ++ j ∷ []
get_or-index_lists cs c i j there lt =
    let lists = index_lists cs in
    let front : length (flat_map (behind c) (take i lists)) ≡ i * c =
    length-all_behind c (take i lists) ∙ ap (λ (n : ℕ). n * c) (length-take-le i lists (omega (arith, there))) in
    let place : length (flat_map (behind c) (take i lists)) + j ≡ i * c + j = ap (λ (n : ℕ). n + j) front in
    ap (λ (l : List (List ℕ)). get_or l (i * c + j) []) (index_lists-append cs c)
    ∙ sym (ap (λ (n : ℕ). get_or (flat_map (behind c) lists) n []) place)
    ∙ get_or-flat_map (behind c) lists i j [] [] there (omega (arith, lt, length-behind c (get_or lists i [])))
    ∙ get_or-behind c (get_or lists i []) j lt

-- by the number of a list: its last index, and the number of the others
pub record LastIndex (cs : List ℕ) (c n : ℕ) : Type 0 where
  pub some : 0 < c
  pub there : n / c < length (index_lists cs)
  pub is : get_or (index_lists (cs ++ c ∷ [])) n [] ≡ get_or (index_lists cs) (n / c) [] ++ (n % c) ∷ []

some_of : (a n c : ℕ) → n < a * c → 0 < c
some_of a n zero lt = absurd (omega (arith, lt))
some_of a n (suc c) lt = omega arith

pub last_index : (cs : List ℕ) (c n : ℕ) → n < length (index_lists (cs ++ c ∷ [])) → LastIndex cs c n
last_index cs c n lt =
    let below : n < length (index_lists cs) * c = omega (arith, lt, length-index_lists cs c) in
    let some = some_of (length (index_lists cs)) n c below in
    let there : n / c < length (index_lists cs) = (div-lt_iff_lt-mul some).1 below in
    let parts : n / c * c + n % c ≡ n = omega (arith, mod-add-div' n c) in
    record {
      some = some;
      there = there;
      is = sym (ap (λ (k : ℕ). get_or (index_lists (cs ++ c ∷ [])) k []) parts) ∙ get_or-index_lists cs c (n / c) (n % c) there (omega (arith, some));
    }

-- ---- the first counts

-- one more of them
pub one_more : (counts : List ℕ) (i j : ℕ) → i + 1 ≡ j → j ≤ length counts → take j counts ≡ take i counts ++ get_or counts i 0 ∷ []
one_more counts i j e le = ap (λ (k : ℕ). take k counts) (sym e) ∙ take_more counts i 0 (omega (arith, e, le))

-- the last index there
pub last_of : (counts : List ℕ) (i j n : ℕ) → i + 1 ≡ j → j ≤ length counts → n < length (index_lists (take j counts)) → LastIndex (take i counts) (get_or counts i 0) n
last_of counts i j n e le lt =
    last_index (take i counts) (get_or counts i 0) n (subst (λ (cs : List ℕ). n < length (index_lists cs)) (one_more counts i j e le) lt)

-- a list has as many indices as there are counts
pub length-index_list : (counts : List ℕ) (i n : ℕ) → i ≤ length counts → n < length (index_lists (take i counts)) → length (get_or (index_lists (take i counts)) n []) ≡ i
length-index_list counts zero n le lt =
    let first : n ≡ 0 = omega (arith, lt) in
    ap (λ (k : ℕ). length (get_or (index_lists []) k [])) first
length-index_list counts (suc i) n le lt =
    let last = last_of counts i (suc i) n (omega arith) le lt in
    ap (λ (cs : List ℕ). length (get_or (index_lists cs) n [])) (one_more counts i (suc i) (omega arith) le)
    ∙ ap (λ (l : List ℕ). length l) last.is
    ∙ length-append (get_or (index_lists (take i counts)) (n / get_or counts i 0) []) ((n % get_or counts i 0) ∷ [])
    ∙ omega (arith, length-index_list counts i (n / get_or counts i 0) (omega (arith, le)) last.there)

-- ---- indices

-- no index
pub index_of-none : (start stride : List ℕ) → index_of start stride [] ≡ []
index_of-none [] stride = refl
index_of-none (s ∷ start) [] = refl
index_of-none (s ∷ start) (d ∷ stride) = refl

-- one more index after the others
pub index_of-append : (start stride ks : List ℕ) (k : ℕ) → length ks < length start → length ks < length stride
    → index_of start stride (ks ++ k ∷ []) ≡ index_of start stride ks ++ (get_or start (length ks) 0 + k * get_or stride (length ks) 0) ∷ []
index_of-append [] stride ks k a b = absurd (omega (arith, a))
index_of-append (s ∷ start) [] ks k a b = absurd (omega (arith, b))
index_of-append (s ∷ start) (d ∷ stride) [] k a b = ap (λ (l : List ℕ). (s + k * d) ∷ l) (index_of-none start stride)
index_of-append (s ∷ start) (d ∷ stride) (j ∷ ks) k a b = ap (λ (l : List ℕ). (s + j * d) ∷ l) (index_of-append start stride ks k (omega (arith, a)) (omega (arith, b)))

-- the same of a selection: the index along the dimension i after those before it
pub next_index : (s : Slab) (i : ℕ) (ks : List ℕ) (k : ℕ) → HasIndices s → i < length s.count → length ks ≡ i
    → map decimal (index_of s.start s.stride (ks ++ k ∷ [])) ≡ map decimal (index_of s.start s.stride ks) ++ decimal (get_or s.start i 0 + k * get_or s.stride i 0) ∷ []
next_index s i ks k has lt long =
    ap (λ (l : List ℕ). map decimal l) (index_of-append s.start s.stride ks k (omega (arith, lt, long, has.starts)) (omega (arith, lt, long, has.strides)))
    ∙ map-append decimal (index_of s.start s.stride ks) ((get_or s.start (length ks) 0 + k * get_or s.stride (length ks) 0) ∷ [])
    ∙ ap (λ (n : ℕ). map decimal (index_of s.start s.stride ks) ++ decimal (get_or s.start n 0 + k * get_or s.stride n 0) ∷ []) long

-- the text of the index along the dimension i, set in its place
pub one_text : (s : Slab) (i j n : ℕ) (texts : List (List ℕ)) (text : List ℕ) → HasIndices s → i + 1 ≡ j → j ≤ length s.count → j ≤ length texts → n < length (index_lists (take j s.count))
    → text ≡ decimal (get_or s.start i 0 + n % get_or s.count i 0 * get_or s.stride i 0)
    → leading_texts s i (n / get_or s.count i 0) ++ drop i (set texts i text) ≡ leading_texts s j n ++ drop j texts
one_text s i j n texts text has e le inside there is =
    let c = get_or s.count i 0 in
    let more : take j s.count ≡ take i s.count ++ c ∷ [] = one_more s.count i j e le in
    let last = last_of s.count i j n e le there in
    let others = get_or (index_lists (take i s.count)) (n / c) [] in
    let whole : leading_texts s j n ≡ leading_texts s i (n / c) ++ text ∷ [] =
    ap (λ (cs : List ℕ). map decimal (index_of s.start s.stride (get_or (index_lists cs) n []))) more
    ∙ ap (λ (l : List ℕ). map decimal (index_of s.start s.stride l)) last.is
    ∙ next_index s i others (n % c) has (omega (arith, e, le)) (length-index_list s.count i (n / c) (omega (arith, e, le)) last.there)
    ∙ ap (λ (t : List ℕ). leading_texts s i (n / c) ++ t ∷ []) (sym is) in
    ap (λ (l : List (List ℕ)). leading_texts s i (n / c) ++ l) (drop-set texts i text (omega (arith, e, inside)))
    ∙ sym (append_assoc (leading_texts s i (n / c)) (text ∷ []) (drop (i + 1) texts))
    ∙ ap (λ (l : List (List ℕ)). l ++ drop (i + 1) texts) (sym whole)
    ∙ ap (λ (k : ℕ). leading_texts s j n ++ drop k texts) e

-- none is set yet
pub no_texts : (s : Slab) (i n : ℕ) (texts : List (List ℕ)) → length texts ≡ i → leading_texts s i n ++ drop i texts ≡ leading_texts s i n
no_texts s i n texts long = ap (λ (l : List (List ℕ)). leading_texts s i n ++ l) (drop_all i texts (omega (arith, long))) ∙ append-nil (leading_texts s i n)

-- all are set
pub all_texts : (s : Slab) (n i : ℕ) (texts : List (List ℕ)) → i ≡ 0 → n < length (index_lists (take i s.count)) → leading_texts s i n ++ drop i texts ≡ texts
all_texts s n i texts none there =
    let first : n ≡ 0 = omega (arith, subst (λ (k : ℕ). n < length (index_lists (take k s.count))) none there) in
    ap (λ (k : ℕ). leading_texts s k n ++ drop k texts) none
    ∙ ap (λ (k : ℕ). leading_texts s 0 k ++ texts) first
    ∙ ap (λ (l : List ℕ). map decimal l ++ texts) (index_of-none s.start s.stride)
