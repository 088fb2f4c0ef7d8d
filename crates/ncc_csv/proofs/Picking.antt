-- What is given of a selection, and what isn't.
use Rattle.std.proofs.Common.{◌≡◌, ℕ, zero, suc, ◌+◌, ◌<◌, Bool, true, false, cond, eqb, ◌&&◌, Option, Some, None, option_map, unwrap_or, replicate, List, [], ◌∷◌, ◌++◌, length, get_or, take, refl, sym, ap, subst, ◌∙◌, arith}
use Rattle.std.specs.List.{position_from}
use Rattle.std.specs.Option.{option_or}
use Rattle.std.proofs.lemmas.Bool.{eqb-true, eqb-false, eq-eqb, and_parts}
use Rattle.std.proofs.lemmas.List.{get_or-replicate, length-replicate}
use Rattle.ncc_slab.specs.Selection.{fitting_count}
use Rattle.ncc_slab.specs.Refusals.{Along, along, has_zero_stride, is_outside, has_rank, along_fault, shape_fault}
use Rattle.ncc_slab.specs.declared.fault.SlabFault.{SlabFault}
use Rattle.ncc_slab.specs.declared.fault.SlabFault.TheVariants as faults
use Rattle.ncc_csv.specs.Picks.{fitting_counts, picked_start, picked_stride, picked_count, picked, is_zero, suits, pick_fault}
use Rattle.ncc_csv.specs.declared.pick.Pick.{Pick}

-- one more dimension
pub fitting_counts_more : (lengths start stride : List ℕ) (k : ℕ) → k < length lengths → length start ≡ length lengths → length stride ≡ length lengths
    → fitting_counts (take (k + 1) lengths) (take (k + 1) start) (take (k + 1) stride)
    ≡ fitting_counts (take k lengths) (take k start) (take k stride) ++ fitting_count (get_or lengths k 0) (get_or start k 0) (get_or stride k 0) ∷ []
fitting_counts_more [] start stride k lt a b = absurd (omega (arith, lt))
fitting_counts_more (l ∷ lengths) [] stride k lt a b = absurd (omega (arith, a))
fitting_counts_more (l ∷ lengths) (s ∷ start) [] k lt a b = absurd (omega (arith, b))
fitting_counts_more (l ∷ lengths) (s ∷ start) (d ∷ stride) zero lt a b = refl
fitting_counts_more (l ∷ lengths) (s ∷ start) (d ∷ stride) (suc k) lt a b =
    let e : suc k + 1 ≡ suc (k + 1) = omega arith in
    ap (λ (n : ℕ). fitting_counts (take n (l ∷ lengths)) (take n (s ∷ start)) (take n (d ∷ stride))) e
    ∙ ap (λ (c : List ℕ). fitting_count l s d ∷ c) (fitting_counts_more lengths start stride k (omega (arith, lt)) (omega (arith, a)) (omega (arith, b)))

-- ---- strides

cond_none : {A : Type 0} (b : Bool) (a : A) (o : Option A) → cond b (Some a) o ≡ None → (b ≡ false) × (o ≡ None)
cond_none true a o e = absurd cc
cond_none false a o e = (refl, e)

cond_some : {A : Type 0} (b : Bool) (o : Option A) (a : A) → cond b o (Some a) ≡ None → o ≡ None
cond_some true o a e = e
cond_some false o a e = absurd cc

none_mapped : {A B : Type 0} (f : A → B) (o : Option A) → option_map f o ≡ None → o ≡ None
none_mapped f None e = refl
none_mapped f (Some a) e = absurd cc

no_zero : (n : ℕ) (xs : List ℕ) → position_from is_zero n xs ≡ None → (k : ℕ) → k < length xs → 0 < get_or xs k 0
no_zero n [] e k lt = absurd (omega (arith, lt))
no_zero n (x ∷ xs) e zero lt = omega (arith, eqb-false x 0 (cond_none (eqb x 0) n (position_from is_zero (n + 1) xs) e).0)
no_zero n (x ∷ xs) e (suc k) lt = no_zero (n + 1) xs (cond_none (eqb x 0) n (position_from is_zero (n + 1) xs) e).1 k (omega (arith, lt))

given_positive : (o : Option (List ℕ)) (rank : ℕ) → position_from is_zero 0 (unwrap_or o []) ≡ None → (k : ℕ) → k < length (unwrap_or o (replicate rank 1)) → 0 < get_or (unwrap_or o (replicate rank 1)) k 0
given_positive (Some xs) rank e k lt = no_zero 0 xs e k lt
given_positive None rank e k lt =
    let one = get_or-replicate {A = ℕ} rank k 1 0 (omega (arith, lt, length-replicate {A = ℕ} rank 1)) in
    omega (arith, one)

-- where nothing is refused no stride is 0
pub positive : (rank : ℕ) (p : Pick) (strides : List ℕ) → pick_fault rank p ≡ None → strides ≡ unwrap_or p.stride (replicate rank 1) → (k : ℕ) → k < length strides → 0 < get_or strides k 0
positive rank p strides none is =
    let zeros = none_mapped faults.ZeroStride (position_from is_zero 0 (unwrap_or p.stride []))
    (cond_some (suits rank p.start && suits rank p.count && suits rank p.stride) _ faults.RankMismatch none) in
    subst (λ (xs : List ℕ). (k : ℕ) → k < length xs → 0 < get_or xs k 0) (sym is) (given_positive p.stride rank zeros)

-- ---- faults

suits_given : (rank : ℕ) (o : Option (List ℕ)) (other : List ℕ) → length other ≡ rank → eqb (length (unwrap_or o other)) rank ≡ suits rank o
suits_given rank None other e = eq-eqb (length other) rank e
suits_given rank (Some numbers) other e = refl

length-fitting_counts : (lengths start stride : List ℕ) → length start ≡ length lengths → length stride ≡ length lengths → length (fitting_counts lengths start stride) ≡ length lengths
length-fitting_counts [] start stride a b = refl
length-fitting_counts (l ∷ lengths) [] stride a b = absurd (omega (arith, a))
length-fitting_counts (l ∷ lengths) (s ∷ start) [] a b = absurd (omega (arith, b))
length-fitting_counts (l ∷ lengths) (s ∷ start) (d ∷ stride) a b = omega (arith, length-fitting_counts lengths start stride (omega (arith, a)) (omega (arith, b)))

and-false : (x y : Bool) → ((x && y) && false) ≡ false
and-false true true = refl
and-false true false = refl
and-false false y = refl

-- the middle one of three counts only where the others hold
three : (a b c d : Bool) → (a ≡ true → c ≡ true → d ≡ b) → ((a && d) && c) ≡ ((a && b) && c)
three false b c d same = refl
three true b false d same = and-false true d ∙ sym (and-false true b)
three true b true d same = ap (λ (x : Bool). (true && x) && true) (same refl refl)

first_stride : (n : ℕ) (ls ss cs ds : List ℕ) → length ss ≡ length ls → length cs ≡ length ls → length ds ≡ length ls → position_from has_zero_stride n (along ls ss cs ds) ≡ position_from is_zero n ds
first_stride n [] ss cs [] a b e = refl
first_stride n [] ss cs (d ∷ ds) a b e = absurd (omega (arith, e))
first_stride n (l ∷ ls) [] cs ds a b e = absurd (omega (arith, a))
first_stride n (l ∷ ls) (s ∷ ss) [] ds a b e = absurd (omega (arith, b))
first_stride n (l ∷ ls) (s ∷ ss) (c ∷ cs) [] a b e = absurd (omega (arith, e))
first_stride n (l ∷ ls) (s ∷ ss) (c ∷ cs) (d ∷ ds) a b e = ap (λ (o : Option ℕ). cond (eqb d 0) (Some n) o) (first_stride (n + 1) ls ss cs ds (omega (arith, a)) (omega (arith, b)) (omega (arith, e)))

-- the same test, and where it holds the same fault
same_fault : (b : Bool) (u v w : Option SlabFault) (f : SlabFault) → (b ≡ true → u ≡ Some f → v ≡ Some f) → cond b u w ≡ Some f → cond b v w ≡ Some f
same_fault true u v w f step e = step refl e
same_fault false u v w f step e = e

zero_fault : (o : Option (List ℕ)) (rank : ℕ) (dims : List Along) (f : SlabFault) → position_from has_zero_stride 0 dims ≡ position_from is_zero 0 (unwrap_or o (replicate rank 1))
    → option_map faults.ZeroStride (position_from is_zero 0 (unwrap_or o [])) ≡ Some f → along_fault dims ≡ Some f
zero_fault None rank dims f same e = absurd cc
zero_fault (Some numbers) rank dims f same e =
    let zeros : option_map faults.ZeroStride (position_from has_zero_stride 0 dims) ≡ Some f = ap (λ (o : Option ℕ). option_map faults.ZeroStride o) same ∙ e in
    ap (λ (o : Option SlabFault). option_or o (option_map faults.Outside (position_from is_outside 0 dims))) zeros

pub pick_fault_is_shape_fault : (lengths : List ℕ) (p : Pick) (f : SlabFault) → pick_fault (length lengths) p ≡ Some f → shape_fault lengths (picked lengths p) ≡ Some f
pick_fault_is_shape_fault lengths p f e =
    let rank = length lengths in
    let start = picked_start lengths p in
    let stride = picked_stride lengths p in
    let count = picked_count lengths p in
    let starts = suits_given rank p.start (replicate rank 0) (length-replicate {A = ℕ} rank 0) in
    let strides = suits_given rank p.stride (replicate rank 1) (length-replicate {A = ℕ} rank 1) in
    let counts : suits rank p.start ≡ true → suits rank p.stride ≡ true → eqb (length count) rank ≡ suits rank p.count =
    λ a c. suits_given rank p.count (fitting_counts lengths start stride)
    (length-fitting_counts lengths start stride (eqb-true (length start) rank (starts ∙ a)) (eqb-true (length stride) rank (strides ∙ c))) in
    let ranked : has_rank lengths (picked lengths p) ≡ (suits rank p.start && suits rank p.count && suits rank p.stride) =
    ap (λ (x : Bool). (x && eqb (length count) rank) && eqb (length stride) rank) starts
    ∙ ap (λ (x : Bool). (suits rank p.start && eqb (length count) rank) && x) strides
    ∙ three (suits rank p.start) (suits rank p.count) (suits rank p.stride) (eqb (length count) rank) counts in
    let dims = along lengths start count stride in
    let test = suits rank p.start && suits rank p.count && suits rank p.stride in
    ap (λ (b : Bool). cond b (along_fault dims) (Some faults.RankMismatch)) ranked
    ∙ same_fault test (option_map faults.ZeroStride (position_from is_zero 0 (unwrap_or p.stride []))) (along_fault dims) (Some faults.RankMismatch) f
    (λ holds zero.
    let outer = and_parts (suits rank p.start && suits rank p.count) (suits rank p.stride) holds in
    let inner = and_parts (suits rank p.start) (suits rank p.count) outer.0 in
    let a = eqb-true (length start) rank (starts ∙ inner.0) in
    let b = eqb-true (length count) rank (counts inner.0 outer.1 ∙ inner.1) in
    let c = eqb-true (length stride) rank (strides ∙ outer.1) in
    zero_fault p.stride rank dims f (first_stride 0 lengths start count stride a b c) zero) e
