-- The search for the first dimension that is refused.
use Rattle.std.proofs.Common.{◌≡◌, ◌==◌, ℕ, suc, ◌+◌, ◌<◌, ◌≤◌, Bool, true, false, cond, Option, Some, None, option_map, List, [], ◌∷◌, length, get_or, drop, drop-cons, refl, sym, ap, ◌∙◌, arith}
use Rattle.std.specs.List.{position_from}
use Rattle.std.proofs.lemmas.List.{drop_all}
use Rattle.std.specs.Option.{option_or}
use Rattle.std.proofs.lemmas.Bool.{eq-eqb, and_from}
use Rattle.ncc_slab.specs.declared.slab.Slab.{Slab}
use Rattle.ncc_slab.specs.declared.fault.SlabFault.{SlabFault}
use Rattle.ncc_slab.specs.declared.fault.SlabFault.TheVariants.{RankMismatch, ZeroStride, Outside}
use Rattle.ncc_slab.specs.Refusals.{along, has_rank, along_fault, shape_fault, has_zero_stride, is_outside, ends_past}

-- only the strides tell whether there is one
pub strides_tell : (ls ss cs ds : List ℕ) (n : ℕ) → length ss ≡ length ls → length cs ≡ length ls → length ds ≡ length ls
    → position_from (λ d. d == 0) n ds ≡ position_from has_zero_stride n (along ls ss cs ds)
strides_tell [] ss cs [] n a b e = refl
strides_tell [] ss cs (d ∷ ds) n a b e = absurd (omega (arith, e))
strides_tell (l ∷ ls) [] cs ds n a b e = absurd (omega (arith, a))
strides_tell (l ∷ ls) (s ∷ ss) [] ds n a b e = absurd (omega (arith, b))
strides_tell (l ∷ ls) (s ∷ ss) (c ∷ cs) [] n a b e = absurd (omega (arith, e))
strides_tell (l ∷ ls) (s ∷ ss) (c ∷ cs) (d ∷ ds) n a b e =
    ap (λ (o : Option ℕ). cond (d == 0) (Some n) o) (strides_tell ls ss cs ds (n + 1) (omega (arith, a)) (omega (arith, b)) (omega (arith, e)))

pub next : (xs : List ℕ) (k : ℕ) → k < length xs → drop k xs ≡ get_or xs k 0 ∷ drop (k + 1) xs
next xs k lt =
    let one : suc k ≡ k + 1 = omega arith in
    drop-cons xs k 0 lt ∙ ap (λ (n : ℕ). get_or xs k 0 ∷ drop n xs) one

module _ (ls ss cs ds : List ℕ) (k : ℕ) (a : length ss ≡ length ls) (b : length cs ≡ length ls) (e : length ds ≡ length ls) (lt : k < length ls) where
  abbrev here : Bool
  here = ends_past (get_or ls k 0) (get_or ss k 0) (get_or cs k 0) (get_or ds k 0)

  abbrev from : ℕ → Option ℕ
  from n = position_from is_outside n (along (drop n ls) (drop n ss) (drop n cs) (drop n ds))

  step : from k ≡ cond here (Some k) (from (k + 1))
  step =
      ap (λ (l : List ℕ). position_from is_outside k (along l (drop k ss) (drop k cs) (drop k ds))) (next ls k lt)
      ∙ ap (λ (l : List ℕ). position_from is_outside k (along (get_or ls k 0 ∷ drop (k + 1) ls) l (drop k cs) (drop k ds))) (next ss k (omega (arith, a)))
      ∙ ap (λ (l : List ℕ). position_from is_outside k (along (get_or ls k 0 ∷ drop (k + 1) ls) (get_or ss k 0 ∷ drop (k + 1) ss) l (drop k ds))) (next cs k (omega (arith, b)))
      ∙ ap (λ (l : List ℕ). position_from is_outside k (along (get_or ls k 0 ∷ drop (k + 1) ls) (get_or ss k 0 ∷ drop (k + 1) ss) (get_or cs k 0 ∷ drop (k + 1) cs) l)) (next ds k (omega (arith, e)))

  pub goes_on : here ≡ false → from (k + 1) ≡ from k
  goes_on below = sym (step ∙ ap (λ (t : Bool). cond t (Some k) (from (k + 1))) below)

  pub is_here : here ≡ true → Some k ≡ from k
  is_here past = sym (step ∙ ap (λ (t : Bool). cond t (Some k) (from (k + 1))) past)

pub none_left : (ls ss cs ds : List ℕ) (k : ℕ) → length ls ≤ k → None ≡ position_from is_outside k (along (drop k ls) (drop k ss) (drop k cs) (drop k ds))
none_left ls ss cs ds k le = sym (ap (λ (l : List ℕ). position_from is_outside k (along l (drop k ss) (drop k cs) (drop k ds))) (drop_all k ls le))

-- ---- both searches

abbrev pub found : Option ℕ → Option ℕ → Option SlabFault
found stride outside = option_or (option_map ZeroStride stride) (option_map Outside outside)

module _ (ls ss cs ds : List ℕ) (s : Slab) (starts : ss ≡ s.start) (counts : cs ≡ s.count) (strides : ds ≡ s.stride) (a : length ss ≡ length ls) (b : length cs ≡ length ls) (e : length ds ≡ length ls) where
  abbrev stride_at : Option ℕ
  stride_at = position_from (λ d. d == 0) 0 ds

  abbrev outside_at : Option ℕ
  outside_at = position_from is_outside 0 (along ls ss cs ds)

  shape_is : found stride_at outside_at ≡ shape_fault ls s
  shape_is =
      let ranked : has_rank ls s ≡ true = and_from _ _ (and_from _ _ (eq-eqb _ _ (sym (ap length starts) ∙ a)) (eq-eqb _ _ (sym (ap length counts) ∙ b))) (eq-eqb _ _ (sym (ap length strides) ∙ e)) in
      let dims = along ls s.start s.count s.stride in
      ap (λ (o : Option ℕ). found o outside_at) (strides_tell ls ss cs ds 0 a b e)
      ∙ ap (λ (l : List ℕ). along_fault (along ls l cs ds)) starts
      ∙ ap (λ (l : List ℕ). along_fault (along ls s.start l ds)) counts
      ∙ ap (λ (l : List ℕ). along_fault (along ls s.start s.count l)) strides
      ∙ sym (ap (λ (t : Bool). cond t (along_fault dims) (Some RankMismatch)) ranked)

  pub stride_found : (k : ℕ) → Some k ≡ stride_at → Some (ZeroStride k) ≡ shape_fault ls s
  stride_found k is = ap (λ (o : Option ℕ). found o outside_at) is ∙ shape_is

  pub outside_found : (k : ℕ) → None ≡ stride_at → Some k ≡ outside_at → Some (Outside k) ≡ shape_fault ls s
  outside_found k none is = ap (λ (o : Option ℕ). found None o) is ∙ ap (λ (o : Option ℕ). found o outside_at) none ∙ shape_is

  pub none_found : None ≡ stride_at → None ≡ outside_at → None ≡ shape_fault ls s
  none_found none is = ap (λ (o : Option ℕ). found None o) is ∙ ap (λ (o : Option ℕ). found o outside_at) none ∙ shape_is
