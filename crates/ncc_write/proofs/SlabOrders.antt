-- The VarSlab of each slab.
use Rattle.std.proofs.Common.{◌≡◌, ℕ, zero, suc, ◌+◌, ◌-◌, ◌*◌, ◌<◌, ◌≤◌, Bool, true, false, cond, not, List, [], ◌∷◌, ◌++◌, map, length, get_or, refl, sym, ap, ap₂, subst, ◌∙◌, arith}
use Rattle.std.specs.Prelude.{filter, ltb, ◌/◌, ◌%◌, if◌then◌else◌}
use Rattle.std.specs.List.{AllByRecursion, flat_map, range_with_len}
use Rattle.std.proofs.Math.Nat.{add-mul, div-add-mod, mod-lt}
use Rattle.std.proofs.lemmas.Bool.{ltb-true, ltb-false}
use Rattle.std.proofs.lemmas.List.{get_or-append-add, get_or_append_left, get_or-map, length-append, length-map, map-append}
use Rattle.std.proofs.lemmas.Nat.{mul-le}
use Rattle.ncc_schema.specs.declared.schema.Schema.{Schema}
use Rattle.ncc_schema.specs.declared.schema.Var.{Var}
use Rattle.ncc_schema.specs.Schema.{is_record_var}
use Rattle.ncc_layout.specs.Plans.{known}
use Rattle.ncc_build.specs.Dataset.{Slab, slabs_from, fixed_slabs, record_slabs}
use Rattle.ncc_write.specs.declared.slab_order.SlabOrder.{SlabOrder}
use Rattle.ncc_write.specs.declared.var_slab.VarSlab.{VarSlab}
use Rattle.ncc_write.specs.Positions.{no_slab, slab_at}
use Rattle.ncc_write.specs.VarSlabs.{IsSlabOrder, no_var_slab, var_slab_for, var_slab_at, record_at}
use Rattle.ncc_layout.proofs.Membership.{all_filter}
use Rattle.ncc_layout.proofs.ShapesInFile.{all_at}
use Rattle.ncc_write.proofs.Rounds.{number_of_slabs, round_length}

-- ---- one record as another

var_slabs_kept : (s : Schema) (a b : Slab) (xs ys : List Slab) (f : Bool) → var_slab_for s a ≡ var_slab_for s b → map (var_slab_for s) xs ≡ map (var_slab_for s) ys → map (var_slab_for s) (cond f (a ∷ xs) xs) ≡ map (var_slab_for s) (cond f (b ∷ ys) ys)
var_slabs_kept s a b xs ys true one rest = ap₂ (λ (t : VarSlab) (l : List VarSlab). t ∷ l) one rest
var_slabs_kept s a b xs ys false one rest = rest

same_var_slabs : (s : Schema) (p : Var → Bool) (q r n : ℕ) (vars : List Var) → map (var_slab_for s) (filter (λ b. p b.var) (slabs_from q n vars)) ≡ map (var_slab_for s) (filter (λ b. p b.var) (slabs_from r n vars))
same_var_slabs s p q r n [] = refl
same_var_slabs s p q r n (x ∷ vars) =
    var_slabs_kept s (record { var = x; number = n; in_record = q }) (record { var = x; number = n; in_record = r })
    (filter (λ b. p b.var) (slabs_from q (suc n) vars)) (filter (λ b. p b.var) (slabs_from r (suc n) vars)) (p x) refl (same_var_slabs s p q r (suc n) vars)

all_in_record : (r n : ℕ) (vars : List Var) → AllByRecursion (λ b. b.in_record ≡ r) (slabs_from r n vars)
all_in_record r n [] = tt
all_in_record r n (x ∷ vars) = (refl, all_in_record r (suc n) vars)

-- ---- the slab of a number

rounds_at : (s : Schema) (start n i m : ℕ) → i < n → m < length (record_slabs s 0) → get_or (flat_map (record_slabs s) (range_with_len start n)) (i * length (record_slabs s 0) + m) no_slab ≡ get_or (record_slabs s (start + i)) m no_slab
rounds_at s start zero i m less room = absurd (omega (arith, less))
rounds_at s start (suc n) zero m less room =
    let size = length (record_slabs s 0) in
    let same : length (record_slabs s start) ≡ size = round_length s start ∙ sym (round_length s 0) in
    let at : 0 * size + m ≡ m = omega arith in
    let there : start + 0 ≡ start = omega arith in
    ap (λ (k : ℕ). get_or (record_slabs s start ++ flat_map (record_slabs s) (range_with_len (start + 1) n)) k no_slab) at
    ∙ get_or_append_left (record_slabs s start) (flat_map (record_slabs s) (range_with_len (start + 1) n)) no_slab m (omega (arith, room, same))
    ∙ ap (λ (r : ℕ). get_or (record_slabs s r) m no_slab) (sym there)
rounds_at s start (suc n) (suc i) m less room =
    let size = length (record_slabs s 0) in
    let same : length (record_slabs s start) ≡ size = round_length s start ∙ sym (round_length s 0) in
    let at : suc i * size + m ≡ length (record_slabs s start) + (i * size + m) = omega (arith, same, add-mul 1 i size) in
    let there : start + 1 + i ≡ start + suc i = omega arith in
    ap (λ (k : ℕ). get_or (record_slabs s start ++ flat_map (record_slabs s) (range_with_len (start + 1) n)) k no_slab) at
    ∙ get_or-append-add (record_slabs s start) (flat_map (record_slabs s) (range_with_len (start + 1) n)) (i * size + m) no_slab
    ∙ rounds_at s (start + 1) n i m (omega (arith, less)) room
    ∙ ap (λ (r : ℕ). get_or (record_slabs s r) m no_slab) there

-- ---- its VarSlab

record VarSlabIs (s : Schema) (k : ℕ) (t : VarSlab) (r : ℕ) : Type 0 where
  var_slab : t ≡ var_slab_for s (slab_at s k)
  in_record : r ≡ (slab_at s k).in_record

fixed_var_slab : (s : Schema) (k : ℕ) → k < length (fixed_slabs s) → VarSlabIs s k (get_or (map (var_slab_for s) (fixed_slabs s ++ record_slabs s 0)) k no_var_slab) 0
fixed_var_slab s k less =
    let behind = flat_map (record_slabs s) (range_with_len 0 (known s.count)) in
    let here : slab_at s k ≡ get_or (fixed_slabs s) k no_slab = get_or_append_left (fixed_slabs s) behind no_slab k less in
    let room : k < length (fixed_slabs s ++ record_slabs s 0) = omega (arith, less, length-append (fixed_slabs s) (record_slabs s 0)) in
    let all = all_filter (λ b. b.in_record ≡ 0) (λ b. not (is_record_var s.dims b.var)) (slabs_from 0 0 s.vars) (all_in_record 0 0 s.vars) in
    record {
      var_slab = get_or-map (var_slab_for s) (fixed_slabs s ++ record_slabs s 0) k no_slab no_var_slab room
          ∙ ap (var_slab_for s) (get_or_append_left (fixed_slabs s) (record_slabs s 0) no_slab k less ∙ sym here);
      in_record = sym (ap (λ (b : Slab). b.in_record) here ∙ all_at (λ b. b.in_record ≡ 0) (fixed_slabs s) k no_slab less all);
    }

round_var_slab : (s : Schema) (i m : ℕ) → i < known s.count → m < length (record_slabs s 0)
    → VarSlabIs s (length (fixed_slabs s) + (i * length (record_slabs s 0) + m)) (get_or (map (var_slab_for s) (fixed_slabs s ++ record_slabs s 0)) (length (fixed_slabs s) + m) no_var_slab) i
round_var_slab s i m less room =
    let size = length (record_slabs s 0) in
    let behind = flat_map (record_slabs s) (range_with_len 0 (known s.count)) in
    let none : 0 + i ≡ i = omega arith in
    let here : slab_at s (length (fixed_slabs s) + (i * size + m)) ≡ get_or (record_slabs s i) m no_slab =
    get_or-append-add (fixed_slabs s) behind (i * size + m) no_slab ∙ rounds_at s 0 (known s.count) i m less room ∙ ap (λ (r : ℕ). get_or (record_slabs s r) m no_slab) none in
    let there : m < length (record_slabs s i) = omega (arith, room, round_length s i, round_length s 0) in
    let all = all_filter (λ b. b.in_record ≡ i) (λ b. is_record_var s.dims b.var) (slabs_from i 0 s.vars) (all_in_record i 0 s.vars) in
    record {
      var_slab = ap (λ (l : List VarSlab). get_or l (length (fixed_slabs s) + m) no_var_slab) (map-append (var_slab_for s) (fixed_slabs s) (record_slabs s 0))
          ∙ ap (λ (k : ℕ). get_or (map (var_slab_for s) (fixed_slabs s) ++ map (var_slab_for s) (record_slabs s 0)) (k + m) no_var_slab) (sym (length-map (fixed_slabs s) (var_slab_for s)))
          ∙ get_or-append-add (map (var_slab_for s) (fixed_slabs s)) (map (var_slab_for s) (record_slabs s 0)) m no_var_slab
          ∙ ap (λ (l : List VarSlab). get_or l m no_var_slab) (same_var_slabs s (is_record_var s.dims) 0 i 0 s.vars)
          ∙ get_or-map (var_slab_for s) (record_slabs s i) m no_slab no_var_slab there
          ∙ ap (var_slab_for s) (sym here);
      in_record = sym (ap (λ (b : Slab). b.in_record) here ∙ all_at (λ b. b.in_record ≡ i) (record_slabs s i) m no_slab there all);
    }

positive : (n r j : ℕ) → j < r * n → 0 < n
positive zero r j h = absurd (omega (arith, h))
positive (suc n) r j h = omega arith

below_by : (i r n j : ℕ) (b : Bool) → ltb i r ≡ b → i * n ≤ j → j < r * n → i < r
below_by i r n j true is le less = ltb-true i r is
below_by i r n j false is le less = absurd (omega (arith, le, less, mul-le r n i n (ltb-false i r is) (omega arith)))

below : (i r n j : ℕ) → i * n ≤ j → j < r * n → i < r
below i r n j le less = below_by i r n j (ltb i r) refl le less

module _ (s : Schema) (c : SlabOrder) (slab_order : IsSlabOrder s c) (k : ℕ) (less : k < c.slabs) where
  abbrev fixed : ℕ
  fixed = length (fixed_slabs s)

  abbrev size : ℕ
  size = length (record_slabs s 0)

  in_turn : length c.var_slabs.items - c.fixed ≡ size
  in_turn = omega (arith, ap length slab_order.var_slabs, slab_order.fixed, length-map (fixed_slabs s ++ record_slabs s 0) (var_slab_for s), length-append (fixed_slabs s) (record_slabs s 0))

  abbrev var_slab_by : Bool → VarSlab
  var_slab_by b = get_or c.var_slabs.items (if b then k else c.fixed + (k - c.fixed) % (length c.var_slabs.items - c.fixed)) no_var_slab

  abbrev record_by : Bool → ℕ
  record_by b = if b then 0 else (k - c.fixed) / (length c.var_slabs.items - c.fixed)

  in_fixed : k < c.fixed → VarSlabIs s k (var_slab_by true) (record_by true)
  in_fixed few = subst (λ (l : List VarSlab). VarSlabIs s k (get_or l k no_var_slab) 0) (sym slab_order.var_slabs) (fixed_var_slab s k (omega (arith, few, slab_order.fixed)))

  in_round : c.fixed ≤ k → VarSlabIs s k (var_slab_by false) (record_by false)
  in_round enough =
      let j = k - c.fixed in
      let total : j < known s.count * size = omega (arith, less, enough, slab_order.slabs, slab_order.fixed, number_of_slabs s) in
      let some : 0 < size = positive size (known s.count) j total in
      let whole : size * (j / size) + j % size ≡ j = div-add-mod j size in
      let rest : j % size < size = mod-lt j some in
      let round : j / size < known s.count = below (j / size) (known s.count) size j (omega (arith, whole)) total in
      let there : fixed + (j / size * size + j % size) ≡ k = omega (arith, whole, enough, slab_order.fixed) in
      let at = round_var_slab s (j / size) (j % size) round rest in
      subst (λ (n : ℕ). VarSlabIs s k (get_or c.var_slabs.items (c.fixed + j % n) no_var_slab) (j / n)) (sym in_turn)
      (subst (λ (f : ℕ). VarSlabIs s k (get_or c.var_slabs.items (f + j % size) no_var_slab) (j / size)) (sym slab_order.fixed)
      (subst (λ (l : List VarSlab). VarSlabIs s k (get_or l (fixed + j % size) no_var_slab) (j / size)) (sym slab_order.var_slabs)
      (subst (λ (n : ℕ). VarSlabIs s n (get_or (map (var_slab_for s) (fixed_slabs s ++ record_slabs s 0)) (fixed + j % size) no_var_slab) (j / size)) there at)))

  by_kind : (b : Bool) → ltb k c.fixed ≡ b → VarSlabIs s k (var_slab_by b) (record_by b)
  by_kind true is = in_fixed (ltb-true k c.fixed is)
  by_kind false is = in_round (ltb-false k c.fixed is)

  pub var_slab_is : var_slab_at c k ≡ var_slab_for s (slab_at s k)
  var_slab_is = (by_kind (ltb k c.fixed) refl).var_slab

  pub record_is : record_at c k ≡ (slab_at s k).in_record
  record_is = (by_kind (ltb k c.fixed) refl).in_record
