-- The rows of elements along the last dimension of a selection.
use Rattle.std.proofs.Common.{◌≡◌, ℕ, ◌+◌, ◌*◌, ◌/◌, ◌%◌, ◌<◌, ◌≤◌, List, [], ◌∷◌, ◌++◌, map, length, get_or, take, decimal, append_assoc, refl, sym, ap, subst, ◌∙◌, arith}
use Rattle.std.proofs.lemmas.List.{length-map, get_or-map, get_or-take, take-map, take_all}
use Rattle.std.proofs.Math.Nat.{mod-add-div', add-mul}
use Rattle.ncc_slab.specs.Selection.{index_lists, index_of, indices_of, selected_count}
use Rattle.ncc_slab.specs.declared.slab.Slab.{Slab}
use Rattle.ncc_csv.specs.Rows.{HasIndices}
use Rattle.ncc_csv.specs.Runs.{leading_texts, run_row, slab_row, first_rows}
use Rattle.ncc_csv.proofs.Order.{LastIndex, one_more, last_index, get_or-index_lists, length-index_list, next_index, index_of-none}
use Rattle.ncc_csv.proofs.Runs.{first_rows_same}

length-zero : (xs : List ℕ) → length xs ≡ 0 → xs ≡ []
length-zero [] e = refl
length-zero (x ∷ xs) e = absurd (omega (arith, e))

length-selected : (s : Slab) → selected_count s ≡ length (index_lists s.count)
length-selected s = length-map (index_lists s.count) (index_of s.start s.stride)

-- the last count, after the others
last_count : (s : Slab) (r : ℕ) → length s.count ≡ r + 1 → s.count ≡ take r s.count ++ get_or s.count r 0 ∷ []
last_count s r ranked = sym (take_all (r + 1) s.count (omega (arith, ranked))) ∙ one_more s.count r (r + 1) refl (omega (arith, ranked))

-- the last index of an element
pub last_at : (s : Slab) (r n : ℕ) → length s.count ≡ r + 1 → n < selected_count s → LastIndex (take r s.count) (get_or s.count r 0) n
last_at s r n ranked there =
    last_index (take r s.count) (get_or s.count r 0) n (subst (λ (cs : List ℕ). n < length (index_lists cs)) (last_count s r ranked) (omega (arith, there, length-selected s)))

module _ (s : Slab) (r n j : ℕ) (has : HasIndices s) (ranked : length s.count ≡ r + 1) (there : n + j < selected_count s) (along : n % get_or s.count r 0 + j < get_or s.count r 0) where
  -- the indices of an element further on
  indices_at : map decimal (get_or (indices_of s) (n + j) [])
      ≡ leading_texts s r (n / get_or s.count r 0) ++ decimal (get_or s.start r 0 + (n % get_or s.count r 0 + j) * get_or s.stride r 0) ∷ []
  indices_at =
      let c = get_or s.count r 0 in
      let last = last_at s r n ranked (omega (arith, there)) in
      let parts : n + j ≡ n / c * c + (n % c + j) = omega (arith, mod-add-div' n c) in
      let below : n + j < length (index_lists s.count) = omega (arith, there, length-selected s) in
      ap (λ (l : List ℕ). map decimal l) (get_or-map (index_of s.start s.stride) (index_lists s.count) (n + j) [] [] below)
      ∙ ap (λ (cs : List ℕ). map decimal (index_of s.start s.stride (get_or (index_lists cs) (n + j) []))) (last_count s r ranked)
      ∙ ap (λ (k : ℕ). map decimal (index_of s.start s.stride (get_or (index_lists (take r s.count ++ c ∷ [])) k []))) parts
      ∙ ap (λ (l : List ℕ). map decimal (index_of s.start s.stride l)) (get_or-index_lists (take r s.count) c (n / c) (n % c + j) last.there along)
      ∙ next_index s r (get_or (index_lists (take r s.count)) (n / c) []) (n % c + j) has (omega (arith, ranked)) (length-index_list s.count r (n / c) (omega (arith, ranked)) last.there)

  -- its row
  row_at : (heads : List (List ℕ)) (start stride : ℕ) (run texts : List (List ℕ)) → heads ≡ leading_texts s r (n / get_or s.count r 0)
      → start ≡ get_or s.start r 0 + n % get_or s.count r 0 * get_or s.stride r 0 → stride ≡ get_or s.stride r 0 → get_or run j [] ≡ get_or texts j []
      → run_row heads start stride run j ≡ slab_row s n texts j
  row_at heads start stride run texts e from d same =
      let index : start + j * stride ≡ get_or s.start r 0 + (n % get_or s.count r 0 + j) * get_or s.stride r 0 =
      ap (λ (k : ℕ). k + j * stride) from ∙ ap (λ (k : ℕ). get_or s.start r 0 + n % get_or s.count r 0 * get_or s.stride r 0 + j * k) d
      ∙ omega (arith, add-mul (n % get_or s.count r 0) j (get_or s.stride r 0)) in
      ap (λ (l : List (List ℕ)). l ++ decimal (start + j * stride) ∷ get_or run j [] ∷ []) e
      ∙ ap (λ (k : ℕ). leading_texts s r (n / get_or s.count r 0) ++ decimal k ∷ get_or run j [] ∷ []) index
      ∙ sym (append_assoc (leading_texts s r (n / get_or s.count r 0)) (decimal (get_or s.start r 0 + (n % get_or s.count r 0 + j) * get_or s.stride r 0) ∷ []) (get_or run j [] ∷ []))
      ∙ ap (λ (l : List (List ℕ)). l ++ get_or run j [] ∷ []) (sym indices_at)
      ∙ ap (λ (t : List ℕ). map decimal (get_or (indices_of s) (n + j) []) ++ t ∷ []) same

-- the rows of a run
pub rows_of_run : {A : Type 0} (text : A → List ℕ) (values : List A) (s : Slab) (r n m : ℕ) (heads : List (List ℕ)) (start stride : ℕ) → HasIndices s → length s.count ≡ r + 1
    → m ≤ length values → n + length values ≤ selected_count s → n % get_or s.count r 0 + m ≤ get_or s.count r 0
    → heads ≡ leading_texts s r (n / get_or s.count r 0) → start ≡ get_or s.start r 0 + n % get_or s.count r 0 * get_or s.stride r 0 → stride ≡ get_or s.stride r 0
    → first_rows (run_row heads start stride (map text (take m values))) m ≡ first_rows (slab_row s n (map text values)) m
rows_of_run text values s r n m heads start stride has ranked within there along e from d =
    first_rows_same (run_row heads start stride (map text (take m values))) (slab_row s n (map text values)) m
    (λ k lt. row_at s r n k has ranked (omega (arith, lt, within, there)) (omega (arith, lt, along)) heads start stride (map text (take m values)) (map text values) e from d
    (ap (λ (l : List (List ℕ)). get_or l k []) (sym (take-map text m values)) ∙ get_or-take m (map text values) k [] lt))

-- ---- no dimension

-- the one element of a selection without dimensions has no index
pub no_index : (s : Slab) (n : ℕ) → length s.count ≡ 0 → n < selected_count s → map decimal (get_or (indices_of s) n []) ≡ []
no_index s n none there =
    let below : n < length (index_lists s.count) = omega (arith, there, length-selected s) in
    let nothing : s.count ≡ [] = length-zero s.count none in
    let first : n ≡ 0 = omega (arith, subst (λ (cs : List ℕ). n < length (index_lists cs)) nothing below) in
    ap (λ (l : List ℕ). map decimal l) (get_or-map (index_of s.start s.stride) (index_lists s.count) n [] [] below)
    ∙ ap (λ (cs : List ℕ). map decimal (index_of s.start s.stride (get_or (index_lists cs) n []))) nothing
    ∙ ap (λ (k : ℕ). map decimal (index_of s.start s.stride (get_or ([] ∷ []) k []))) first
    ∙ ap (λ (l : List ℕ). map decimal l) (index_of-none s.start s.stride)
