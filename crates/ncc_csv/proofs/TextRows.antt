-- The rows of all texts of a selection.
use Rattle.std.proofs.Common.{◌≡◌, ℕ, zero, suc, ◌+◌, ◌-◌, ◌*◌, ◌<◌, ◌≤◌, ◌⊎◌, inl, inr, List, [], ◌∷◌, ◌++◌, map, length, take, drop, get_or, decimal, Option, refl, sym, ap, subst, ◌∙◌, arith}
use Rattle.std.specs.List.{flat_map, range_with_len}
use Rattle.std.proofs.lemmas.Bool.{cases_lt}
use Rattle.std.proofs.lemmas.List.{length-map, length-drop, length-take-le, get_or-map, get_or-take, get_or-drop, take_all, ext_get_or}
use Rattle.std.proofs.lemmas.List.FromFn.{length-range_with_len, get_or-range_with_len}
use Rattle.std.proofs.lemmas.Nat.{mul-le}
use Rattle.std.proofs.Math.Nat.{add-mul}
use Rattle.ncc_layout.specs.declared.placed_var.PlacedVar.{PlacedVar}
use Rattle.ncc_lines.specs.Sends.{PutsFront}
use Rattle.ncc_layout.specs.Sizes.{product}
use Rattle.ncc_slab.specs.Laws.{CountIsProduct}
use Rattle.ncc_slab.specs.Selection.{index_lists, index_of, indices_of, selected_count}
use Rattle.ncc_slab.specs.declared.slab.Slab.{Slab}
use Rattle.ncc_csv.specs.Rows.{row_line, HasIndices}
use Rattle.ncc_csv.specs.Runs.{first_rows, leading_texts}
use Rattle.ncc_csv.specs.Texts.{but_last, last_number, last_indices, leading_indices, shown_text, byte_at, text_at, text_row, texts_text}
use Rattle.ncc_csv.specs.TextRuns.{numbered_row, bytes_row, bytes_rows, part_bytes, Fills, Gathers}
use Rattle.ncc_csv.specs.declared.gathered.Gathered.{Gathered}
use Rattle.ncc_csv.proofs.Joining.{all_are_selected}
use Rattle.ncc_csv.proofs.Order.{one_more, length-index_lists, get_or-index_lists, length-index_list, index_of-append, index_of-none}
use Rattle.ncc_csv.proofs.PartRows.{front_of_more}
use Rattle.ncc_csv.proofs.Runs.{first_rows-add, first_rows_same}

-- ---- rows of a list

-- the rows of the members of a list, by their numbers
rows_by_number : (f : List ℕ → List (List ℕ)) (xs : List (List ℕ)) → first_rows (λ k. f (get_or xs k [])) (length xs) ≡ flat_map row_line (map f xs)
rows_by_number f [] = refl
rows_by_number f (x ∷ xs) =
    let row = λ (k : ℕ). f (get_or (x ∷ xs) k []) in
    let one : suc (length xs) ≡ 1 + length xs = omega arith in
    ap (λ (n : ℕ). first_rows row n) one
    ∙ first_rows-add row 1 (length xs)
    ∙ ap (λ (l : List ℕ). row_line (f x) ++ l)
    (first_rows_same (λ k. row (1 + k)) (λ k. f (get_or xs k [])) (length xs)
    (λ k lt.
    let next : 1 + k ≡ suc k = omega arith in
    ap row next)
    ∙ rows_by_number f xs)

-- ---- indices

-- no more starts and strides than numbers are looked at
index_of-take : (start stride ks : List ℕ) (i j : ℕ) → length ks ≤ i → length ks ≤ j → index_of (take i start) (take j stride) ks ≡ index_of start stride ks
index_of-take start stride [] i j a b = index_of-none (take i start) (take j stride) ∙ sym (index_of-none start stride)
index_of-take start stride (k ∷ ks) zero j a b = absurd (omega (arith, a))
index_of-take start stride (k ∷ ks) (suc i) zero a b = absurd (omega (arith, b))
index_of-take [] stride (k ∷ ks) (suc i) (suc j) a b = refl
index_of-take (s ∷ start) [] (k ∷ ks) (suc i) (suc j) a b = refl
index_of-take (s ∷ start) (d ∷ stride) (k ∷ ks) (suc i) (suc j) a b = ap (λ (l : List ℕ). (s + k * d) ∷ l) (index_of-take start stride ks i j (omega (arith, a)) (omega (arith, b)))

-- ---- the texts of a selection

module _ (s : Slab) (r : ℕ) (has : HasIndices s) (ranked : length s.count ≡ r + 1) where
  abbrev c : ℕ
  c = last_number s.count

  abbrev front : List (List ℕ)
  front = index_lists (but_last s.count)

  abbrev front_is : but_last s.count ≡ take r s.count
  front_is =
      let at : length s.count - 1 ≡ r = omega (arith, ranked) in
      ap (λ (n : ℕ). take n s.count) at

  -- the last of the numbers
  last_at : (numbers : List ℕ) → length numbers ≡ length s.count → last_number numbers ≡ get_or numbers r 0
  last_at numbers long =
      let at : length numbers - 1 ≡ r = omega (arith, ranked, long) in
      ap (λ (n : ℕ). get_or numbers n 0) at

  counts_are : s.count ≡ but_last s.count ++ c ∷ []
  counts_are =
      sym (take_all (r + 1) s.count (omega (arith, ranked)))
      ∙ one_more s.count r (r + 1) refl (omega (arith, ranked))
      ∙ ap (λ (l : List ℕ). l ++ get_or s.count r 0 ∷ []) (sym front_is)
      ∙ ap (λ (n : ℕ). but_last s.count ++ n ∷ []) (sym (last_at s.count refl))

  -- as many elements as rows times characters
  pub all_counted : selected_count s ≡ length front * c
  all_counted =
      length-map (index_lists s.count) (index_of s.start s.stride)
      ∙ ap (λ (cs : List ℕ). length (index_lists cs)) counts_are
      ∙ length-index_lists (but_last s.count) c

  module _ (k : ℕ) (there : k < length front) where
    abbrev ks : List ℕ
    ks = get_or front k []

    abbrev lead : List ℕ
    lead = get_or (leading_indices s) k []

    long : length ks ≡ r
    long =
        ap (λ (l : List ℕ). length (get_or (index_lists l) k [])) front_is
        ∙ length-index_list s.count r k (omega (arith, ranked)) (subst (λ (l : List ℕ). k < length (index_lists l)) front_is there)

    lead_is : lead ≡ index_of s.start s.stride ks
    lead_is =
        get_or-map (index_of (but_last s.start) (but_last s.stride)) front k [] [] there
        ∙ index_of-take s.start s.stride ks (length s.start - 1) (length s.stride - 1) (omega (arith, long, ranked, has.starts)) (omega (arith, long, ranked, has.strides))

    -- the texts of the leading indices
    heads_are : leading_texts s (length s.count - 1) k ≡ map decimal lead
    heads_are = ap (λ (l : List ℕ). map decimal l) (sym lead_is)

    -- the indices of its characters
    index_is : (j : ℕ) → j < c → get_or (indices_of s) (k * c + j) [] ≡ lead ++ get_or (last_indices s) j 0 ∷ []
    index_is j lt =
        let inside : k * c + j < length (index_lists s.count) =
        omega (arith, lt, ap (λ (cs : List ℕ). length (index_lists cs)) counts_are, length-index_lists (but_last s.count) c, mul-le (suc k) c (length front) c (omega (arith, there)) (omega arith), add-mul k 1 c) in
        let last : get_or (last_indices s) j 0 ≡ get_or s.start (length ks) 0 + j * get_or s.stride (length ks) 0 =
        get_or-map (λ n. last_number s.start + n * last_number s.stride) (range_with_len 0 c) j 0 0 (omega (arith, lt, length-range_with_len 0 c))
        ∙ ap (λ (n : ℕ). last_number s.start + n * last_number s.stride) (get_or-range_with_len 0 c j 0 lt ∙ omega arith)
        ∙ ap (λ (n : ℕ). n + j * last_number s.stride) (last_at s.start has.starts ∙ ap (λ (n : ℕ). get_or s.start n 0) (sym long))
        ∙ ap (λ (n : ℕ). get_or s.start (length ks) 0 + j * n) (last_at s.stride has.strides ∙ ap (λ (n : ℕ). get_or s.stride n 0) (sym long)) in
        get_or-map (index_of s.start s.stride) (index_lists s.count) (k * c + j) [] [] inside
        ∙ ap (λ (cs : List ℕ). index_of s.start s.stride (get_or (index_lists cs) (k * c + j) [])) counts_are
        ∙ ap (index_of s.start s.stride) (get_or-index_lists (but_last s.count) c k j there lt)
        ∙ index_of-append s.start s.stride ks j (omega (arith, long, ranked, has.starts)) (omega (arith, long, ranked, has.strides))
        ∙ ap (λ (l : List ℕ). l ++ (get_or s.start (length ks) 0 + j * get_or s.stride (length ks) 0) ∷ []) (sym lead_is)
        ∙ ap (λ (n : ℕ). lead ++ n ∷ []) (sym last)

    module _ (file : List ℕ) (record_size : ℕ) (x : PlacedVar) where
      abbrev all : List ℕ
      all = map (byte_at file record_size x) (indices_of s)

      -- the bytes of the text
      text_is : take c (drop (k * c) all) ≡ text_at file record_size x s lead
      text_is =
          let byte = byte_at file record_size x in
          let bytes : length all ≡ selected_count s = length-map (indices_of s) byte in
          let ends : k * c + c ≤ length all = omega (arith, bytes, all_counted, mul-le (suc k) c (length front) c (omega (arith, there)) (omega arith), add-mul k 1 c) in
          let here : length (take c (drop (k * c) all)) ≡ c = length-take-le c (drop (k * c) all) (omega (arith, ends, length-drop (k * c) all)) in
          let lasts : length (last_indices s) ≡ c =
          length-map (range_with_len 0 c) (λ n. last_number s.start + n * last_number s.stride) ∙ length-range_with_len 0 c in
          ext_get_or 0 (take c (drop (k * c) all)) (text_at file record_size x s lead) (here ∙ sym lasts ∙ sym (length-map (last_indices s) (λ i. byte (lead ++ i ∷ []))))
          (λ j lt.
          let below : j < c = omega (arith, lt, here) in
          get_or-take c (drop (k * c) all) j 0 below
          ∙ get_or-drop (k * c) all j 0
          ∙ get_or-map byte (indices_of s) (k * c + j) [] 0 (omega (arith, below, ends, bytes))
          ∙ ap byte (index_is j below)
          ∙ sym (get_or-map (λ i. byte (lead ++ i ∷ [])) (last_indices s) j 0 0 (omega (arith, below, lasts))))

      row_is : bytes_row s 0 all k ≡ text_row file record_size x s lead
      row_is =
          let number : 0 + k ≡ k = omega arith in
          ap (λ (n : ℕ). numbered_row s n (take c (drop (k * c) all))) number
          ∙ ap (numbered_row s k) text_is
          ∙ ap (λ (l : List (List ℕ)). l ++ shown_text (text_at file record_size x s lead) ∷ []) heads_are

  module _ (file : List ℕ) (record_size : ℕ) (x : PlacedVar) where
    abbrev bytes : List ℕ
    bytes = map (byte_at file record_size x) (indices_of s)

    -- the rows of all bytes are those of the texts
    pub rows_of_all : bytes_rows s 0 bytes (length front) ≡ texts_text file record_size x s
    rows_of_all =
        let row = text_row file record_size x s in
        let many : length (leading_indices s) ≡ length front = length-map front (index_of (but_last s.start) (but_last s.stride)) in
        first_rows_same (bytes_row s 0 bytes) (λ k. row (get_or (leading_indices s) k [])) (length front) (λ k lt. row_is k lt file record_size x)
        ∙ ap (λ (n : ℕ). first_rows (λ k. row (get_or (leading_indices s) k [])) n) (sym many)
        ∙ rows_by_number row (leading_indices s)

    -- of texts of no characters
    pub rows_of_none : c ≡ 0 → first_rows (λ k. numbered_row s k []) (length front) ≡ texts_text file record_size x s
    rows_of_none none =
        first_rows_same (λ k. numbered_row s k []) (bytes_row s 0 bytes) (length front)
        (λ k lt.
        let number : k ≡ 0 + k = omega arith in
        ap (λ (n : ℕ). numbered_row s n []) number
        ∙ ap (λ (n : ℕ). numbered_row s (0 + k) (take n (drop (k * n) bytes))) (sym none))
        ∙ rows_of_all

-- ---- what is known where all bytes are done

module _ (s : Slab) (r : ℕ) (has : HasIndices s) (ranked : length s.count ≡ r + 1) (some : 0 < last_number s.count) (file : List ℕ) (record_size : ℕ) (x : PlacedVar) where
  abbrev total : ℕ
  total = length (index_lists (but_last s.count))

  all_bytes : part_bytes file record_size x s 0 (selected_count s) ≡ map (byte_at file record_size x) (indices_of s)
  all_bytes = ap (map (byte_at file record_size x)) (all_are_selected s)

  long_bytes : length (part_bytes file record_size x s 0 (selected_count s)) ≡ total * last_number s.count
  long_bytes = ap (λ (l : List ℕ). length l) all_bytes ∙ length-map (indices_of s) (byte_at file record_size x) ∙ all_counted s r has ranked

  at_most : (n : ℕ) → n * last_number s.count ≤ total * last_number s.count → n ≤ total
  at_most n le = at_most_by n (cases_lt total n) le
    where
      at_most_by : (n : ℕ) → (total < n) ⊎ (n ≤ total) → n * last_number s.count ≤ total * last_number s.count → n ≤ total
      at_most_by n (inr ge) le = ge
      at_most_by n (inl lt) le = absurd (omega (arith, some, le, mul-le (suc total) (last_number s.count) n (last_number s.count) (omega (arith, lt)) (omega arith), add-mul total 1 (last_number s.count)))

  -- all rows are full
  pub all_full : (g : Gathered) (P : List ℕ → Type 0) → Gathers s 0 (part_bytes file record_size x s 0 (selected_count s)) g P → P (texts_text file record_size x s)
  all_full g P a =
      let c = last_number s.count in
      let m = a.fills.rows in
      let most = at_most m (omega (arith, a.fills.within, long_bytes)) in
      let left : length g.text.items ≡ total * c - m * c = omega (arith, ap (λ (l : List ℕ). length l) a.text, length-drop (m * c) (part_bytes file record_size x s 0 (selected_count s)), long_bytes) in
      let full : m ≡ total = full_by m (cases_lt m total) most (omega (arith, left, a.short)) in
      subst P
      (ap (λ (n : ℕ). bytes_rows s 0 (part_bytes file record_size x s 0 (selected_count s)) n) full
      ∙ ap (λ (l : List ℕ). bytes_rows s 0 l total) all_bytes
      ∙ rows_of_all s r has ranked file record_size x)
      a.fills.filled
    where
      full_by : (m : ℕ) → (m < total) ⊎ (total ≤ m) → m ≤ total → total * last_number s.count - m * last_number s.count < last_number s.count → m ≡ total
      full_by m (inr ge) le short = omega (arith, ge, le)
      full_by m (inl lt) le short = absurd (omega (arith, short, mul-le (suc m) (last_number s.count) total (last_number s.count) (omega (arith, lt)) (omega arith), add-mul m 1 (last_number s.count)))

  -- or a front of them went out
  pub some_full : (old new : Option (List ℕ)) → Fills s 0 (part_bytes file record_size x s 0 (selected_count s)) (PutsFront old new) → PutsFront old new (texts_text file record_size x s)
  some_full old new f =
      let m = f.rows in
      let all = part_bytes file record_size x s 0 (selected_count s) in
      let most = at_most m (omega (arith, f.within, long_bytes)) in
      let parts : total ≡ m + (total - m) = omega (arith, most) in
      front_of_more old new (texts_text file record_size x s) (bytes_rows s 0 all m) (first_rows (λ k. bytes_row s 0 all (m + k)) (total - m))
      (sym (ap (λ (l : List ℕ). bytes_rows s 0 l total) all_bytes ∙ rows_of_all s r has ranked file record_size x)
      ∙ ap (λ (n : ℕ). bytes_rows s 0 all n) parts
      ∙ first_rows-add (bytes_row s 0 all) m (total - m))
      f.filled

-- ---- how many rows

-- as many lists of indices as the product of the counts
pub lists_counted : CountIsProduct → (counts : List ℕ) → length (index_lists counts) ≡ product counts
lists_counted law counts = sym (length-map (index_lists counts) (index_of [] [])) ∙ law (record { start = []; count = counts; stride = [] })

-- there is a last count where it isn't 0
pub counts_some : (s : Slab) → 0 < last_number s.count → 0 < length s.count
counts_some s some = counts_some_by s.count some
  where
    counts_some_by : (counts : List ℕ) → 0 < last_number counts → 0 < length counts
    counts_some_by [] some = absurd (omega (arith, some))
    counts_some_by (c ∷ counts) some = omega arith
