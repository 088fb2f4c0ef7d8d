-- Bytes that become rows of texts, piece by piece.
use Rattle.std.proofs.Common.{◌≡◌, ℕ, suc, ◌+◌, ◌-◌, ◌*◌, ◌<◌, ◌≤◌, ◌⊎◌, inl, inr, List, [], ◌∷◌, ◌++◌, length, take, drop, get_or, Option, Result, Ok, Err, refl, sym, ap, subst, ◌∙◌, append_assoc, arith}
use Rattle.std.specs.Prelude.{IsErr, OnOk}
use Rattle.std.proofs.lemmas.Bool.{cases_lt}
use Rattle.std.proofs.lemmas.List.{append-nil, length-append, length-drop, length-map, length-take-le, map-append, take_more, drop-drop, drop-append-le, take-append-le, take-append-drop, take_all, drop_all}
use Rattle.std.proofs.lemmas.Nat.{mul-le}
use Rattle.std.proofs.Math.Nat.{add-mul}
use Rattle.std.proofs.Math.Seq.{take-add}
use Rattle.ncc_values.specs.declared.raw.Char.{Char}
use Rattle.ncc_schema.specs.Device.{Puts}
use Rattle.ncc_lines.proofs.SendingText.{added, page_sends}
use Rattle.ncc_lines.specs.Sends.{PutsFront, Sends}
use Rattle.ncc_lines.specs.declared.send_error.SendError.{SendError}
use Rattle.ncc_slab.specs.Selection.{index_lists, index_of, selected_count}
use Rattle.ncc_slab.specs.declared.slab.Slab.{Slab}
use Rattle.ncc_csv.specs.Runs.{first_rows}
use Rattle.ncc_csv.specs.Texts.{last_number}
use Rattle.ncc_csv.specs.TextRuns.{numbered_row, bytes_row, bytes_rows, bytes_of, done_in, Fills, Gathers, SendsFull}
use Rattle.ncc_csv.specs.declared.gathered.Gathered.{Gathered}
use Rattle.ncc_csv.proofs.Order.{one_more, length-index_lists}
use Rattle.ncc_csv.proofs.Runs.{first_rows-add, first_rows_same}

below_by_cases : (rows number c : ℕ) → 0 < c → number * c + c ≤ rows * c → (number < rows) ⊎ (rows ≤ number) → number < rows
below_by_cases rows number c some le (inl lt) = lt
below_by_cases rows number c some le (inr ge) = absurd (omega (arith, some, le, mul-le rows c number c ge (omega arith)))

-- a multiple that is below another
below_by : (rows number c : ℕ) → 0 < c → number * c + c ≤ rows * c → number < rows
below_by rows number c some le = below_by_cases rows number c some le (cases_lt number rows)

none_at_0 : (c : ℕ) (bytes : List ℕ) → bytes ≡ drop (0 * c) bytes
none_at_0 c bytes =
    let none : 0 ≡ 0 * c = omega arith in
    ap (λ (n : ℕ). drop n bytes) none

module _ (s : Slab) (first : ℕ) where
  abbrev c : ℕ
  c = last_number s.count

  -- the full rows of bytes stay where more follow
  pub rows_stay : (bytes more : List ℕ) (m : ℕ) → m * c ≤ length bytes → bytes_rows s first (bytes ++ more) m ≡ bytes_rows s first bytes m
  rows_stay bytes more m within =
      first_rows_same (bytes_row s first (bytes ++ more)) (bytes_row s first bytes) m
      (λ k lt.
      let ends : k * c + c ≤ length bytes = omega (arith, within, mul-le (suc k) c m c (omega (arith, lt)) (omega arith), add-mul k 1 c) in
      ap (λ (l : List ℕ). numbered_row s (first + k) (take c l)) (drop-append-le (k * c) bytes more (omega (arith, ends)))
      ∙ ap (numbered_row s (first + k)) (take-append-le c (drop (k * c) bytes) more (omega (arith, ends, length-drop (k * c) bytes))))

  -- what is left after the full rows, and more
  pub left_with_more : (bytes more : List ℕ) (m : ℕ) → m * c ≤ length bytes → drop (m * c) (bytes ++ more) ≡ drop (m * c) bytes ++ more
  left_with_more bytes more m within = drop-append-le (m * c) bytes more within

  -- the rows of bytes, and then those of what is left with more, are the rows of all
  pub rows_join : (bytes more : List ℕ) (m n : ℕ) → m * c ≤ length bytes
      → bytes_rows s first (bytes ++ more) (m + n) ≡ bytes_rows s first bytes m ++ bytes_rows s (first + m) (drop (m * c) bytes ++ more) n
  rows_join bytes more m n within =
      first_rows-add (bytes_row s first (bytes ++ more)) m n
      ∙ ap (λ (t : List ℕ). t ++ first_rows (λ k. bytes_row s first (bytes ++ more) (m + k)) n) (rows_stay bytes more m within)
      ∙ ap (λ (t : List ℕ). bytes_rows s first bytes m ++ t)
      (first_rows_same (λ k. bytes_row s first (bytes ++ more) (m + k)) (bytes_row s (first + m) (drop (m * c) bytes ++ more)) n
      (λ k lt.
      let number : first + (m + k) ≡ first + m + k = omega arith in
      let place : (m + k) * c ≡ m * c + k * c = add-mul m k c in
      ap (λ (i : ℕ). numbered_row s i (take c (drop ((m + k) * c) (bytes ++ more)))) number
      ∙ ap (λ (i : ℕ). numbered_row s (first + m + k) (take c (drop i (bytes ++ more)))) place
      ∙ ap (λ (l : List ℕ). numbered_row s (first + m + k) (take c l)) (sym (drop-drop (k * c) (m * c) (bytes ++ more)))
      ∙ ap (λ (l : List ℕ). numbered_row s (first + m + k) (take c (drop (k * c) l))) (left_with_more bytes more m within)))

-- ---- full rows

-- of more bytes
abbrev pub fills_more : (s : Slab) (first : ℕ) (bytes more : List ℕ) (P : List ℕ → Type 0) → Fills s first bytes P → Fills s first (bytes ++ more) P
fills_more s first bytes more P f = record {
  rows = f.rows;
  within = omega (arith, f.within, length-append bytes more);
  filled = subst P (sym (rows_stay s first bytes more f.rows f.within)) f.filled;
}

-- what holds of their text otherwise
abbrev pub fills_as : (s : Slab) (first : ℕ) (bytes : List ℕ) (P Q : List ℕ → Type 0) → ((t : List ℕ) → P t → Q t) → Fills s first bytes P → Fills s first bytes Q
fills_as s first bytes P Q turn f = record { rows = f.rows; within = f.within; filled = turn (bytes_rows s first bytes f.rows) f.filled }

-- none
abbrev pub fills_none : (s : Slab) (first : ℕ) (bytes : List ℕ) (P : List ℕ → Type 0) → P [] → Fills s first bytes P
fills_none s first bytes P nothing = record { rows = 0; within = omega arith; filled = nothing }

-- after bytes that are gathered
abbrev pub fills_behind : (s : Slab) (first : ℕ) (bytes more : List ℕ) (g : Gathered) (P Q R : List ℕ → Type 0) → ((t u : List ℕ) → P t → Q u → R (t ++ u))
    → Gathers s first bytes g P → Fills s g.number (g.text.items ++ more) Q → Fills s first (bytes ++ more) R
fills_behind s first bytes more g P Q R join a b =
    let m = a.fills.rows in
    let n = b.rows in
    let c = last_number s.count in
    let left : g.text.items ++ more ≡ drop (m * c) bytes ++ more = ap (λ (l : List ℕ). l ++ more) a.text in
    let second : Q (bytes_rows s (first + m) (drop (m * c) bytes ++ more) n) =
    subst (λ (l : List ℕ). Q (bytes_rows s (first + m) l n)) left (subst (λ (i : ℕ). Q (bytes_rows s i (g.text.items ++ more) n)) a.number b.filled) in
    record {
      rows = m + n;
      within = omega (arith, a.fills.within, b.within, ap (λ (l : List ℕ). length l) left, length-append (drop (m * c) bytes) more, length-append bytes more, length-drop (m * c) bytes, add-mul m n c);
      filled = subst R (sym (rows_join s first bytes more m n a.fills.within)) (join (bytes_rows s first bytes m) (bytes_rows s (first + m) (drop (m * c) bytes ++ more) n) a.fills.filled second);
    }

-- ---- bytes that are gathered

pub gathers_as : (s : Slab) (first : ℕ) (bytes : List ℕ) (g : Gathered) (P Q : List ℕ → Type 0) → ((t : List ℕ) → P t → Q t) → Gathers s first bytes g P → Gathers s first bytes g Q
gathers_as s first bytes g P Q turn a = record { fills = fills_as s first bytes P Q turn a.fills; number = a.number; text = a.text; short = a.short }

-- none yet
pub gathers_none : (s : Slab) (g : Gathered) (P : List ℕ → Type 0) → length g.text.items < last_number s.count → P [] → Gathers s g.number (g.text.items ++ []) g P
gathers_none s g P short nothing = record {
  fills = fills_none s g.number (g.text.items ++ []) P nothing;
  number = omega arith;
  text = sym (append-nil g.text.items) ∙ none_at_0 (last_number s.count) (g.text.items ++ []);
  short = short;
}

-- and then more
pub gathers_more : (s : Slab) (first : ℕ) (bytes more : List ℕ) (g h : Gathered) (P Q R : List ℕ → Type 0) → ((t u : List ℕ) → P t → Q u → R (t ++ u))
    → Gathers s first bytes g P → Gathers s g.number (g.text.items ++ more) h Q → Gathers s first (bytes ++ more) h R
gathers_more s first bytes more g h P Q R join a b =
    let m = a.fills.rows in
    let n = b.fills.rows in
    let c = last_number s.count in record {
      fills = fills_behind s first bytes more g P Q R join a b.fills;
      number = omega (arith, a.number, b.number);
      text = b.text
          ∙ ap (λ (l : List ℕ). drop (n * c) (l ++ more)) a.text
          ∙ ap (λ (l : List ℕ). drop (n * c) l) (sym (left_with_more s first bytes more m a.fills.within))
          ∙ drop-drop (n * c) (m * c) (bytes ++ more)
          ∙ ap (λ (i : ℕ). drop i (bytes ++ more)) (sym (add-mul m n c));
      short = b.short;
    }

-- all bytes are in full rows or gathered
pub gathered_all : (s : Slab) (first : ℕ) (bytes : List ℕ) (g : Gathered) (P : List ℕ → Type 0) → Gathers s first bytes g P
    → g.number * last_number s.count + length g.text.items ≡ first * last_number s.count + length bytes
gathered_all s first bytes g P a =
    let c = last_number s.count in
    omega (arith, ap (λ (n : ℕ). n * c) a.number, add-mul first a.fills.rows c, ap (λ (l : List ℕ). length l) a.text, length-drop (a.fills.rows * c) bytes, a.fills.within)

-- ---- one byte

-- the text isn't whole yet
pub one_byte_more : (s : Slab) (old g : Gathered) (byte : ℕ) (P : List ℕ → Type 0) → g.number ≡ old.number → g.text.items ≡ old.text.items ++ byte ∷ []
    → length g.text.items < last_number s.count → P [] → Gathers s old.number (old.text.items ++ byte ∷ []) g P
one_byte_more s old g byte P number text short nothing = record {
  fills = fills_none s old.number (old.text.items ++ byte ∷ []) P nothing;
  number = omega (arith, number);
  text = text ∙ none_at_0 (last_number s.count) (old.text.items ++ byte ∷ []);
  short = short;
}

-- it is
pub whole_text : (s : Slab) (old g : Gathered) (byte : ℕ) (text : List ℕ) (P : List ℕ → Type 0) → text ≡ old.text.items ++ byte ∷ [] → length text ≡ last_number s.count → 0 < last_number s.count
    → g.number ≡ old.number + 1 → g.text.items ≡ [] → P (first_rows (λ k. numbered_row s (old.number + k) text) 1) → Gathers s old.number (old.text.items ++ byte ∷ []) g P
whole_text s old g byte text P is long some number empty row =
    let c = last_number s.count in
    let bytes = old.text.items ++ byte ∷ [] in
    let one : 1 * c ≡ c = omega arith in
    let all : take c (drop (0 * c) bytes) ≡ text = ap (λ (i : ℕ). take c (drop i bytes)) (let none : 0 * c ≡ 0 = omega arith in none) ∙ take_all c bytes (omega (arith, long, ap (λ (l : List ℕ). length l) is)) ∙ sym is in
    record {
      fills = record {
        rows = 1;
        within = omega (arith, one, long, ap (λ (l : List ℕ). length l) is);
        filled = subst P
            (first_rows_same (λ k. numbered_row s (old.number + k) text) (bytes_row s old.number bytes) 1
            (λ k lt.
            let first : k ≡ 0 = omega (arith, lt) in
            ap (numbered_row s (old.number + k)) (sym all)
            ∙ ap (λ (i : ℕ). numbered_row s (old.number + k) (take c (drop (i * c) bytes))) (sym first)))
            row;
      };
      number = number;
      text = empty ∙ sym (drop_all (1 * c) bytes (omega (arith, one, long, ap (λ (l : List ℕ). length l) is)));
      short = omega (arith, some, ap (λ (l : List ℕ). length l) empty);
    }

-- so many of these chars are done
pub chars_done : (s : Slab) (first : ℕ) (text : List ℕ) (chars : List Char) (k : ℕ) (g : Gathered) (P : List ℕ → Type 0) → k ≤ length chars
    → Gathers s first (text ++ bytes_of (take k chars)) g P → done_in s g ≡ first * last_number s.count + length text + k
chars_done s first text chars k g P le a =
    let taken = take k chars in
    omega (arith, gathered_all s first (text ++ bytes_of taken) g P a, length-append text (bytes_of taken), length-map taken (λ (x : Char). x.0), length-take-le k chars le)

-- one more of them
pub next_char : (text : List ℕ) (chars : List Char) (k : ℕ) (x : Char) → k < length chars → (text ++ bytes_of (take k chars)) ++ (get_or chars k x).0 ∷ [] ≡ text ++ bytes_of (take (k + 1) chars)
next_char text chars k x lt =
    append_assoc text (bytes_of (take k chars)) ((get_or chars k x).0 ∷ [])
    ∙ ap (λ (l : List ℕ). text ++ l) (sym (ap bytes_of (take_more chars k x lt) ∙ map-append (λ (y : Char). y.0) (take k chars) (get_or chars k x ∷ [])))

-- a piece of them
pub next_chars : (text : List ℕ) (chars piece : List Char) (done k : ℕ) → piece ≡ take k (drop done chars) → k ≤ length (drop done chars)
    → (text ++ bytes_of (take done chars)) ++ bytes_of piece ≡ text ++ bytes_of (take (done + length piece) chars)
next_chars text chars piece done k is le =
    let long : length piece ≡ k = ap (λ (l : List Char). length l) is ∙ length-take-le k (drop done chars) le in
    append_assoc text (bytes_of (take done chars)) (bytes_of piece)
    ∙ ap (λ (l : List ℕ). text ++ l)
    (ap (λ (l : List Char). bytes_of (take done chars) ++ bytes_of l) is
    ∙ sym (map-append (λ (y : Char). y.0) (take done chars) (take k (drop done chars)))
    ∙ ap bytes_of (sym (take-add done k chars))
    ∙ ap (λ (n : ℕ). bytes_of (take (done + n) chars)) (sym long))

-- the first of them, and the others
pub piece_of_all : (text : List ℕ) (chars : List Char) (n : ℕ) → (text ++ bytes_of (take n chars)) ++ bytes_of (drop n chars) ≡ text ++ bytes_of chars
piece_of_all text chars n =
    append_assoc text (bytes_of (take n chars)) (bytes_of (drop n chars))
    ∙ ap (λ (l : List ℕ). text ++ l) (sym (map-append (λ (y : Char). y.0) (take n chars) (drop n chars)) ∙ ap bytes_of (take-append-drop n chars))

-- ---- where the texts are sent

-- the full rows, by an empty page
pub full_sent : (s : Slab) (first : ℕ) (bytes : List ℕ) (g : Gathered) (old new : Option (List ℕ)) (page full left : List ℕ) (result : Result (Unit {0}) SendError) → page ≡ []
    → Gathers s first bytes g (λ rows. full ≡ page ++ rows) → Sends old new full left result → OnOk result (left ≡ []) → SendsFull s first bytes g old new result
full_sent s first bytes g old new page full left (Ok u) none a sent empty =
    gathers_as s first bytes g (λ rows. full ≡ page ++ rows) (Puts old new)
    (λ t e. page_sends old old new page full left t (Ok u) none (added old page full t e) sent empty) a
full_sent s first bytes g old new page full left (Err h) none a sent empty =
    fills_as s first bytes (λ rows. full ≡ page ++ rows) (PutsFront old new)
    (λ t e. page_sends old old new page full left t (Err h) none (added old page full t e) sent empty) a.fills

-- what a failed call says
pub fails_full : (s : Slab) (first : ℕ) (bytes : List ℕ) (g : Gathered) (old new : Option (List ℕ)) (result : Result (Unit {0}) SendError) → IsErr result
    → Fills s first bytes (PutsFront old new) → SendsFull s first bytes g old new result
fails_full s first bytes g old new (Ok u) failed front = absurd (cc)
fails_full s first bytes g old new (Err h) failed front = front

-- ---- the number of a row

pub row_there : (s : Slab) (i number : ℕ) → length s.count ≡ i + 1 → 0 < last_number s.count → number * last_number s.count + last_number s.count ≤ selected_count s → number < length (index_lists (take i s.count))
row_there s i number ranked some le =
    let c = last_number s.count in
    let rows = length (index_lists (take i s.count)) in
    let last : last_number s.count ≡ get_or s.count i 0 =
    let at : length s.count - 1 ≡ i = omega (arith, ranked) in
    ap (λ (k : ℕ). get_or s.count k 0) at in
    let all : selected_count s ≡ rows * c =
    length-map (index_lists s.count) (index_of s.start s.stride)
    ∙ ap (λ (cs : List ℕ). length (index_lists cs)) (sym (take_all (i + 1) s.count (omega (arith, ranked))) ∙ one_more s.count i (i + 1) refl (omega (arith, ranked)))
    ∙ length-index_lists (take i s.count) (get_or s.count i 0)
    ∙ ap (λ (n : ℕ). rows * n) (sym last) in
    below_by rows number c some (omega (arith, all, le))
