-- Texts row by row, on the way through the bytes of a selection.
use Rattle.std.specs.Prelude.{◌≡◌, ℕ, ◌+◌, ◌-◌, ◌*◌, ◌<◌, ◌≤◌, List, [], ◌∷◌, ◌++◌, map, take, drop, length, Option, Result, Ok, Err}
use Rattle.ncc_values.specs.declared.raw.Char.{Char}
use Rattle.ncc_schema.specs.Device.{Puts}
use Rattle.ncc_layout.specs.declared.placed_var.PlacedVar.{PlacedVar}
use Rattle.ncc_lines.specs.Sends.{PutsFront}
use Rattle.ncc_lines.specs.declared.send_error.SendError.{SendError}
use Rattle.ncc_slab.specs.Selected.{part_of}
use Rattle.ncc_slab.specs.declared.slab.Slab.{Slab}
use Rattle.ncc_csv.specs.Runs.{leading_texts, first_rows}
use Rattle.ncc_csv.specs.Texts.{last_number, shown_text, byte_at}
use Rattle.ncc_csv.specs.declared.gathered.Gathered.{Gathered}

-- ---- rows by their numbers

-- the row with this number, and this text
abbrev pub numbered_row : Slab → (number : ℕ) → (text : List ℕ) → List (List ℕ)
numbered_row s number text = leading_texts s (length s.count - 1) number ++ shown_text text ∷ []

-- the k-th of the texts in these bytes, in the row with the number first + k
abbrev pub bytes_row : Slab → (first : ℕ) → (bytes : List ℕ) → (k : ℕ) → List (List ℕ)
bytes_row s first bytes k = numbered_row s (first + k) (take (last_number s.count) (drop (k * last_number s.count) bytes))

-- the first rows of these bytes
abbrev pub bytes_rows : Slab → (first : ℕ) → (bytes : List ℕ) → (rows : ℕ) → List ℕ
bytes_rows s first bytes n = first_rows (bytes_row s first bytes) n

-- ---- bytes that are gathered

abbrev pub bytes_of : List Char → List ℕ
bytes_of chars = map (λ c. c.0) chars

-- so many rows of these bytes are full, and P holds of their text
pub record Fills (s : Slab) (first : ℕ) (bytes : List ℕ) (P : List ℕ → Type 0) : Type 0 where
  pub rows : ℕ
  pub within : rows * last_number s.count ≤ length bytes
  pub filled : P (bytes_rows s first bytes rows)

-- and what is left, less than a text, is gathered
pub record Gathers (s : Slab) (first : ℕ) (bytes : List ℕ) (g : Gathered) (P : List ℕ → Type 0) : Type 0 where
  pub fills : Fills s first bytes P
  pub number : g.number ≡ first + fills.rows
  pub text : g.text.items ≡ drop (fills.rows * last_number s.count) bytes
  pub short : length g.text.items < last_number s.count

-- the full rows went out; or a front of some of them
abbrev pub SendsFull : Slab → (first : ℕ) → (bytes : List ℕ) → (new : Gathered) → (put_old put_new : Option (List ℕ)) → Result (Unit {0}) SendError → Type 0
SendsFull s first bytes new a b (Ok x) = Gathers s first bytes new (Puts a b)
SendsFull s first bytes new a b (Err e) = Fills s first bytes (PutsFront a b)

-- how many bytes are done
abbrev pub done_in : Slab → Gathered → ℕ
done_in s g = g.number * last_number s.count + length g.text.items

-- ---- parts

-- the bytes of a part of a selection
abbrev pub part_bytes : (file : List ℕ) → (record_size : ℕ) → PlacedVar → Slab → (first count : ℕ) → List ℕ
part_bytes file record_size x s first n = map (byte_at file record_size x) (part_of s first n)

-- the full rows of the next elements went out, and the answer is how many; or a front of those of all that are left
abbrev pub SendsTexts : Slab → (old new : Gathered) → (bytes : (count : ℕ) → List ℕ) → (left : ℕ) → (put_old put_new : Option (List ℕ)) → Result ℕ SendError → Type 0
SendsTexts s old new bytes left a b (Ok n) = Gathers s old.number (old.text.items ++ bytes n) new (Puts a b)
SendsTexts s old new bytes left a b (Err e) = Fills s old.number (old.text.items ++ bytes left) (PutsFront a b)
