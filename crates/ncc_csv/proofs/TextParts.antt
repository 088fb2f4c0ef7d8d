-- The bytes of texts, part by part.
use Rattle.std.proofs.Common.{◌≡◌, ℕ, ◌+◌, ◌-◌, ◌*◌, ◌≤◌, ◌<◌, ℤ, List, [], ◌++◌, map, length, take, drop, Option, Result, Ok, Err, sym, ap, subst, ◌∙◌, arith}
use Rattle.std.specs.Prelude.{IsErr}
use Rattle.std.proofs.lemmas.List.{map-append, drop-drop}
use Rattle.std.proofs.Math.Seq.{take-add}
use Rattle.ncc_values.specs.declared.values.Values.{Values}
use Rattle.ncc_values.specs.declared.xtype.XType.{XType}
use Rattle.ncc_values.specs.XType.{size_of}
use Rattle.ncc_values.specs.Values.{count_of, no_values}
use Rattle.ncc_values.proofs.ValuesLemmas.{type_of-no_values, count_of-no_values}
use Rattle.ncc_layout.specs.declared.placed_var.PlacedVar.{PlacedVar}
use Rattle.ncc_lines.specs.Sends.{PutsFront}
use Rattle.ncc_lines.specs.declared.send_error.SendError.{SendError}
use Rattle.ncc_slab.specs.Laws.{PartHasNumbers}
use Rattle.ncc_slab.specs.Selected.{places_of, AddsPlaces, number_at, numbers_of, part_of}
use Rattle.ncc_slab.specs.Selection.{indices_of}
use Rattle.ncc_slab.specs.declared.slab.Slab.{Slab}
use Rattle.ncc_csv.specs.Texts.{last_number, byte_of, byte_at}
use Rattle.ncc_csv.specs.TextRuns.{part_bytes, Fills, Gathers, SendsTexts}
use Rattle.ncc_csv.specs.declared.gathered.Gathered.{Gathered}
use Rattle.ncc_csv.proofs.Order.{map-map}

-- the bytes of a part that was read
pub bytes_of_part : PartHasNumbers → (file : List ℕ) (record_size : ℕ) (x : PlacedVar) (s : Slab) (t : XType) (left : List ℕ) (first : ℕ) (v : Values) → t ≡ x.xtype → left ≡ drop first (places_of record_size x s)
    → AddsPlaces file (size_of t) (take (count_of v) left) (no_values t) v → map byte_of (numbers_of v) ≡ part_bytes file record_size x s first (count_of v)
bytes_of_part numbers file record_size x s t left first v of rest added =
    let n = count_of v in
    let here : AddsPlaces file (size_of x.xtype) (take n (drop first (places_of record_size x s))) (no_values x.xtype) v =
    subst (λ (l : List ℕ). AddsPlaces file (size_of x.xtype) (take n l) (no_values x.xtype) v) rest
    (subst (λ (u : XType). AddsPlaces file (size_of u) (take n left) (no_values u) v) of added) in
    ap (λ (l : List ℤ). map byte_of l) (numbers file record_size x s first n (no_values x.xtype) v (type_of-no_values x.xtype) (count_of-no_values x.xtype) here)
    ∙ map-map byte_of (number_at file record_size x) (part_of s first n)

-- the bytes of a part, and then those of the next
pub bytes_join : (file : List ℕ) (record_size : ℕ) (x : PlacedVar) (s : Slab) (first m n : ℕ)
    → part_bytes file record_size x s first (m + n) ≡ part_bytes file record_size x s first m ++ part_bytes file record_size x s (first + m) n
bytes_join file record_size x s first m n =
    let indices = drop first (indices_of s) in
    ap (map (byte_at file record_size x)) (take-add m n indices)
    ∙ map-append (byte_at file record_size x) (take m indices) (take n (drop m indices))
    ∙ ap (λ (l : List (List ℕ)). map (byte_at file record_size x) (take m indices) ++ map (byte_at file record_size x) (take n l)) (drop-drop m first (indices_of s))

-- those of the first, and then those of the next
pub bytes_so_far : (file : List ℕ) (record_size : ℕ) (x : PlacedVar) (s : Slab) (done n : ℕ)
    → part_bytes file record_size x s 0 done ++ part_bytes file record_size x s done n ≡ part_bytes file record_size x s 0 (done + n)
bytes_so_far file record_size x s done n =
    let same : done ≡ 0 + done = omega arith in
    ap (λ (k : ℕ). part_bytes file record_size x s 0 done ++ part_bytes file record_size x s k n) same ∙ sym (bytes_join file record_size x s 0 done n)

-- those of all that are left begin with those of the next
pub bytes_left : (file : List ℕ) (record_size : ℕ) (x : PlacedVar) (s : Slab) (first n left : ℕ) → n ≤ left
    → part_bytes file record_size x s first left ≡ part_bytes file record_size x s first n ++ part_bytes file record_size x s (first + n) (left - n)
bytes_left file record_size x s first n left le =
    let all : left ≡ n + (left - n) = omega arith in
    ap (part_bytes file record_size x s first) all ∙ bytes_join file record_size x s first n (left - n)

-- nothing is gathered yet
pub gathers_begin : (s : Slab) (g : Gathered) (P : List ℕ → Type 0) → g.number ≡ 0 → g.text.items ≡ [] → 0 < last_number s.count → P [] → Gathers s 0 [] g P
gathers_begin s g P number text some nothing = record {
  fills = record { rows = 0; within = omega arith; filled = nothing };
  number = omega (arith, number);
  text = text ∙ (let none : 0 ≡ 0 * last_number s.count = omega arith in ap (λ (n : ℕ). drop {A = ℕ} n []) none);
  short = omega (arith, some, ap (λ (l : List ℕ). length l) text);
}

-- what a failed call says
pub fails_texts : (s : Slab) (old new : Gathered) (bytes : ℕ → List ℕ) (left : ℕ) (a b : Option (List ℕ)) (result : Result ℕ SendError) → IsErr result
    → Fills s old.number (old.text.items ++ bytes left) (PutsFront a b) → SendsTexts s old new bytes left a b result
fails_texts s old new bytes left a b (Ok n) failed front = absurd (cc)
fails_texts s old new bytes left a b (Err h) failed front = front
