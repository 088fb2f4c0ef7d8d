-- Bytes on their way to a sink, one piece after the other.
use Rattle.std.proofs.Common.{◌≡◌, ℕ, ◌+◌, ◌-◌, ◌*◌, ◌≤◌, replicate, List, [], ◌++◌, length, take, drop, Option, Result, Ok, Err, sym, ap, subst, ◌∙◌, append_assoc, arith}
use Rattle.std.proofs.lemmas.List.{append-nil, length-drop, take_all, take-append-drop}
use Rattle.std.proofs.lemmas.List.Edits.{take-paste}
use Rattle.std.proofs.lemmas.Result.{err_from_is_err_and}
use Rattle.std.proofs.Math.Seq.{take-add, paste}
use Rattle.std.proofs.Math.Nat.{add-mul}
use Rattle.std.proofs.lemmas.Nat.{mul-le}
use Rattle.std.specs.List.{concat}
use Rattle.std.specs.Result.{IsErrAnd}
use Rattle.ncc_schema.specs.Device.{Puts, WritesAll}
use Rattle.ncc_values.specs.declared.failures.Device.{Device}
use Rattle.ncc_schema.proofs.Writing.{puts_both, puts_none}
use Rattle.ncc_write.specs.Streams.{Streams}
use Rattle.ncc_write.proofs.ManyFills.{fills_join}

-- one piece, and after it the next
pub streams_both : (old mid new : Option (List ℕ)) (waits between waiting a b : List ℕ) (r : Result (Unit {0}) Device) → Streams old mid waits between a (Ok tt) → Streams mid new between waiting b r
    → Streams old new waits waiting (a ++ b) r
streams_both old mid new waits between waiting a b (Ok x) one two = (
  one.0 ++ two.0,
  puts_both old mid new one.0 two.0 one.1 two.1,
  sym (append_assoc waits a b) ∙ ap (λ (l : List ℕ). l ++ b) one.2 ∙ append_assoc one.0 between b ∙ ap (λ (l : List ℕ). one.0 ++ l) two.2 ∙ sym (append_assoc one.0 two.0 waiting),
)
streams_both old mid new waits between waiting a b (Err e) one two = (
  one.0 ++ two.0,
  two.1,
  puts_both old mid new one.0 two.0 one.1 two.2,
  sym (append_assoc waits a b) ∙ ap (λ (l : List ℕ). l ++ b) one.2 ∙ append_assoc one.0 between b ∙ ap (λ (l : List ℕ). one.0 ++ l) two.3 ∙ sym (append_assoc one.0 two.0 two.1),
)

-- nothing yet
pub streams_none : (old : Option (List ℕ)) (waits : List ℕ) → Streams old old waits waits [] (Ok tt)
streams_none old waits = ([], puts_none old, append-nil waits)

-- a piece that failed fails with whatever would come after it
pub stream_fails : (old new : Option (List ℕ)) (waits waiting other a b : List ℕ) (e : Device) → Streams old new waits waiting a (Err e) → Streams old new waits other (a ++ b) (Err e)
stream_fails old new waits waiting other a b e s =
    (s.0, s.1 ++ b, s.2, sym (append_assoc waits a b) ∙ ap (λ (l : List ℕ). l ++ b) s.3 ∙ append_assoc s.0 s.1 b)

-- after the exit of a `?`
pub stream_fails_at : (Q : Device → Type 0) (old new : Option (List ℕ)) (waits waiting other a b : List ℕ) (r : Result (Unit {0}) Device) (e : Device) → IsErrAnd r Q → Streams old new waits waiting a (Err e)
    → Streams old new waits other (a ++ b) r
stream_fails_at Q old new waits waiting other a b r e exit s =
    let p = err_from_is_err_and r exit in
    subst (λ (q : Result (Unit {0}) Device). Streams old new waits other (a ++ b) q) (sym p.1) (stream_fails old new waits waiting other a b p.0 s)

-- ---- bytes, piece after piece

pub next_bytes : (old mid new : Option (List ℕ)) (waits between waiting bytes : List ℕ) (m n : ℕ)
    → Streams old mid waits between (take m bytes) (Ok tt) → Streams mid new between waiting (take n (drop m bytes)) (Ok tt)
    → Streams old new waits waiting (take (m + n) bytes) (Ok tt)
next_bytes old mid new waits between waiting bytes m n one two =
    subst (λ (l : List ℕ). Streams old new waits waiting l (Ok tt)) (sym (take-add m n bytes))
    (streams_both old mid new waits between waiting _ _ (Ok tt) one two)

pub bytes_fail_at : (Q : Device → Type 0) (old mid new : Option (List ℕ)) (waits between waiting bytes : List ℕ)
    (m n : ℕ) (r : Result (Unit {0}) Device) (e : Device) → IsErrAnd r Q
    → Streams old mid waits between (take m bytes) (Ok tt) → Streams mid new between waiting (take n (drop m bytes)) (Err e)
    → Streams old new waits waiting bytes r
bytes_fail_at Q old mid new waits between waiting bytes m n r e exit one two =
    let p = err_from_is_err_and r exit in
    let first = streams_both old mid new waits between waiting _ _ (Err e) one two in
    let joined = subst (λ (l : List ℕ). Streams old new waits waiting l (Err e)) (sym (take-add m n bytes)) first in
    let all = stream_fails old new waits waiting waiting (take (m + n) bytes) (drop (m + n) bytes) e joined in
    subst (λ (q : Result (Unit {0}) Device). Streams old new waits waiting bytes q) (sym p.1)
    (subst (λ (l : List ℕ). Streams old new waits waiting l (Err p.0)) (take-append-drop (m + n) bytes) all)

-- ---- values, part after part

-- the first m values went, and after them n more
pub next_part : (old mid new : Option (List ℕ)) (waits between waiting bytes : List ℕ) (m n size : ℕ) → Streams old mid waits between (take (m * size) bytes) (Ok tt)
    → Streams mid new between waiting (take (n * size) (drop (m * size) bytes)) (Ok tt) → Streams old new waits waiting (take ((m + n) * size) bytes) (Ok tt)
next_part old mid new waits between waiting bytes m n size one two =
    subst (λ (k : ℕ). Streams old new waits waiting (take k bytes) (Ok tt)) (sym (add-mul m n size))
    (next_bytes old mid new waits between waiting bytes (m * size) (n * size) one two)

pub part_fails_at : (Q : Device → Type 0) (old mid new : Option (List ℕ)) (waits between waiting bytes : List ℕ) (m n size : ℕ) (r : Result (Unit {0}) Device) (e : Device) → IsErrAnd r Q
    → Streams old mid waits between (take (m * size) bytes) (Ok tt) → Streams mid new between waiting (take (n * size) (drop (m * size) bytes)) (Err e) → Streams old new waits waiting bytes r
part_fails_at Q old mid new waits between waiting bytes m n size r e exit one two =
    bytes_fail_at Q old mid new waits between waiting bytes (m * size) (n * size) r e exit one two

pub all_parts : (old new : Option (List ℕ)) (waits waiting bytes : List ℕ) (n count size : ℕ) → count ≤ n → length bytes ≡ count * size → Streams old new waits waiting (take (n * size) bytes) (Ok tt)
    → Streams old new waits waiting bytes (Ok tt)
all_parts old new waits waiting bytes n count size le long s =
    subst (λ (l : List ℕ). Streams old new waits waiting l (Ok tt)) (take_all (n * size) bytes (omega (arith, long, mul-le count size n size le (omega arith)))) s

-- ---- fill values, part after part

pub next_fills : (old mid new : Option (List ℕ)) (waits between waiting fill : List ℕ) (m n : ℕ) → Streams old mid waits between (concat (replicate m fill)) (Ok tt)
    → Streams mid new between waiting (concat (replicate n fill)) (Ok tt) → Streams old new waits waiting (concat (replicate (m + n) fill)) (Ok tt)
next_fills old mid new waits between waiting fill m n one two =
    subst (λ (l : List ℕ). Streams old new waits waiting l (Ok tt)) (fills_join m n fill) (streams_both old mid new waits between waiting _ _ (Ok tt) one two)

pub fills_fail_at : (Q : Device → Type 0) (old mid new : Option (List ℕ)) (waits between waiting fill : List ℕ) (m n count : ℕ) (r : Result (Unit {0}) Device) (e : Device) → IsErrAnd r Q → m + n ≤ count
    → Streams old mid waits between (concat (replicate m fill)) (Ok tt) → Streams mid new between waiting (concat (replicate n fill)) (Err e) → Streams old new waits waiting (concat (replicate count fill)) r
fills_fail_at Q old mid new waits between waiting fill m n count r e exit le one two =
    let p = err_from_is_err_and r exit in
    let first = streams_both old mid new waits between waiting _ _ (Err e) one two in
    let all = stream_fails old new waits waiting waiting (concat (replicate m fill) ++ concat (replicate n fill)) (concat (replicate (count - (m + n)) fill)) e first in
    let sum : m + n + (count - (m + n)) ≡ count = omega (arith, le) in
    let joined = ap (λ (l : List ℕ). l ++ concat (replicate (count - (m + n)) fill)) (fills_join m n fill) ∙ fills_join (m + n) (count - (m + n)) fill ∙ ap (λ (k : ℕ). concat (replicate k fill)) sum in
    subst (λ (q : Result (Unit {0}) Device). Streams old new waits waiting (concat (replicate count fill)) q) (sym p.1)
    (subst (λ (l : List ℕ). Streams old new waits waiting l (Err p.0)) joined all)

-- ---- a page that goes out

two_parts : (items : List ℕ) (full end : ℕ) → full ≤ end → take end items ≡ take full items ++ take (end - full) (drop full items)
two_parts items full end le =
    let sum : full + (end - full) ≡ end = omega (arith, le) in
    subst (λ (n : ℕ). take n items ≡ take full items ++ take (end - full) (drop full items)) sum (take-add full (end - full) items)

first_pasted : (items piece : List ℕ) (n : ℕ) → n ≤ length piece → take n (paste items 0 piece n) ≡ take n piece
first_pasted items piece n le =
    let none : 0 + n ≡ n = omega arith in
    subst (λ (k : ℕ). take k (paste items 0 piece n) ≡ take n piece) none (take-paste items 0 piece n (omega arith) le)

-- the rest of what waits goes to the front of the buffer
pub page_out : (old new : Option (List ℕ)) (items : List ℕ) (full end : ℕ) → full ≤ end → end ≤ length items → Puts old new (take full items)
    → Streams old new (take end items) (take (end - full) (paste items 0 (drop full items) (end - full))) [] (Ok tt)
page_out old new items full end le room puts =
    let left : end - full ≤ length (drop full items) = omega (arith, le, room, length-drop full items) in (
      take full items,
      puts,
      append-nil (take end items) ∙ two_parts items full end le
          ∙ ap (λ (l : List ℕ). take full items ++ l) (sym (first_pasted items (drop full items) (end - full) left)),
    )

-- a front of the page went out
pub page_fails : (Q : Device → Type 0) (old new : Option (List ℕ)) (items other : List ℕ) (full end : ℕ) (r : Result (Unit {0}) Device) (e : Device) → IsErrAnd r Q → full ≤ end
    → WritesAll old new (Err e) (take full items) → Streams old new (take end items) other [] r
page_fails Q old new items other full end r e exit le w =
    let p = err_from_is_err_and r exit in
    let rest = take (end - full) (drop full items) in
    subst (λ (q : Result (Unit {0}) Device). Streams old new (take end items) other [] q) (sym p.1) (
      w.0,
      w.1 ++ rest,
      w.3,
      append-nil (take end items) ∙ two_parts items full end le ∙ ap (λ (l : List ℕ). l ++ rest) w.2 ∙ append_assoc w.0 w.1 rest,
    )
