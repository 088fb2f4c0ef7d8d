-- What a piece that is written, in part or not at all, may leave.
use Rattle.std.proofs.Common.{◌≡◌, inl, inr, ℕ, ◌+◌, ◌-◌, ◌<◌, ◌≤◌, min, max, List, [], ◌++◌, length, take, drop, Result, Ok, Err, refl, sym, ◌∙◌, ap, subst, arith, length-append, length-take, length-drop, take-append-drop, append_assoc, add-zero}
use Rattle.std.specs.Prelude.{OnOk, OnErr}
use Rattle.std.proofs.lemmas.List.{append-nil, take_at, take-take, drop_at, drop-drop, take_min, length-take-le}
use Rattle.std.proofs.lemmas.Bool.Decides.{nat_tests}
use Rattle.ncc_store.specs.Store.{written, FrontWritten, Unsynced}
use Rattle.ncc_store.specs.Fuse.{failed_front}

-- ---- a failed write

pub written-nil : (old : List ℕ) (place : ℕ) → written old place [] ≡ old
written-nil old place = ap (λ (l : List ℕ). l ++ drop (place + 0) old) (append-nil (take place old)) ∙ ap (λ (k : ℕ). take place old ++ drop k old) (add-zero place) ∙ take-append-drop place old

-- one that did nothing
pub front_none : (old : List ℕ) (place : ℕ) (piece new : List ℕ) → new ≡ old → FrontWritten old place piece new
front_none old place piece new same = record { done = 0; within = omega arith; is = same ∙ sym (written-nil old place); whole = λ short. inl refl }

-- one of a long piece that wrote a front of it, or failed at that
pub front_of_front : (old : List ℕ) (place n : ℕ) (piece new : List ℕ) → 8 < length piece → FrontWritten old place (take n piece) new → FrontWritten old place piece new
front_of_front old place n piece new long front = record {
  done = front.done;
  within = omega (arith, front.within, length-take n piece);
  is = front.is ∙ ap (written old place) (take-take front.done n piece (omega (arith, front.within, length-take n piece)));
  whole = λ short. absurd (omega arith);
}

pub front_whole : (old : List ℕ) (place n : ℕ) (piece new : List ℕ) → 8 < length piece → new ≡ written old place (take n piece) → FrontWritten old place piece new
front_whole old place n piece new long is = record {
  done = min n (length piece);
  within = omega arith;
  is = is ∙ ap (written old place) (sym (take_min n piece));
  whole = λ short. absurd (omega arith);
}

pub front_either : {T E : Type 0} (old : List ℕ) (place n : ℕ) (piece new : List ℕ) (result : Result T E) → 8 < length piece
    → OnOk result (new ≡ written old place (take n piece)) → OnErr result (FrontWritten old place (take n piece) new) → FrontWritten old place piece new
front_either old place n piece new (Ok x) long ok err = front_whole old place n piece new long ok
front_either old place n piece new (Err e) long ok err = front_of_front old place n piece new long err

-- ---- a write that isn't synced

-- what the front of a long piece may leave
pub unsynced_front : (place n : ℕ) (piece d c : List ℕ) → 8 < length piece → Unsynced place (take n piece) d c → Unsynced place piece d c
unsynced_front place n piece d c long front =
    let size : length (take n piece) ≤ length piece = omega (arith, length-take n piece) in
    let k = length piece - length (take n piece) in
    let sum : place + length (take n piece) + k ≡ place + length piece = omega arith in
    record {
      before = front.before;
      after = ap (λ (m : ℕ). drop m c) (sym sum) ∙ sym (drop-drop k (place + length (take n piece)) c) ∙ ap (λ (l : List ℕ). drop k l) front.after
          ∙ drop-drop k (place + length (take n piece)) d ∙ ap (λ (m : ℕ). drop m d) sum;
      no_shorter = front.no_shorter;
      no_longer = omega (arith, front.no_longer, size);
      whole = λ short inside. absurd (omega arith);
    }

-- ---- a failed write of a fuse, which did this front

module _ (front : ℕ) (piece done : List ℕ) (is : done ≡ failed_front front piece) (some : 0 < length done) where
  is_long : 8 < length piece
  is_long = grind (arith, nat_tests)

  is_taken : done ≡ take front piece
  is_taken = grind (arith, nat_tests, is_long)

  pub front_done : {T E : Type 0} (old : List ℕ) (place : ℕ) (new : List ℕ) (result : Result T E) → OnOk result (new ≡ written old place done) → OnErr result (FrontWritten old place done new) → FrontWritten old place piece new
  front_done old place new result ok err =
      front_either old place front piece new result is_long (subst (λ (l : List ℕ). OnOk result (new ≡ written old place l)) is_taken ok)
      (subst (λ (l : List ℕ). OnErr result (FrontWritten old place l new)) is_taken err)

  pub unsynced_done : (place : ℕ) (d c : List ℕ) → Unsynced place done d c → Unsynced place piece d c
  unsynced_done place d c torn = unsynced_front place front piece d c is_long (subst (λ (l : List ℕ). Unsynced place l d c) is_taken torn)

-- ---- a write that is done

module _ (place : ℕ) (piece old : List ℕ) (inside : place ≤ length old) where
  front_size : length (take place old) ≡ place
  front_size = length-take-le place old inside

  pub length-written : length (written old place piece) ≡ max (length old) (place + length piece)
  length-written = omega (arith, length-append (take place old ++ piece) (drop (place + length piece) old), length-append (take place old) piece, length-drop (place + length piece) old, front_size)

  pub take-written : take place (written old place piece) ≡ take place old
  take-written = ap (λ (l : List ℕ). take place l) (append_assoc (take place old) piece (drop (place + length piece) old)) ∙ take_at (take place old) (piece ++ drop (place + length piece) old) place front_size

  pub drop-written : drop (place + length piece) (written old place piece) ≡ drop (place + length piece) old
  drop-written = drop_at (take place old ++ piece) (drop (place + length piece) old) (place + length piece) (omega (arith, length-append (take place old) piece, front_size))

  pub unsynced_written : Unsynced place piece old (written old place piece)
  unsynced_written = record {
    before = ap (λ (k : ℕ). take k (written old place piece)) (omega arith) ∙ take-written;
    after = drop-written;
    no_shorter = omega (arith, length-written);
    no_longer = omega (arith, length-written);
    whole = λ short within. inr refl;
  }
