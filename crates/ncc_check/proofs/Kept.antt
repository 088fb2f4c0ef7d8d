-- What stands while an image is written.
use Rattle.std.proofs.Common.{ℕ, ◌-◌, ◌≤◌, min, List, length, take, replicate, sym, ◌∙◌, ap, arith, length-append, Result, Ok, Err, OnErr}
use Rattle.std.proofs.lemmas.List.{take-take, take-append-le}
use Rattle.ncc_store.specs.Store.{written, Unsynced}
use Rattle.ncc_store.proofs.Pieces.{take-written, length-written}
use Rattle.ncc_check.specs.Appending.{padded, Keeps}

pub on_err : {T E : Type 0} {P : Type 0} (r : Result T E) → P → OnErr r P
on_err (Ok x) p = tt
on_err (Err e) p = p

module _ (old : List ℕ) (place : ℕ) where
  pub keeps_padded : Keeps old place (padded old place)
  keeps_padded = record {
    front = take-append-le (min place (length old)) old (replicate (place - length old) 0) (omega arith);
    no_shorter = omega (arith, length-append old (replicate (place - length old) 0));
  }

  pub keeps_written : (mid bytes : List ℕ) → place ≤ length mid → Keeps old place mid → Keeps old place (written mid place bytes)
  keeps_written mid bytes within kept =
      let k = min place (length old) in
      let le : k ≤ place = omega arith in
      record {
        front = sym (take-take k place (written mid place bytes) le) ∙ ap (λ (l : List ℕ). take k l) (take-written place bytes mid within) ∙ take-take k place mid le ∙ kept.front;
        no_shorter = omega (arith, kept.no_shorter, length-written place bytes mid within);
      }

  pub keeps_unsynced : (bytes d c : List ℕ) → Keeps old place d → Unsynced place bytes d c → Keeps old place c
  keeps_unsynced bytes d c kept left =
      let k = min place (length old) in
      let m = min place (length d) in
      let le : k ≤ m = omega (arith, kept.no_shorter) in
      let le_place : k ≤ place = omega arith in
      record {
        front = sym (take-take k m c le) ∙ ap (λ (l : List ℕ). take k l) left.before ∙ take-take k place d le_place ∙ kept.front;
        no_shorter = omega (arith, kept.no_shorter, left.no_shorter);
      }
