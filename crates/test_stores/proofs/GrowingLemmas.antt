-- What stands while bytes are put after the old ones.
use Rattle.std.proofs.Common.{◌≡◌, ℕ, ◌≤◌, min, List, length, take, sym, ◌∙◌, ap, arith, length-take}
use Rattle.std.proofs.lemmas.List.{take-take, take_all}
use Rattle.ncc_store.specs.Store.{Unsynced, AfterWrite}
use Rattle.test_stores.specs.Growing.{Stands}

pub stands_same : (old c : List ℕ) → c ≡ old → Stands old c
stands_same old c same = ap (take (length old)) same ∙ take_all (length old) old (omega arith)

pub stands_unsynced : (old : List ℕ) (place : ℕ) (piece d c : List ℕ) → length old ≤ place → Stands old d → Unsynced place piece d c → Stands old c
stands_unsynced old place piece d c behind stands torn =
    let n = length old in
    let m = min place (length d) in
    let there : n ≤ m = omega (arith, ap length stands, length-take n d) in
    sym (take-take n m c there) ∙ ap (take n) torn.before ∙ take-take n place d behind ∙ stands

pub stands_after : (old : List ℕ) (place : ℕ) (piece : List ℕ) (images : List ℕ → Type 0) → length old ≤ place
    → ((d : List ℕ) → images d → Stands old d) → (c : List ℕ) → AfterWrite place piece images c → Stands old c
stands_after old place piece images behind before c from = stands_unsynced old place piece from.0 c behind (before from.0 from.1) from.2
