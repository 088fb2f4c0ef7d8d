-- Bytes that are on a page.
use Rattle.std.proofs.Common.{◌≡◌, ℕ, ◌+◌, ◌-◌, ◌≤◌, List, take, drop, sym, ap, ◌∙◌, arith}
use Rattle.std.proofs.lemmas.List.{drop-take, drop-drop, take-take}
use Rattle.ncc_store.specs.Pages.{Holds}

-- so many of them, from one on, of a list of which a front is known
front : (l : List ℕ) (held at n : ℕ) → at + n ≤ held → take n (drop at l) ≡ take n (drop at (take held l))
front l held at n inside =
    sym (take-take n (held - at) (drop at l) (omega (arith, inside)))
    ∙ ap (take n) (sym (drop-take at (held - at) l) ∙ ap (λ (k : ℕ). drop at (take k l)) (omega (arith, inside)))

-- those are the store's
pub of_page : (bytes page : List ℕ) (start held at n place : ℕ) → Holds bytes page start held → start + at ≡ place → at + n ≤ held → take n (drop at page) ≡ take n (drop place bytes)
of_page bytes page start held at n place holds there inside =
    front page held at n inside
    ∙ ap (λ (l : List ℕ). take n (drop at l)) holds
    ∙ sym (front (drop start bytes) held at n inside)
    ∙ ap (take n) (drop-drop at start bytes ∙ ap (λ (k : ℕ). drop k bytes) there)
