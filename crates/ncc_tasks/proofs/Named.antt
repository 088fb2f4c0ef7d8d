-- The bytes that a word's text stands for.
use Rattle.std.proofs.Common.{◌≡◌, ℕ, suc, ◌+◌, ◌<◌, ◌≤◌, Bool, true, false, cond, nat_eq, List, ◌∷◌, length, get_or, drop, sym, ap, ◌∙◌, add-one, drop-cons}
use Rattle.std.specs.Prelude.{string_bytes}
use Rattle.std.proofs.lemmas.List.{drop_all}
use Rattle.std.specs.Cmp.Lexicographic.{pointwise}
use Rattle.ncc_tasks.specs.Words.{bytes_among}
use Rattle.ncc_tasks.specs.declared.words.Alias.{Alias}

next_item : {A : Type 0} (xs : List A) (i : ℕ) (x d : A) → i < length xs → x ≡ get_or xs i d → drop i xs ≡ x ∷ drop (i + 1) xs
next_item {A = A} xs i x d less is = rw (add-one, drop-cons xs i d) (ap (λ (y : A). y ∷ drop (suc i) xs) (sym is))

module _ (aliases : List Alias) (i : ℕ) (a d : Alias) (text : List ℕ) (less : i < length aliases) (is : a ≡ get_or aliases i d) where
  next : (b : Bool) → b ≡ pointwise nat_eq (string_bytes a.text) text
      → bytes_among (drop i aliases) text ≡ cond b a.bytes.items (bytes_among (drop (i + 1) aliases) text)
  next b e =
      ap (λ (l : List Alias). bytes_among l text) (next_item aliases i a d less is)
      ∙ ap (λ (x : Bool). cond x a.bytes.items (bytes_among (drop (i + 1) aliases) text)) (sym e)

  pub named_here : (b : Bool) → b ≡ pointwise nat_eq (string_bytes a.text) text → b ≡ true
      → bytes_among (drop i aliases) text ≡ a.bytes.items
  named_here b e is_true = next b e ∙ ap (λ (x : Bool). cond x a.bytes.items (bytes_among (drop (i + 1) aliases) text)) is_true

  pub named_later : (b : Bool) → b ≡ pointwise nat_eq (string_bytes a.text) text → b ≡ false
      → bytes_among (drop i aliases) text ≡ bytes_among (drop (i + 1) aliases) text
  named_later b e is_false = next b e ∙ ap (λ (x : Bool). cond x a.bytes.items (bytes_among (drop (i + 1) aliases) text)) is_false

pub named_nowhere : (aliases : List Alias) (i : ℕ) (text : List ℕ) → length aliases ≤ i → bytes_among (drop i aliases) text ≡ text
named_nowhere aliases i text le = ap (λ (l : List Alias). bytes_among l text) (drop_all i aliases le)
