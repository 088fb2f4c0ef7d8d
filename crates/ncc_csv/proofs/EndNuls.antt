-- Texts without the NULs at their end, from the end on.
use Rattle.std.proofs.Common.{◌≡◌, ℕ, zero, suc, ◌+◌, ◌-◌, ◌<◌, ◌≤◌, List, [], ◌∷◌, ◌++◌, length, take, get_or, refl, sym, ap, ◌∙◌, arith}
use Rattle.std.proofs.lemmas.List.{take_more}
use Rattle.ncc_csv.specs.Texts.{keep_byte, without_end_nuls}

-- a NUL at the end is dropped
end_nul : (text : List ℕ) → without_end_nuls (text ++ 0 ∷ []) ≡ without_end_nuls text
end_nul [] = refl
end_nul (b ∷ text) = ap (keep_byte b) (end_nul text)

keep_more : (b : ℕ) (text rest : List ℕ) (c : ℕ) → rest ≡ text ++ c ∷ [] → keep_byte b rest ≡ b ∷ rest
keep_more b [] rest c e = ap (keep_byte b) e ∙ ap (λ (l : List ℕ). b ∷ l) (sym e)
keep_more b (a ∷ text) rest c e = ap (keep_byte b) e ∙ ap (λ (l : List ℕ). b ∷ l) (sym e)

-- another byte stays, and all before it
end_byte : (text : List ℕ) (n : ℕ) → without_end_nuls (text ++ suc n ∷ []) ≡ text ++ suc n ∷ []
end_byte [] n = refl
end_byte (b ∷ text) n =
    keep_more b text (without_end_nuls (text ++ suc n ∷ [])) (suc n) (end_byte text n)
    ∙ ap (λ (l : List ℕ). b ∷ l) (end_byte text n)

-- ---- by the number of bytes

last_taken : (text : List ℕ) (end : ℕ) → 0 < end → end ≤ length text → take end text ≡ take (end - 1) text ++ get_or text (end - 1) 0 ∷ []
last_taken text end some le =
    let one : end ≡ end - 1 + 1 = omega arith in
    ap (λ (n : ℕ). take n text) one ∙ take_more text (end - 1) 0 (omega arith)

pub one_nul_less : (text : List ℕ) (end : ℕ) → 0 < end → end ≤ length text → get_or text (end - 1) 0 ≡ 0 → without_end_nuls (take (end - 1) text) ≡ without_end_nuls (take end text)
one_nul_less text end some le nul =
    sym (end_nul (take (end - 1) text))
    ∙ ap (λ (b : ℕ). without_end_nuls (take (end - 1) text ++ b ∷ [])) (sym nul)
    ∙ ap without_end_nuls (sym (last_taken text end some le))

some_byte : (text : List ℕ) (b : ℕ) → (b ≡ 0 → ⊥) → without_end_nuls (text ++ b ∷ []) ≡ text ++ b ∷ []
some_byte text zero not = absurd (not refl)
some_byte text (suc n) not = end_byte text n

pub no_nul_at_end : (text : List ℕ) (end : ℕ) → 0 < end → end ≤ length text → (get_or text (end - 1) 0 ≡ 0 → ⊥) → without_end_nuls (take end text) ≡ take end text
no_nul_at_end text end some le not =
    ap without_end_nuls (last_taken text end some le)
    ∙ some_byte (take (end - 1) text) (get_or text (end - 1) 0) not
    ∙ sym (last_taken text end some le)
