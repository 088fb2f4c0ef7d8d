use Rattle.std.proofs.Common.{◌≡◌, ℕ, zero, suc, ◌-◌, ◌*◌, ◌^◌, ◌<◌, ◌≤◌, ◌⊎◌, inl, inr, length, get_or, drop, drop-cons, sym, ap, ◌∙◌, arith}
use Rattle.std.proofs.lemmas.Bool.{cases_lt}
use Rattle.std.proofs.lemmas.Nat.{mul-le}
use Rattle.ncc_schema.specs.Names.{capped}
use Rattle.ncc_layout.specs.Sizes.{product}
use Rattle.ncc_csv.proofs.empty_texts.product.Goals as goal

-- a factor of what was capped
capped_times : (n p : ℕ) → capped (n * capped p) ≡ capped (n * p)
capped_times zero p = omega arith
capped_times (suc n) p = by_room (cases_lt (2 ^ 64 - 1) p)
  where
    by_room : (2 ^ 64 - 1 < p) ⊎ (p ≤ 2 ^ 64 - 1) → capped (suc n * capped p) ≡ capped (suc n * p)
    by_room (inl lt) =
        let most : capped p ≡ 2 ^ 64 - 1 = omega (arith, lt) in
        omega (arith, lt, most, mul-le 1 (capped p) (suc n) (capped p) (omega arith) (omega arith), mul-le 1 p (suc n) p (omega arith) (omega arith))
    by_room (inr le) =
        let same : capped p ≡ p = omega (arith, le) in
        ap (λ (k : ℕ). capped (suc n * k)) same

pub loop-k-preserved : goal.loop-k-preserved
loop-k-preserved c =
    let numbers = c.args.numbers.now in
    let k = c.loop-k.k - 1 in
    let next : suc k ≡ c.loop-k.k = omega arith in
    let below : k < length numbers = omega (arith, c.loop-k.invariant.within) in
    record {
      within = omega (arith, c.loop-k.invariant.within);
      so_far = c.saturating_mul-product.ensures
          ∙ ap (λ (p : ℕ). capped (get_or numbers k 0 * p)) c.loop-k.invariant.so_far
          ∙ capped_times (get_or numbers k 0) (product (drop c.loop-k.k numbers))
          ∙ ap (λ (n : ℕ). capped (get_or numbers k 0 * product (drop n numbers))) (sym next)
          ∙ ap (λ l. capped (product l)) (sym (drop-cons numbers k 0 below));
    }

pub returns : goal.returns
returns c =
    let none : c.loop-k.k ≡ 0 = omega arith in
    let all = c.loop-k.invariant.so_far ∙ ap (λ (n : ℕ). capped (product (drop n c.args.numbers.now))) none in
    omega (arith, all, c.requires)
