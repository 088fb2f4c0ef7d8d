-- Whole pages go out.
use Rattle.std.proofs.Common.{◌≡◌, ℕ, zero, suc, ◌+◌, ◌-◌, ◌*◌, ◌<◌, ◌≤◌, replicate, List, ◌++◌, length, ap, subst, ◌∙◌, arith}
use Rattle.std.specs.Prelude.{◌/◌, ◌%◌}
use Rattle.std.specs.List.{concat}
use Rattle.std.proofs.lemmas.List.{length-append}
use Rattle.ncc_write.specs.PagedSink.{IsPaged, Paged}
use Rattle.ncc_write.specs.declared.paged_sink.PagedSink.{PagedSink}

-- nothing waits at first
pub first_out : (n : ℕ) → IsPaged n n 0 (65536 - n % 65536)
first_out n = record { waits = omega arith; page = omega arith }

-- bytes more wait
pub page_stays : (first n m filled full end : ℕ) → IsPaged first n filled full → filled + m ≡ end → end < full → IsPaged first (n + m) end full
page_stays first n m filled full end p more room =
    let same : (n + m) / 65536 ≡ n / 65536 = omega (arith, p.waits, p.page, more, room) in
    record { waits = omega (arith, p.waits, more, same); page = omega (arith, p.page, same) }

-- a page goes out
pub page_goes : (first n m filled full end : ℕ) → IsPaged first n filled full → filled + m ≡ end → full ≤ end → end < full + 8
    → IsPaged first (n + m) (end - full) 65536
page_goes first n m filled full end p more all near =
    let next : (n + m) / 65536 ≡ n / 65536 + 1 = omega (arith, p.waits, p.page, more, all, near) in
    record { waits = omega (arith, p.waits, p.page, more, all, next); page = omega (arith, p.waits, next) }

-- ---- fill values

pub length_copies : (n : ℕ) (fill : List ℕ) → length (concat (replicate n fill)) ≡ n * length fill
length_copies zero fill = omega arith
length_copies (suc n) fill = omega (arith, length-append fill (concat (replicate n fill)), length_copies n fill)

-- ---- a slab that is full

-- the slab's padding isn't put yet
pub paged_before : {W : Type 0} (first whole : ℕ) (o : PagedSink W) (old bytes padding : List ℕ) {new : List ℕ} → new ≡ old ++ bytes ++ padding
    → whole + length padding ≡ length new → Paged first (length old + length bytes) o → Paged first whole o
paged_before first whole o old bytes padding is sum p =
    let long = ap length is ∙ length-append (old ++ bytes) padding in
    let end : length old + length bytes ≡ whole = omega (arith, long, length-append old bytes, sum) in
    subst (λ (k : ℕ). Paged first k o) end p
