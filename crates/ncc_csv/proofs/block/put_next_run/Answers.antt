use Rattle.std.proofs.Common.{◌≡◌, ◌+◌, ◌*◌, ◌/◌, ◌%◌, ◌-◌, ◌<◌, ℕ, List, map, length, take, get_or, ap, sym, subst, ◌++◌, ◌∙◌, arith}
use Rattle.std.specs.List.{AllByRecursion}
use Rattle.std.proofs.lemmas.List.{length-take-le}
use Rattle.std.proofs.Math.Nat.{add-mul}
use Rattle.ncc_csv.specs.Word.{word_text}
use Rattle.ncc_csv.specs.Plain.{IsPlain}
use Rattle.ncc_csv.specs.Runs.{leading_texts, run_row, first_rows}
use Rattle.ncc_csv.proofs.Plain.{plain_decimals}
use Rattle.ncc_csv.proofs.Selecting.{last_at, rows_of_run}
use Rattle.ncc_csv.proofs.block.put_next_run.Goals as goal

pub nonzero_rem-at : goal.nonzero_rem-at
nonzero_rem-at g c =
    let last = last_at c.args.slab.now (length c.args.heads.now) c.args.number c.requires.ranked (omega (arith, c.requires.some, c.requires.there)) in
    rw c.count_along-count.ensures last.some

pub nonzero_div-number : goal.nonzero_div-number
nonzero_div-number g c =
    let last = last_at c.args.slab.now (length c.args.heads.now) c.args.number c.requires.ranked (omega (arith, c.requires.some, c.requires.there)) in
    rw c.count_along-count.ensures last.some

pub set_heads-requires-clause-there : goal.set_heads-requires-clause-there
set_heads-requires-clause-there g c =
    let last = last_at c.args.slab.now (length c.args.heads.now) c.args.number c.requires.ranked (omega (arith, c.requires.some, c.requires.there)) in
    rw c.count_along-count.ensures last.there

pub overflow_sub-count : goal.overflow_sub-count
overflow_sub-count g c =
    let last = last_at c.args.slab.now (length c.args.heads.now) c.args.number c.requires.ranked (omega (arith, c.requires.some, c.requires.there)) in
    rw c.count_along-count.ensures (omega (arith, last.some))

pub index_along-start-requires-clause-there : goal.index_along-start-requires-clause-there
index_along-start-requires-clause-there g c =
    let last = last_at c.args.slab.now (length c.args.heads.now) c.args.number c.requires.ranked (omega (arith, c.requires.some, c.requires.there)) in
    rw c.count_along-count.ensures (omega (arith, last.some))

pub put_run-requires-clause-plain : goal.put_run-requires-clause-plain
put_run-requires-clause-plain g c =
    subst (λ (l : List (List ℕ)). AllByRecursion IsPlain l) (sym c.set_heads.ensures) (plain_decimals _)

pub put_run-requires-clause-fits : goal.put_run-requires-clause-fits
put_run-requires-clause-fits g c =
    let s = c.args.slab.now in
    let r = length c.args.heads.now in
    let count = get_or s.count r 0 in
    let at = c.args.number % count in
    let more = length c.split_at.result.0.now - 1 in
    let last = last_at s r c.args.number c.requires.ranked (omega (arith, c.requires.some, c.requires.there)) in
    let start : c.index_along-start.result ≡ get_or s.start r 0 + at * get_or s.stride r 0 =
    c.index_along-start.ensures ∙ ap (λ (n : ℕ). get_or s.start r 0 + c.args.number % n * get_or s.stride r 0) c.count_along-count.ensures in
    let same : c.args.number % c.count_along-count.result ≡ at = ap (λ (n : ℕ). c.args.number % n) c.count_along-count.ensures in
    let long = c.split_at.ensures.front_len in
    let along : at + more < count = omega (arith, last.some, same, c.count_along-count.ensures, c.min-n.ensures, long) in
    let below = c.requires.fits.below r (at + more) (omega (arith, c.requires.ranked)) along in
    rw (start, c.stride_along.ensures) (omega (arith, add-mul at more (get_or s.stride r 0), below))

pub returns-clause-some : goal.returns-clause-some
returns-clause-some g c =
    let last = last_at c.args.slab.now (length c.args.heads.now) c.args.number c.requires.ranked (omega (arith, c.requires.some, c.requires.there)) in
    let same : c.args.number % c.count_along-count.result ≡ c.args.number % get_or c.args.slab.now.count (length c.args.heads.now) 0 = ap (λ (n : ℕ). c.args.number % n) c.count_along-count.ensures in
    omega (arith, last.some, same, c.count_along-count.ensures, c.min-n.ensures, c.requires.some)

pub returns-clause-added : goal.returns-clause-added
returns-clause-added g c =
    let s = c.args.slab.now in
    let r = length c.args.heads.now in
    let count = get_or s.count r 0 in
    let values = c.args.values.now in
    let n = c.min-n.result in
    let heads = map word_text c.set_heads.new.heads in
    let text = (g.T.Cell.text c.args.style) in
    let start = c.index_along-start.result in
    let stride = c.stride_along.result in
    let last = last_at s r c.args.number c.requires.ranked (omega (arith, c.requires.some, c.requires.there)) in
    let same : c.args.number % c.count_along-count.result ≡ c.args.number % count = ap (λ (k : ℕ). c.args.number % k) c.count_along-count.ensures in
    let from : start ≡ get_or s.start r 0 + c.args.number % count * get_or s.stride r 0 =
    c.index_along-start.ensures ∙ ap (λ (k : ℕ). get_or s.start r 0 + c.args.number % k * get_or s.stride r 0) c.count_along-count.ensures in
    let set : heads ≡ leading_texts s r (c.args.number / count) = c.set_heads.ensures ∙ ap (λ (k : ℕ). leading_texts s r (c.args.number / k)) c.count_along-count.ensures in
    let run : first_rows (run_row heads start stride (map text c.split_at.result.0.now)) (length c.split_at.result.0.now) ≡ first_rows (run_row heads start stride (map text (take n values))) n =
    ap (λ l. first_rows (run_row heads start stride (map text l)) (length l)) c.split_at.ensures.front
    ∙ ap (λ (k : ℕ). first_rows (run_row heads start stride (map text (take n values))) k) (length-take-le n values (omega (arith, c.min-n.ensures))) in
    let rows = rows_of_run text values s r c.args.number n heads start stride c.requires.fits c.requires.ranked (omega (arith, c.min-n.ensures)) c.requires.there
    (omega (arith, last.some, same, c.count_along-count.ensures, c.min-n.ensures)) set from c.stride_along.ensures in
    c.in_ok-put_run.ensures.rows ∙ ap (λ (t : List ℕ). c.args.page.now.items ++ t) (run ∙ rows)
