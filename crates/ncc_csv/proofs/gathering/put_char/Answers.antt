use Rattle.std.proofs.Common.{◌≡◌, ◌+◌, ◌-◌, ℕ, List, length, get_or, ap, subst, ◌∙◌, arith}
use Rattle.ncc_csv.specs.Rows.{row_line, Adds}
use Rattle.ncc_csv.specs.Texts.{last_number}
use Rattle.ncc_csv.specs.TextRuns.{numbered_row}
use Rattle.ncc_csv.proofs.Adding.{adds_none}
use Rattle.ncc_csv.proofs.Filling.{one_byte_more, row_there, whole_text}
use Rattle.ncc_csv.proofs.gathering.put_char.Goals as goal

-- the count along the last dimension
last_is : (counts : List ℕ) (i n : ℕ) → length counts ≡ i + 1 → n ≡ get_or counts i 0 → n ≡ last_number counts
last_is counts i n ranked is =
    let at : i ≡ length counts - 1 = omega (arith, ranked) in
    is ∙ ap (λ (k : ℕ). get_or counts k 0) at

pub put_numbered_row-requires-clause-there : goal.put_numbered_row-requires-clause-there
put_numbered_row-requires-clause-there g c =
    let s = c.args.slab.now in
    let last = last_is s.count (length c.args.heads.now) c.count_along.result c.requires.ranked c.count_along.ensures in
    let long = ap (λ l. length l) c.in_ok-push.ensures.items in
    row_there s (length c.args.heads.now) c.args.gathered.now.number c.requires.ranked (omega (arith, c.requires.short))
    (omega (arith, c.requires.there, last, c.len.ensures, c.if-len-count_along.true, c.in_ok-push.ensures.len))

pub returns-in_ok-put_numbered_row : goal.returns-in_ok-put_numbered_row
returns-in_ok-put_numbered_row g c =
    let s = c.args.slab.now in
    let old = c.args.gathered.now in
    let text = c.deref.result.now in
    let first : old.number ≡ old.number + 0 = omega arith in
    let last = last_is s.count (length c.args.heads.now) c.count_along.result c.requires.ranked c.count_along.ensures in
    whole_text s old _ c.args.byte text (Adds g.W.Write.contents c.args.w.now c.put_numbered_row.new.w) (c.deref.ensures.value ∙ c.in_ok-push.ensures.items)
    (c.deref.ensures.len ∙ omega (arith, last, c.len.ensures, c.if-len-count_along.true)) (omega (arith, c.requires.short)) (omega arith) c.clear.ensures.items
    (subst (λ (n : ℕ). Adds g.W.Write.contents c.args.w.now c.put_numbered_row.new.w (row_line (numbered_row s n text))) first c.in_ok-put_numbered_row.ensures)

pub returns-else-len-count_along : goal.returns-else-len-count_along
returns-else-len-count_along g c =
    let s = c.args.slab.now in
    let last = last_is s.count (length c.args.heads.now) c.count_along.result c.requires.ranked c.count_along.ensures in
    one_byte_more s c.args.gathered.now _ c.args.byte (Adds g.W.Write.contents c.args.w.now c.args.w.now) (omega arith) c.in_ok-push.ensures.items
    (omega (arith, c.requires.short, last, c.len.ensures, c.if-len-count_along.false, c.in_ok-push.ensures.len)) (adds_none g.W.Write.contents c.args.w.now c.requires.between)
