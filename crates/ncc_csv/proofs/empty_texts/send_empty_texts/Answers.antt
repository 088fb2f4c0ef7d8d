use Rattle.std.proofs.Common.{◌≡◌, ◌-◌, ◌^◌, ◌<◌, [], ℕ, List, length, take, sym, ap, subst, ◌∙◌, arith}
use Rattle.ncc_layout.specs.Sizes.{product}
use Rattle.ncc_lines.specs.Sends.{SendsAll}
use Rattle.ncc_csv.specs.Runs.{first_rows}
use Rattle.ncc_csv.specs.TextRuns.{numbered_row}
use Rattle.ncc_csv.proofs.TextRows.{lists_counted}
use Rattle.ncc_csv.proofs.empty_texts.send_empty_texts.Goals as goal

pub product-rows-requires : goal.product-rows-requires
product-rows-requires g c =
    let counts = c.args.slab.now.count in
    let leading = c.saturating_sub-leading.result in
    let long : leading ≡ length counts - 1 = omega (arith, c.saturating_sub-leading.ensures, c.len.ensures) in
    let front = c.split_at.ensures.front ∙ ap (λ l. take leading l) c.as_slice.ensures ∙ ap (λ (n : ℕ). take n counts) long in
    subst (λ (l : List ℕ). product l < 2 ^ 64) (sym front) c.requires.counted

pub send_empty_rows-requires-clause-there : goal.send_empty_rows-requires-clause-there
send_empty_rows-requires-clause-there g c =
    let counts = c.args.slab.now.count in
    let leading = c.saturating_sub-leading.result in
    let long : leading ≡ length c.as_mut_slice.result.now = omega (arith, c.as_mut_slice.ensures.len, c.in_ok-heads.ensures.len) in
    c.product-rows.ensures
    ∙ ap product (c.split_at.ensures.front ∙ ap (λ l. take leading l) c.as_slice.ensures ∙ ap (λ (n : ℕ). take n counts) long)
    ∙ sym (lists_counted c.count_is_product.ensures (take (length c.as_mut_slice.result.now) counts))

pub returns-clause-sent : goal.returns-clause-sent
returns-clause-sent g c =
    let counts = c.args.slab.now.count in
    let leading = c.saturating_sub-leading.result in
    let long : leading ≡ length counts - 1 = omega (arith, c.saturating_sub-leading.ensures, c.len.ensures) in
    let rows = c.product-rows.ensures
    ∙ ap product (c.split_at.ensures.front ∙ ap (λ l. take leading l) c.as_slice.ensures ∙ ap (λ (n : ℕ). take n counts) long)
    ∙ sym (lists_counted c.count_is_product.ensures (take (length counts - 1) counts)) in
    subst (λ (n : ℕ). SendsAll (g.W.Sink.put c.args.sink.now) (g.W.Sink.put c.send_empty_rows.new.sink) (first_rows (λ k. numbered_row c.args.slab.now k []) n) c.send_empty_rows.result) rows c.send_empty_rows.ensures.sent
