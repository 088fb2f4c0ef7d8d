use Rattle.std.proofs.Common.{◌≡◌, ◌-◌, ℕ, List, length, get_or, sym, ap, subst, ◌∙◌, arith}
use Rattle.ncc_layout.specs.Elements.{var_at}
use Rattle.ncc_layout.specs.Placed.{record_size_of_file, vars_of}
use Rattle.ncc_check.specs.Files.{store_of, placed_of}
use Rattle.ncc_lines.specs.Sends.{SendsAll}
use Rattle.ncc_csv.specs.Texts.{last_number}
use Rattle.ncc_csv.proofs.TextRows.{rows_of_none}
use Rattle.ncc_csv.proofs.text_parts.send_texts.Goals as goal

pub returns-then-count_along-eq0-clause-sent : goal.returns-then-count_along-eq0-clause-sent
returns-then-count_along-eq0-clause-sent g c = λ told number begins.
    let s = c.args.slab.now in
    let file = g.S.Store.bytes (store_of c.args.file.now) in
    let record_size = record_size_of_file (placed_of c.args.file.now) in
    let x = var_at (vars_of (placed_of c.args.file.now)) number in
    let none : last_number s.count ≡ 0 = ap (λ (n : ℕ). get_or s.count (n - 1) 0) (sym c.len.ensures) ∙ sym c.count_along.ensures ∙ c.if-count_along-eq0.true in
    subst (λ (t : List ℕ). SendsAll (g.W.Sink.put c.args.sink.now) (g.W.Sink.put c.send_empty_texts.new.sink) t c.send_empty_texts.result)
    (rows_of_none s (length s.count - 1) c.requires.fits (omega (arith, c.requires.ranked)) file record_size x none) c.send_empty_texts.ensures.sent
