use Rattle.std.proofs.Common.{◌≡◌, ◌++◌, ℕ, List, map, sym, ap, subst, ◌∙◌}
use Rattle.std.specs.Prelude.{pos}
use Rattle.ncc_slab.specs.Selected.{numbers_of}
use Rattle.ncc_csv.specs.Texts.{byte_of}
use Rattle.ncc_csv.specs.TextRuns.{bytes_of, SendsFull}
use Rattle.ncc_csv.proofs.Order.{map-map}
use Rattle.ncc_csv.proofs.text_parts.send_values.Goals as goal

pub returns-clause-sent : goal.returns-clause-sent
returns-clause-sent g c =
    let old = c.args.gathered.now in
    let bytes : bytes_of c.as_slice.result.now ≡ map byte_of (numbers_of c.args.values.now) =
    ap (λ l. bytes_of l) c.as_slice.ensures ∙ sym (map-map byte_of (λ x. pos x.0) c.in-Chars.items) ∙ ap (λ v. map byte_of (numbers_of v)) (sym c.in-Chars.is) in
    subst (λ (l : List ℕ). SendsFull c.args.slab.now old.number (old.text.items ++ l) c.send_chars.new.gathered (g.W.Sink.put c.args.sink.now) (g.W.Sink.put c.send_chars.new.sink) c.send_chars.result) bytes c.send_chars.ensures.sent
