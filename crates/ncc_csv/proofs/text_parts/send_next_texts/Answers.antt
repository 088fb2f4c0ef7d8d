use Rattle.std.proofs.Common.{◌≡◌, ◌+◌, ◌-◌, ◌++◌, ℕ, List, map, length, sym, ap, subst, ◌∙◌, append_assoc, arith}
use Rattle.std.proofs.lemmas.List.{length-append, length-map}
use Rattle.ncc_schema.specs.Device.{Puts}
use Rattle.ncc_values.specs.Values.{count_of}
use Rattle.ncc_check.specs.Files.{store_of}
use Rattle.ncc_lines.specs.Sends.{PutsFront}
use Rattle.ncc_slab.specs.Selected.{numbers_of}
use Rattle.ncc_slab.specs.SlabParts.{parts_left, parts_type}
use Rattle.ncc_csv.specs.Texts.{byte_of}
use Rattle.ncc_csv.specs.TextRuns.{done_in, part_bytes, Fills, Gathers}
use Rattle.ncc_csv.proofs.Filling.{gathered_all, fills_more, fills_none}
use Rattle.ncc_csv.proofs.PartRows.{no_front}
use Rattle.ncc_csv.proofs.PartTexts.{length-numbers_of}
use Rattle.ncc_csv.proofs.TextParts.{bytes_of_part, bytes_left, fails_texts}
use Rattle.ncc_csv.proofs.text_parts.send_next_texts.Goals as goal

pub returns-in_err-values-clause-sent : goal.returns-in_err-values-clause-sent
returns-in_err-values-clause-sent g c = λ told record_size x of rest.
    let s = c.args.slab.now in
    let old = c.args.gathered.now in
    let put = g.W.Sink.put c.args.sink.now in
    let bytes = part_bytes (g.S.Store.bytes (store_of c.args.file.now)) record_size x s (done_in s old) in
    let left = length (parts_left c.args.parts.now) in
    fails_texts s old _ bytes left _ _ c.from_residual.result c.from_residual.ensures.0 (fills_none s old.number (old.text.items ++ bytes left) (PutsFront put put) (no_front put _))

pub returns-in-Ok-clause-done : goal.returns-in-Ok-clause-done
returns-in-Ok-clause-done g c =
    let s = c.args.slab.now in
    let old = c.args.gathered.now in
    let v = c.in_ok-values.values in
    let bytes = map byte_of (numbers_of v) in
    omega (
      arith,
      gathered_all s old.number (old.text.items ++ bytes) _ _ c.in-Ok.ensures.sent,
      length-append old.text.items bytes,
      length-map (numbers_of v) byte_of,
      length-numbers_of v,
      c.len-count.ensures,
    )

pub returns-in-Ok-clause-sent : goal.returns-in-Ok-clause-sent
returns-in-Ok-clause-sent g c = λ told record_size x of rest.
    let s = c.args.slab.now in
    let old = c.args.gathered.now in
    let v = c.in_ok-values.values in
    let file = g.S.Store.bytes (store_of c.args.file.now) in
    let bytes = bytes_of_part c.part_has_numbers.ensures file record_size x s (parts_type c.args.parts.now) (parts_left c.args.parts.now) (done_in s old) v of rest (c.in_ok-values.ensures.values told) in
    subst (λ (l : List ℕ). Gathers s old.number (old.text.items ++ l) c.send_values-sent.new.gathered (Puts (g.W.Sink.put c.args.sink.now) (g.W.Sink.put c.send_values-sent.new.sink)))
    (bytes ∙ ap (part_bytes file record_size x s (done_in s old)) (sym c.len-count.ensures)) c.in-Ok.ensures.sent

pub returns-in-Err-clause-sent : goal.returns-in-Err-clause-sent
returns-in-Err-clause-sent g c = λ told record_size x of rest.
    let s = c.args.slab.now in
    let old = c.args.gathered.now in
    let v = c.in_ok-values.values in
    let n = count_of v in
    let file = g.S.Store.bytes (store_of c.args.file.now) in
    let left = length (parts_left c.args.parts.now) in
    let first = done_in s old in
    let P = PutsFront (g.W.Sink.put c.args.sink.now) (g.W.Sink.put c.send_values-sent.new.sink) in
    let bytes = bytes_of_part c.part_has_numbers.ensures file record_size x s (parts_type c.args.parts.now) (parts_left c.args.parts.now) first v of rest (c.in_ok-values.ensures.values told) in
    let here : Fills s old.number (old.text.items ++ part_bytes file record_size x s first n) P = subst (λ (l : List ℕ). Fills s old.number (old.text.items ++ l) P) bytes c.in-Err.ensures.sent in
    let rest_of : (old.text.items ++ part_bytes file record_size x s first n) ++ part_bytes file record_size x s (first + n) (left - n) ≡ old.text.items ++ part_bytes file record_size x s first left =
    append_assoc old.text.items (part_bytes file record_size x s first n) (part_bytes file record_size x s (first + n) (left - n))
    ∙ ap (λ (l : List ℕ). old.text.items ++ l) (sym (bytes_left file record_size x s first n left (omega (arith, c.in_ok-values.ensures.took.0)))) in
    subst (λ (l : List ℕ). Fills s old.number l P) rest_of (fills_more s old.number (old.text.items ++ part_bytes file record_size x s first n) (part_bytes file record_size x s (first + n) (left - n)) P here)
