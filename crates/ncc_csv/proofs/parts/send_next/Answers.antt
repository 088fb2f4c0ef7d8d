use Rattle.std.proofs.Common.{◌+◌, ◌≤◌, ℕ, List, length, sym, ap, subst, ◌∙◌, arith}
use Rattle.ncc_schema.specs.Device.{Puts}
use Rattle.ncc_values.specs.Values.{count_of}
use Rattle.ncc_check.specs.Files.{store_of}
use Rattle.ncc_lines.specs.Sends.{PutsFront}
use Rattle.ncc_slab.specs.Selection.{selected_count}
use Rattle.ncc_slab.specs.SlabParts.{parts_left, parts_type}
use Rattle.ncc_csv.specs.Sheets.{part_rows}
use Rattle.ncc_csv.proofs.PartRows.{rows_of_part, rows_left, front_of_more, fails_next, no_front}
use Rattle.ncc_csv.proofs.parts.send_next.Goals as goal

pub returns-in-Ok-clause-sent : goal.returns-in-Ok-clause-sent
returns-in-Ok-clause-sent g c = λ told record_size x of rest.
    let s = c.args.slab.now in
    let v = c.in_ok-values.values in
    let part = c.in_ok-values.ensures in
    let there : c.args.first + count_of v ≤ selected_count s = omega (arith, part.took.0, c.requires.there) in
    let file = g.S.Store.bytes (store_of c.args.file.now) in
    let rows = rows_of_part c.args.style c.part_has_numbers.ensures file record_size x s (parts_type c.args.parts.now) (parts_left c.args.parts.now) c.args.first v of rest there part.typed (part.values told) in
    subst (λ (t : List ℕ). Puts (g.W.Sink.put c.args.sink.now) (g.W.Sink.put c.send_part-sent.new.sink) t)
    (rows ∙ ap (part_rows c.args.style file record_size x s c.args.first) (sym c.len-count.ensures)) c.in-Ok.ensures.sent

pub returns-in-Err-clause-sent : goal.returns-in-Err-clause-sent
returns-in-Err-clause-sent g c = λ told record_size x of rest.
    let s = c.args.slab.now in
    let v = c.in_ok-values.values in
    let part = c.in_ok-values.ensures in
    let left = length (parts_left c.args.parts.now) in
    let there : c.args.first + count_of v ≤ selected_count s = omega (arith, part.took.0, c.requires.there) in
    let file = g.S.Store.bytes (store_of c.args.file.now) in
    let rows = rows_of_part c.args.style c.part_has_numbers.ensures file record_size x s (parts_type c.args.parts.now) (parts_left c.args.parts.now) c.args.first v of rest there part.typed (part.values told) in
    front_of_more _ _ _ _ _ (rows_left c.args.style file record_size x s c.args.first (count_of v) left (omega (arith, part.took.0)))
    (subst (λ (t : List ℕ). PutsFront (g.W.Sink.put c.args.sink.now) (g.W.Sink.put c.send_part-sent.new.sink) t) rows c.in-Err.ensures.sent)

pub returns-in_err-values-clause-sent : goal.returns-in_err-values-clause-sent
returns-in_err-values-clause-sent g c = λ told record_size x of rest.
    let rows = part_rows c.args.style (g.S.Store.bytes (store_of c.args.file.now)) record_size x c.args.slab.now c.args.first in
    let left = length (parts_left c.args.parts.now) in
    fails_next rows left _ _ c.from_residual.result c.from_residual.ensures.0 (no_front (g.W.Sink.put c.args.sink.now) (rows left))
