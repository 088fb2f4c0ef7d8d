use Rattle.std.proofs.Common.{◌≡◌, ◌+◌, ◌≤◌, ◌++◌, ℕ, List, length, take, drop, ap, subst, ◌∙◌, refl, arith}
use Rattle.std.proofs.lemmas.List.{take_all}
use Rattle.ncc_schema.specs.Device.{Puts}
use Rattle.ncc_schema.proofs.Writing.{puts_both, puts_none}
use Rattle.ncc_lines.specs.Sends.{PutsFront}
use Rattle.ncc_csv.specs.TextRuns.{bytes_of, Fills, Gathers}
use Rattle.ncc_csv.proofs.Filling.{chars_done, fails_full, fills_behind, fills_more, gathers_none, gathers_more, next_chars, piece_of_all}
use Rattle.ncc_csv.proofs.PartRows.{front_behind}
use Rattle.ncc_csv.proofs.gathering.send_pieces.Goals as goal

pub loop-done-init : goal.loop-done-init
loop-done-init g c = record {
  within = omega arith;
  empty = c.requires.empty;
  sent = gathers_none c.args.slab.now c.args.gathered.now (Puts (g.W.Sink.put c.args.sink.now) (g.W.Sink.put c.args.sink.now)) c.requires.short (puts_none (g.W.Sink.put c.args.sink.now));
  count = refl;
}

pub send_piece-requires-clause-there : goal.send_piece-requires-clause-there
send_piece-requires-clause-there g c =
    let old = c.args.gathered.now in
    omega (
      arith,
      c.requires.there,
      chars_done c.args.slab.now old.number old.text.items c.args.values.now c.loop-done.done c.loop-done.gathered (Puts (g.W.Sink.put c.args.sink.now) (g.W.Sink.put c.loop-done.sink)) c.loop-done.invariant.within c.loop-done.invariant.sent,
      c.split_at-in-loop-done.ensures.front_len,
      c.split_at.ensures.back_len,
      c.min.ensures,
    )

pub returns-in_err-send_piece-clause-sent : goal.returns-in_err-send_piece-clause-sent
returns-in_err-send_piece-clause-sent g c =
    let s = c.args.slab.now in
    let old = c.args.gathered.now in
    let values = c.args.values.now in
    let done = c.loop-done.done in
    let piece = c.split_at-in-loop-done.result.0.now in
    let k = c.min.result in
    let first = g.W.Sink.put c.args.sink.now in
    let mid = g.W.Sink.put c.loop-done.sink in
    let new = g.W.Sink.put c.send_piece.new.sink in
    let back = c.split_at.ensures.back in
    let is : piece ≡ take k (drop done values) = c.split_at-in-loop-done.ensures.front ∙ ap (λ l. take k l) back in
    let short : k ≤ length (drop done values) = omega (arith, c.min.ensures, ap (λ l. length l) back) in
    let front : Fills s old.number ((old.text.items ++ bytes_of (take done values)) ++ bytes_of piece) (PutsFront first new) =
    fills_behind s old.number (old.text.items ++ bytes_of (take done values)) (bytes_of piece) c.loop-done.gathered (Puts first mid) (PutsFront mid new) (PutsFront first new)
    (λ t u a b. front_behind first mid new (t ++ u) t u refl a b) c.loop-done.invariant.sent c.in_err-send_piece.ensures.sent in
    let so_far = subst (λ (l : List ℕ). Fills s old.number l (PutsFront first new)) (next_chars old.text.items values piece done k is short) front in
    fails_full s old.number (old.text.items ++ bytes_of values) c.send_piece.new.gathered first new c.from_residual.result c.from_residual.ensures.0
    (subst (λ (l : List ℕ). Fills s old.number l (PutsFront first new)) (piece_of_all old.text.items values (done + length piece))
    (fills_more s old.number (old.text.items ++ bytes_of (take (done + length piece) values)) (bytes_of (drop (done + length piece) values)) (PutsFront first new) so_far))

pub loop-done-preserved : goal.loop-done-preserved
loop-done-preserved g c =
    let s = c.args.slab.now in
    let old = c.args.gathered.now in
    let values = c.args.values.now in
    let done = c.loop-done.done in
    let piece = c.split_at-in-loop-done.result.0.now in
    let k = c.min.result in
    let first = g.W.Sink.put c.args.sink.now in
    let mid = g.W.Sink.put c.loop-done.sink in
    let new = g.W.Sink.put c.send_piece.new.sink in
    let back = c.split_at.ensures.back in
    let is : piece ≡ take k (drop done values) = c.split_at-in-loop-done.ensures.front ∙ ap (λ l. take k l) back in
    let short : k ≤ length (drop done values) = omega (arith, c.min.ensures, ap (λ l. length l) back) in
    record {
      within = omega (arith, c.split_at-in-loop-done.ensures.front_len, c.split_at.ensures.back_len, c.min.ensures);
      empty = c.in_ok-send_piece.ensures.empty;
      sent = subst (λ (l : List ℕ). Gathers s old.number l c.send_piece.new.gathered (Puts first new)) (next_chars old.text.items values piece done k is short)
          (gathers_more s old.number (old.text.items ++ bytes_of (take done values)) (bytes_of piece) c.loop-done.gathered c.send_piece.new.gathered (Puts first mid) (Puts mid new) (Puts first new)
          (λ t u a b. puts_both first mid new t u a b) c.loop-done.invariant.sent c.in_ok-send_piece.ensures.sent);
      count = c.in_ok-send_piece.ensures.count ∙ c.loop-done.invariant.count;
    }

pub returns-clause-sent : goal.returns-clause-sent
returns-clause-sent g c =
    let old = c.args.gathered.now in
    subst (λ (l : List ℕ). Gathers c.args.slab.now old.number (old.text.items ++ l) c.loop-done.gathered (Puts (g.W.Sink.put c.args.sink.now) (g.W.Sink.put c.loop-done.sink)))
    (ap (λ l. bytes_of l) (take_all c.loop-done.done c.args.values.now (omega (arith, c.loop-done-test.false)))) c.loop-done.invariant.sent
