use Rattle.std.proofs.Common.{◌+◌, ◌≤◌, length, ◌∙◌, arith}
use Rattle.std.proofs.Math.Nat.{add-mul}
use Rattle.std.proofs.lemmas.Nat.{mul-le}
use Rattle.ncc_write.proofs.ManyFills.{more_fills}
use Rattle.ncc_write.proofs.putting.fill_at.Goals as goal

pub copy_again-requires-clause-room : goal.copy_again-requires-clause-room
copy_again-requires-clause-room c =
    let at = c.loop-done.invariant in
    let size = length c.args.fill.now in
    let done = c.loop-done.done in
    let more = c.min-more.result in
    let both = mul-le (done + more) size c.args.count size (omega (arith, c.min-more.ensures, c.loop-done-test.true)) (omega arith) in
    omega (arith, both, add-mul done more size, at.room, c.requires)

pub loop-done-preserved : goal.loop-done-preserved
loop-done-preserved c =
    let at = c.loop-done.invariant in
    let place_in : c.args.place ≤ length c.args.buffer.now = omega (arith, c.requires) in
    record {
      within = omega (arith, c.min-more.ensures, c.loop-done-test.true);
      some = λ less. omega (arith, at.some c.loop-done-test.true);
      bytes = more_fills c.args.place c.loop-done.done c.min-more.result c.args.fill.now c.args.buffer.now c.loop-done.buffer c.copy_again.new.buffer
          place_in (omega (arith, c.min-more.ensures)) at.bytes c.copy_again.ensures.bytes;
      room = c.copy_again.ensures.room ∙ at.room;
    }
