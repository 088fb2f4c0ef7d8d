use Rattle.std.proofs.Common.{◌+◌, drop, ◌∙◌, get_or, refl}
use Rattle.std.specs.List.{flat_map}
use Rattle.ncc_lines.specs.Texts.{dim_word}
use Rattle.ncc_lines.proofs.SendingText.{fails, piece_fails, piece_sent, next_item}
use Rattle.ncc_lines.proofs.sections.send_dim_words.Goals as goal

pub returns-in_err-send_dim_word-clause-sent : goal.returns-in_err-send_dim_word-clause-sent
returns-in_err-send_dim_word-clause-sent g c =
    let i = c.loop-number.number-index in
    let number = get_or c.args.numbers.now i 0 in
    let piece = dim_word c.args.dims.now number in
    let after = flat_map (dim_word c.args.dims.now) (drop (i + 1) c.args.numbers.now) in
    let parts = next_item (dim_word c.args.dims.now) c.args.numbers.now i number 0 c.loop-number-test.true refl in
    fails _ _ _ _ _ c.from_residual.ensures.0 (piece_fails _ _ _ _ c.loop-number.page.items _ piece after c.loop-number.invariant.so_far parts c.in_err-send_dim_word.ensures.sent)

pub loop-number-preserved : goal.loop-number-preserved
loop-number-preserved g c =
    let i = c.loop-number.number-index in
    let number = get_or c.args.numbers.now i 0 in
    let piece = dim_word c.args.dims.now number in
    let after = flat_map (dim_word c.args.dims.now) (drop (i + 1) c.args.numbers.now) in
    let parts = next_item (dim_word c.args.dims.now) c.args.numbers.now i number 0 c.loop-number-test.true refl in
    record {
      so_far = piece_sent _ _ _ _ c.loop-number.page.items _ piece after _ c.loop-number.invariant.so_far parts c.in_ok-send_dim_word.ensures.sent;
      count = c.in_ok-send_dim_word.ensures.count ∙ c.loop-number.invariant.count;
    }
