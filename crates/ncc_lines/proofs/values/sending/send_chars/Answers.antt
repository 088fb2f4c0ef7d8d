use Rattle.std.proofs.Common.{◌≡◌, ◌++◌, List, [], ◌∷◌, Bool, false, length, refl}
use Rattle.std.specs.Prelude.{◌==◌}
use Rattle.std.specs.List.{flat_map}
use Rattle.ncc_values.specs.declared.raw.Char.{Char}
use Rattle.ncc_lines.specs.Words.{char_text, chars_word}
use Rattle.ncc_lines.proofs.SendingText.{fails, first_fails, second_sends}
use Rattle.ncc_lines.proofs.values.sending.send_chars.Goals as goal

-- the word of some characters
word_of : (chars : List Char) (empty : Bool) → empty ≡ (length chars == 0) → empty ≡ false → chars_word chars ≡ 32 ∷ flat_map char_text chars
word_of [] empty e f = absurd (cc)
word_of (c ∷ chars) empty e f = refl

pub returns-in_err-send-clause-sent : goal.returns-in_err-send-clause-sent
returns-in_err-send-clause-sent g c =
    let a = 32 ∷ [] in
    let b = flat_map char_text c.args.chars.now in
    let text = chars_word c.args.chars.now in
    let parts : text ≡ a ++ b = word_of c.args.chars.now c.is_empty.result c.is_empty.ensures c.if-is_empty.false in
    fails _ _ _ _ _ c.from_residual.ensures.0 (first_fails _ _ c.args.page.now.items text a b parts c.in_err-send.ensures.sent)

pub returns-clause-sent : goal.returns-clause-sent
returns-clause-sent g c =
    let a = 32 ∷ [] in
    let b = flat_map char_text c.args.chars.now in
    let text = chars_word c.args.chars.now in
    let parts : text ≡ a ++ b = word_of c.args.chars.now c.is_empty.result c.is_empty.ensures c.if-is_empty.false in
    second_sends _ _ _ c.args.page.now.items c.send.new.page.items _ text a b _ parts c.in_ok-send.ensures.sent c.send_pieces.ensures.sent
