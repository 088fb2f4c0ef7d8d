use Rattle.std.proofs.Common.{◌≡◌, ◌++◌, ℕ, List, [], ◌∷◌, refl, sym, ap}
use Rattle.ncc_lines.specs.Words.{name_text}
use Rattle.ncc_lines.specs.Texts.{dim_word, name_of}
use Rattle.ncc_lines.proofs.SendingText.{fails, first_fails, second_sends}
use Rattle.ncc_lines.proofs.sections.send_dim_word.Goals as goal

pub returns-in_err-send-clause-sent : goal.returns-in_err-send-clause-sent
returns-in_err-send-clause-sent g c =
    let a = 32 ∷ [] in
    let b = name_text (name_of c.args.dims.now c.args.number) in
    let text = dim_word c.args.dims.now c.args.number in
    let parts : text ≡ a ++ b = refl in
    fails _ _ _ _ _ c.from_residual.ensures.0 (first_fails _ _ c.args.page.now.items text a b parts c.in_err-send.ensures.sent)

pub returns-clause-sent : goal.returns-clause-sent
returns-clause-sent g c =
    let a = 32 ∷ [] in
    let b = name_text c.dim_name.result.now in
    let text = dim_word c.args.dims.now c.args.number in
    let parts : text ≡ a ++ b = ap (λ (z : List ℕ). (32 ∷ []) ++ name_text z) (sym c.dim_name.ensures) in
    second_sends _ _ _ c.args.page.now.items c.send.new.page.items _ text a b _ parts c.in_ok-send.ensures.sent c.send_name.ensures.sent
