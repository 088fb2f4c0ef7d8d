use Rattle.std.proofs.Common.{◌≡◌, ◌++◌, ◌∷◌, [], ℕ, List, refl, sym, ap}
use Rattle.std.specs.List.{flat_map}
use Rattle.ncc_lines.specs.Texts.{var_head, var_line, dim_word}
use Rattle.ncc_lines.proofs.SendingText.{fails, first_fails, second_fails, third_sends}
use Rattle.ncc_lines.proofs.sections.send_var_line.Goals as goal

pub returns-in_err-send_var_head-clause-sent : goal.returns-in_err-send_var_head-clause-sent
returns-in_err-send_var_head-clause-sent g c =
    let a = var_head c.args.dims.now c.args.number c.args.begin c.args.var.now in
    let b = flat_map (dim_word c.args.dims.now) c.args.var.now.dims in
    let text = var_line c.args.dims.now c.args.number c.args.begin c.args.var.now in
    let parts : text ≡ a ++ (b ++ (10 ∷ [])) = refl in
    fails _ _ _ _ _ c.from_residual.ensures.0 (first_fails _ _ c.args.page.now.items text a (b ++ (10 ∷ [])) parts c.in_err-send_var_head.ensures.sent)

pub returns-in_err-send_dim_words-clause-sent : goal.returns-in_err-send_dim_words-clause-sent
returns-in_err-send_dim_words-clause-sent g c =
    let a = var_head c.args.dims.now c.args.number c.args.begin c.args.var.now in
    let b = flat_map (dim_word c.args.dims.now) c.as_slice.result.now in
    let text = var_line c.args.dims.now c.args.number c.args.begin c.args.var.now in
    let parts : text ≡ a ++ (b ++ (10 ∷ [])) = ap (λ (z : List ℕ). a ++ (flat_map (dim_word c.args.dims.now) z ++ (10 ∷ []))) (sym c.as_slice.ensures) in
    fails _ _ _ _ _ c.from_residual-in_err-send_dim_words.ensures.0 (second_fails _ _ _ c.args.page.now.items c.send_var_head.new.page.items text a b (10 ∷ []) parts c.in_ok-send_var_head.ensures.sent c.in_err-send_dim_words.ensures.sent)

pub returns-clause-sent : goal.returns-clause-sent
returns-clause-sent g c =
    let a = var_head c.args.dims.now c.args.number c.args.begin c.args.var.now in
    let b = flat_map (dim_word c.args.dims.now) c.as_slice.result.now in
    let text = var_line c.args.dims.now c.args.number c.args.begin c.args.var.now in
    let parts : text ≡ a ++ (b ++ (10 ∷ [])) = ap (λ (z : List ℕ). a ++ (flat_map (dim_word c.args.dims.now) z ++ (10 ∷ []))) (sym c.as_slice.ensures) in
    third_sends _ _ _ _ c.args.page.now.items c.send_var_head.new.page.items c.send_dim_words.new.page.items _ text a b (10 ∷ []) _ parts c.in_ok-send_var_head.ensures.sent c.in_ok-send_dim_words.ensures.sent c.send.ensures.sent
