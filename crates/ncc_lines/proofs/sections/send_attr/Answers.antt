use Rattle.std.proofs.Common.{◌≡◌, ◌++◌, ◌∷◌, [], refl}
use Rattle.ncc_lines.specs.Words.{values_text}
use Rattle.ncc_lines.specs.Texts.{attr_head, attr_line}
use Rattle.ncc_lines.proofs.SendingText.{fails, first_fails, second_fails, third_sends}
use Rattle.ncc_lines.proofs.sections.send_attr.Goals as goal

pub returns-in_err-send_attr_head-clause-sent : goal.returns-in_err-send_attr_head-clause-sent
returns-in_err-send_attr_head-clause-sent g c =
    let a = attr_head c.args.owner c.args.attr.now in
    let b = values_text c.args.style c.args.attr.now.values in
    let text = attr_line c.args.style c.args.owner c.args.attr.now in
    let parts : text ≡ a ++ (b ++ (10 ∷ [])) = refl in
    fails _ _ _ _ _ c.from_residual.ensures.0 (first_fails _ _ c.args.page.now.items text a (b ++ (10 ∷ [])) parts c.in_err-send_attr_head.ensures.sent)

pub returns-in_err-send_values-clause-sent : goal.returns-in_err-send_values-clause-sent
returns-in_err-send_values-clause-sent g c =
    let a = attr_head c.args.owner c.args.attr.now in
    let b = values_text c.args.style c.args.attr.now.values in
    let text = attr_line c.args.style c.args.owner c.args.attr.now in
    let parts : text ≡ a ++ (b ++ (10 ∷ [])) = refl in
    fails _ _ _ _ _ c.from_residual-in_err-send_values.ensures.0 (second_fails _ _ _ c.args.page.now.items c.send_attr_head.new.page.items text a b (10 ∷ []) parts c.in_ok-send_attr_head.ensures.sent c.in_err-send_values.ensures.sent)

pub returns-clause-sent : goal.returns-clause-sent
returns-clause-sent g c =
    let a = attr_head c.args.owner c.args.attr.now in
    let b = values_text c.args.style c.args.attr.now.values in
    let text = attr_line c.args.style c.args.owner c.args.attr.now in
    let parts : text ≡ a ++ (b ++ (10 ∷ [])) = refl in
    third_sends _ _ _ _ c.args.page.now.items c.send_attr_head.new.page.items c.send_values.new.page.items _ text a b (10 ∷ []) _ parts c.in_ok-send_attr_head.ensures.sent c.in_ok-send_values.ensures.sent c.send.ensures.sent
