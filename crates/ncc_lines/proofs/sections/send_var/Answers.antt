use Rattle.std.proofs.Common.{◌≡◌, ◌++◌, List, Some, refl, sym, ap}
use Rattle.ncc_schema.specs.declared.schema.Attr.{Attr}
use Rattle.ncc_lines.specs.Texts.{var_line, var_text, attr_lines}
use Rattle.ncc_lines.proofs.SendingText.{fails, first_fails, second_sends}
use Rattle.ncc_lines.proofs.sections.send_var.Goals as goal

pub returns-in_err-send_var_line-clause-sent : goal.returns-in_err-send_var_line-clause-sent
returns-in_err-send_var_line-clause-sent g c =
    let a = var_line c.args.dims.now c.args.number c.args.begin c.args.var.now in
    let b = attr_lines c.args.style (Some c.args.number) c.args.var.now.attrs in
    let text = var_text c.args.style c.args.dims.now c.args.number c.args.begin c.args.var.now in
    let parts : text ≡ a ++ b = refl in
    fails _ _ _ _ _ c.from_residual.ensures.0 (first_fails _ _ c.args.page.now.items text a b parts c.in_err-send_var_line.ensures.sent)

pub returns-clause-sent : goal.returns-clause-sent
returns-clause-sent g c =
    let a = var_line c.args.dims.now c.args.number c.args.begin c.args.var.now in
    let b = attr_lines c.args.style (Some c.args.number) c.as_slice.result.now in
    let text = var_text c.args.style c.args.dims.now c.args.number c.args.begin c.args.var.now in
    let parts : text ≡ a ++ b = ap (λ (z : List Attr). a ++ attr_lines c.args.style (Some c.args.number) z) (sym c.as_slice.ensures) in
    second_sends _ _ _ c.args.page.now.items c.send_var_line.new.page.items _ text a b _ parts c.in_ok-send_var_line.ensures.sent c.send_attrs.ensures.sent
