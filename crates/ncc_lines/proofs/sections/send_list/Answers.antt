use Rattle.std.proofs.Common.{◌≡◌, ◌++◌, List, refl, sym, ap, ◌∙◌}
use Rattle.ncc_schema.specs.declared.schema.Dim.{Dim}
use Rattle.ncc_schema.specs.declared.schema.Var.{Var}
use Rattle.ncc_schema.specs.declared.schema.VarPlace.{VarPlace}
use Rattle.ncc_lines.specs.Texts.{schema_lines, var_texts, list_text}
use Rattle.ncc_lines.proofs.SendingText.{fails, first_fails, second_sends}
use Rattle.ncc_lines.proofs.sections.send_list.Goals as goal

pub returns-in_err-send_schema-clause-sent : goal.returns-in_err-send_schema-clause-sent
returns-in_err-send_schema-clause-sent g c =
    let a = schema_lines c.args.style c.args.header.now.schema in
    let b = var_texts c.args.style c.args.header.now.schema.dims c.args.header.now.places 0 c.args.header.now.schema.vars in
    let text = list_text c.args.style c.args.header.now in
    let parts : text ≡ a ++ b = refl in
    fails _ _ _ _ _ c.from_residual.ensures.0 (first_fails _ _ c.args.page.now.items text a b parts c.in_err-send_schema.ensures.sent)

pub returns-clause-sent : goal.returns-clause-sent
returns-clause-sent g c =
    let a = schema_lines c.args.style c.args.header.now.schema in
    let b = var_texts c.args.style c.as_slice-dims.result.now c.as_slice.result.now 0 c.as_slice-vars.result.now in
    let text = list_text c.args.style c.args.header.now in
    let parts : text ≡ a ++ b = ap (λ (dims : List Dim). a ++ var_texts c.args.style dims c.args.header.now.places 0 c.args.header.now.schema.vars) (sym c.as_slice-dims.ensures)
    ∙ ap (λ (places : List VarPlace). a ++ var_texts c.args.style c.as_slice-dims.result.now places 0 c.args.header.now.schema.vars) (sym c.as_slice.ensures)
    ∙ ap (λ (vars : List Var). a ++ var_texts c.args.style c.as_slice-dims.result.now c.as_slice.result.now 0 vars) (sym c.as_slice-vars.ensures) in
    second_sends _ _ _ c.args.page.now.items c.send_schema.new.page.items _ text a b _ parts c.in_ok-send_schema.ensures.sent c.send_vars.ensures.sent
