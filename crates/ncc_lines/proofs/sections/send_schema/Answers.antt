use Rattle.std.proofs.Common.{◌≡◌, ◌++◌, List, None, sym, ap, ◌∙◌}
use Rattle.ncc_schema.specs.declared.schema.Attr.{Attr}
use Rattle.ncc_schema.specs.declared.schema.Dim.{Dim}
use Rattle.ncc_lines.specs.Texts.{head_lines, dim_lines, attr_lines, schema_lines}
use Rattle.ncc_lines.proofs.SendingText.{added, fails, second_fails, third_sends}
use Rattle.ncc_lines.proofs.sections.send_schema.Goals as goal

pub returns-in_err-send_dims-clause-sent : goal.returns-in_err-send_dims-clause-sent
returns-in_err-send_dims-clause-sent g c =
    let s = c.args.schema.now in
    let a = head_lines s in
    let b = dim_lines 0 c.as_slice.result.now in
    let e = attr_lines c.args.style None s.gatts in
    let parts : schema_lines c.args.style s ≡ a ++ (b ++ e) = ap (λ (z : List Dim). a ++ (dim_lines 0 z ++ attr_lines c.args.style None s.gatts)) (sym c.as_slice.ensures) in
    let first = added (g.W.Sink.put c.args.sink.now) c.args.page.now.items c.push_head.new.out.items a c.in_ok-push_head.ensures in
    fails _ _ _ _ _ c.from_residual-in_err-send_dims.ensures.0 (second_fails (g.W.Sink.put c.args.sink.now) _ _ c.args.page.now.items c.push_head.new.out.items (schema_lines c.args.style s) a b e parts first c.in_err-send_dims.ensures.sent)

pub returns-clause-sent : goal.returns-clause-sent
returns-clause-sent g c =
    let s = c.args.schema.now in
    let a = head_lines s in
    let b = dim_lines 0 c.as_slice.result.now in
    let e = attr_lines c.args.style None c.as_slice-2.result.now in
    let parts : schema_lines c.args.style s ≡ a ++ (b ++ e) = ap (λ (z : List Dim). a ++ (dim_lines 0 z ++ attr_lines c.args.style None s.gatts)) (sym c.as_slice.ensures)
    ∙ ap (λ (z : List Attr). a ++ (b ++ attr_lines c.args.style None z)) (sym c.as_slice-2.ensures) in
    let first = added (g.W.Sink.put c.args.sink.now) c.args.page.now.items c.push_head.new.out.items a c.in_ok-push_head.ensures in
    third_sends (g.W.Sink.put c.args.sink.now) _ _ _ c.args.page.now.items c.push_head.new.out.items c.send_dims.new.page.items _ (schema_lines c.args.style s) a b e _ parts first c.in_ok-send_dims.ensures.sent c.send_attrs.ensures.sent
