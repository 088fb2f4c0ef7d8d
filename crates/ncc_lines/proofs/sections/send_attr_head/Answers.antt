use Rattle.std.proofs.Common.{◌≡◌, ◌++◌, ℕ, List, sym, ap}
use Rattle.ncc_lines.specs.Words.{name_text}
use Rattle.ncc_lines.specs.Texts.{attr_start, attr_type, attr_head}
use Rattle.ncc_lines.proofs.SendingText.{added, fails, second_fails, third_fails, third_sends, turned}
use Rattle.ncc_lines.proofs.sections.send_attr_head.Goals as goal

pub returns-in_err-send_name-clause-sent : goal.returns-in_err-send_name-clause-sent
returns-in_err-send_name-clause-sent g c =
    let a = attr_start c.args.owner in
    let b = name_text c.as_slice.result.now in
    let e = attr_type c.args.attr.now.values in
    let text = attr_head c.args.owner c.args.attr.now in
    let parts : text ≡ a ++ (b ++ e) = ap (λ (z : List ℕ). a ++ (name_text z ++ e)) (sym c.as_slice.ensures) in
    let first = added (g.W.Sink.put c.args.sink.now) c.args.page.now.items c.push_attr_start.new.out.items a c.in_ok-push_attr_start.ensures in
    fails _ _ _ _ _ c.from_residual-in_err-send_name.ensures.0 (second_fails (g.W.Sink.put c.args.sink.now) _ _ c.args.page.now.items c.push_attr_start.new.out.items text a b e parts first c.in_err-send_name.ensures.sent)

pub returns-in_err-push_attr_type-clause-sent : goal.returns-in_err-push_attr_type-clause-sent
returns-in_err-push_attr_type-clause-sent g c =
    let a = attr_start c.args.owner in
    let b = name_text c.as_slice.result.now in
    let e = attr_type c.args.attr.now.values in
    let text = attr_head c.args.owner c.args.attr.now in
    let parts : text ≡ a ++ (b ++ e) = ap (λ (z : List ℕ). a ++ (name_text z ++ e)) (sym c.as_slice.ensures) in
    let first = added (g.W.Sink.put c.args.sink.now) c.args.page.now.items c.push_attr_start.new.out.items a c.in_ok-push_attr_start.ensures in
    fails _ _ _ _ _ c.from_residual-in_err-push_attr_type.ensures.0 (third_fails (g.W.Sink.put c.args.sink.now) _ _ c.args.page.now.items c.push_attr_start.new.out.items _ text a b e parts first c.in_ok-send_name.ensures.sent)

pub returns-clause-sent : goal.returns-clause-sent
returns-clause-sent g c =
    let a = attr_start c.args.owner in
    let b = name_text c.as_slice.result.now in
    let e = attr_type c.args.attr.now.values in
    let text = attr_head c.args.owner c.args.attr.now in
    let parts : text ≡ a ++ (b ++ e) = ap (λ (z : List ℕ). a ++ (name_text z ++ e)) (sym c.as_slice.ensures) in
    let first = added (g.W.Sink.put c.args.sink.now) c.args.page.now.items c.push_attr_start.new.out.items a c.in_ok-push_attr_start.ensures in
    let turn = turned _ _ c.send_name.new.page.items e c.push_attr_type.new.out.items _ _ c.in_ok-push_attr_type.ensures c.turn_page.ensures.sent in
    third_sends (g.W.Sink.put c.args.sink.now) _ _ _ c.args.page.now.items c.push_attr_start.new.out.items c.send_name.new.page.items _ text a b e _ parts first c.in_ok-send_name.ensures.sent turn
