use Rattle.std.proofs.Common.{◌≡◌, ◌++◌, ap, ◌∙◌, subst}
use Rattle.std.specs.Prelude.{OnOk, codes}
use Rattle.ncc_lines.specs.Texts.{at_line}
use Rattle.ncc_lines.specs.Verdicts.{note_line}
use Rattle.ncc_parts.specs.Parts.{parts_of}
use Rattle.ncc_explain.specs.Words.{note_part_lines, rule_line}
use Rattle.ncc_explain.proofs.Added.{three}
use Rattle.ncc_explain.proofs.telling.push_note.Goals as goal

pub returns : goal.returns
returns c =
    let h = c.args.header.now in
    let n = c.args.note.now in
    let old = c.args.out.now.items in
    let line = c.in_ok-push_at.ensures ∙ ap (λ w. old ++ at_line (codes "note ") w n.offset) c.note_name.ensures in
    let part = c.in_ok-push_note_part.ensures ∙ ap (λ p. c.push_at.new.out.items ++ note_part_lines h n.kind p) (c.part_of.ensures (parts_of h.schema) c.requires.pieces) in
    let rule = subst (λ w. OnOk c.push_rule.result (c.push_rule.new.out.items ≡ c.push_note_part.new.out.items ++ rule_line w)) c.note_rule.ensures c.push_rule.ensures in
    three c.push_rule.result old c.push_at.new.out.items c.push_note_part.new.out.items c.push_rule.new.out.items (note_line n) _ _ line part rule
