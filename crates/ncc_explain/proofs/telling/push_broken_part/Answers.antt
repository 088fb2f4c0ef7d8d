use Rattle.std.proofs.Common.{◌≡◌, ◌++◌, ◌==◌, ℕ, List, Option, Some, sym, ap, ◌∙◌, subst}
use Rattle.std.specs.Prelude.{OnOk, position}
use Rattle.ncc_schema.specs.declared.schema.VarPlace.{VarPlace}
use Rattle.ncc_explain.specs.Words.{broken_part_lines}
use Rattle.ncc_explain.proofs.Added.{two}
use Rattle.ncc_explain.proofs.telling.push_broken_part.Goals as goal

pub returns : goal.returns
returns c =
    let x = c.args.found.now in
    let f = x.fault in
    let there : Some c.in-Some.number ≡ position (λ (p : VarPlace). p.begin_at == f.offset) x.header.places =
    sym c.in-Some.is ∙ c.variable_at.ensures ∙ ap (λ (ps : List VarPlace). position (λ (p : VarPlace). p.begin_at == f.offset) ps) c.as_slice.ensures in
    subst (λ (n : Option ℕ). OnOk c.push_broken_by.result (c.push_broken_by.new.out.items ≡ c.args.out.now.items ++ broken_part_lines x.header x.file_length f n)) there
    (two c.push_broken_by.result c.args.out.now.items c.push_part_line.new.out.items c.push_broken_by.new.out.items _ _ c.in_ok-push_part_line.ensures c.push_broken_by.ensures)
