use Rattle.std.proofs.Common.{◌≡◌, ◌++◌, ◌==◌, ℕ, List, Option, Some, sym, ap, ◌∙◌, subst}
use Rattle.std.specs.Prelude.{OnOk, position}
use Rattle.ncc_schema.specs.declared.schema.VarPlace.{VarPlace}
use Rattle.ncc_explain.specs.Members.{broken_part_members}
use Rattle.ncc_explain.proofs.Added.{two}
use Rattle.ncc_explain.proofs.objects.put_broken_part.Goals as goal

pub returns-clause-tokens : goal.returns-clause-tokens
returns-clause-tokens c =
    let x = c.args.found.now in
    let f = x.fault in
    let there : Some c.in-Some.number ≡ position (λ (p : VarPlace). p.begin_at == f.offset) x.header.places =
    sym c.in-Some.is ∙ c.variable_at.ensures ∙ ap (λ (ps : List VarPlace). position (λ (p : VarPlace). p.begin_at == f.offset) ps) c.as_slice.ensures in
    subst (λ (n : Option ℕ). OnOk c.put_broken_by.result (c.put_broken_by.new.out.tokens ≡ c.args.out.now.tokens ++ broken_part_members x.header x.file_length f n)) there
    (two c.put_broken_by.result c.args.out.now.tokens c.put_variable.new.out.tokens c.put_broken_by.new.out.tokens _ _ c.in_ok-put_variable.ensures.tokens c.put_broken_by.ensures.tokens)
