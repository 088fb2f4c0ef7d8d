use Rattle.std.proofs.Common.{List, ap₂, ◌∙◌}
use Rattle.std.specs.Prelude.{zip}
use Rattle.ncc_schema.specs.declared.schema.Var.{Var}
use Rattle.ncc_schema.specs.declared.schema.VarPlace.{VarPlace}
use Rattle.ncc_schema.specs.Schema.{places_of}
use Rattle.ncc_header.proofs.Ends.{before_more}
use Rattle.ncc_header.proofs.rules.var.add_var.Goals as goal

pub returns-clause-before : goal.returns-clause-before
returns-clause-before c =
    let v = c.args.vars.now in
    ap₂ (λ (xs : List Var) (ps : List VarPlace). zip xs (places_of ps)) c.in_default.ensures.ok c.in_ok-push_item.ensures.ok
    ∙ before_more v.vars.items v.places.items c.args.var c.args.place v.paired
