use Rattle.std.proofs.Common.{refl, sym, ap, List, ℕ, [], ◌∷◌, ◌++◌, ◌∙◌}
use Rattle.ncc_schema.specs.declared.schema.Var.{Var}
use Rattle.ncc_build.specs.Building.{with_var}
use Rattle.ncc_build.proofs.NewItems.{built_with_var}
use Rattle.ncc_build.proofs.Builders.{still_built, names_grown, vars_grown, tables_grown}
use Rattle.ncc_build.proofs.builder.SchemaBuilder.add_var.Goals as goal

pub invariant_of-self-2-clause-built : goal.invariant_of-self-2-clause-built
invariant_of-self-2-clause-built c =
    let s = c.args.self.now.schema in
    let name = c.args.name.now in
    let x : Var = record { name = c.in_ok-own_name.field-0; dims = c.from_vec.result; attrs = c.new.result; xtype = c.args.xtype } in
    still_built s (with_var s name c.args.xtype c.args.dims.now) _ c.args.self.now.built
    (vars_grown s name c.args.xtype c.args.dims.now x c.add_named.new.items c.in_ok-add_named.ensures.item c.in_ok-own_name.ensures.same (c.from_vec.ensures ∙ c.in_ok-from_slice.ensures.items) c.new.ensures refl)
    (λ b. built_with_var s name c.args.xtype c.args.dims.now b c.requires.fits c.own_name.ensures.bytes c.requires.passes)

pub invariant_of-self-2-clause-vars_named : goal.invariant_of-self-2-clause-vars_named
invariant_of-self-2-clause-vars_named c =
    let x : Var = record { name = c.in_ok-own_name.field-0; dims = c.from_vec.result; attrs = c.new.result; xtype = c.args.xtype } in
    names_grown (λ (y : Var). y.name) c.args.self.now.schema.vars c.add_named.new.items x c.args.self.now.tables.vars c.add_named.new.names c.in_ok-listed.listed
    c.args.self.now.vars_named c.in_ok-add_named.ensures.name c.in_ok-add_named.ensures.item (c.in_ok-listed.ensures.same ∙ sym c.in_ok-own_name.ensures.same)

pub invariant_of-self-2-clause-attrs_named : goal.invariant_of-self-2-clause-attrs_named
invariant_of-self-2-clause-attrs_named c =
    let x : Var = record { name = c.in_ok-own_name.field-0; dims = c.from_vec.result; attrs = c.new.result; xtype = c.args.xtype } in
    let tables = c.args.self.now.tables.attrs.items in
    tables_grown c.args.self.now.schema.vars c.add_named.new.items x tables c.push_reserved.new.self.items c.args.self.now.attrs_named
    (c.push_reserved.ensures.items ∙ ap (λ (ts : List (List (List ℕ))). ts ++ c.new-2.result ∷ []) c.reserve.ensures.items ∙ ap (λ (ns : List (List ℕ)). tables ++ ns ∷ []) c.new-2.ensures)
    c.in_ok-add_named.ensures.item c.new.ensures
