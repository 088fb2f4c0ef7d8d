use Rattle.std.proofs.Common.{sym, ap, map, ◌∙◌}
use Rattle.ncc_schema.specs.declared.schema.Var.{Var}
use Rattle.ncc_build.specs.Building.{attr_names, with_attr}
use Rattle.ncc_build.proofs.NewItems.{built_with_attr}
use Rattle.ncc_build.proofs.Builders.{still_built, attrs_grown, fresh_in_table, tables_still, vars_still, on_either, built_unmoved, vars_unmoved}
use Rattle.ncc_build.proofs.builder.SchemaBuilder.add_attr.Goals as goal

pub add_to_var-requires-clause-fresh : goal.add_to_var-requires-clause-fresh
add_to_var-requires-clause-fresh c =
    fresh_in_table c.args.self.now.schema c.args.var c.args.name.now c.in_ok-listed.listed c.args.values c.args.self.now.tables.attrs.items c.args.self.now.attrs_named
    (c.in_ok-listed.ensures.same) c.requires.passes

pub invariant_of-self-clause-built : goal.invariant_of-self-clause-built
invariant_of-self-clause-built c =
    let s = c.args.self.now.schema in
    let name = c.args.name.now in
    let e = c.add_to_var.ensures in
    on_either c.add_to_var.result _ _ _ _ _ e.attr e.name e.vars_stay e.names_stay
    (λ more named. still_built s (with_attr s c.args.var name c.args.values) _ c.args.self.now.built
    (attrs_grown s c.args.var name c.args.values c.in_ok-attr.attr c.add_to_var.new.vars more c.in_ok-attr.ensures.name c.in_ok-attr.ensures.values)
    (λ b. built_with_attr s name c.args.values c.requires.fits c.own_name.ensures.bytes c.in_ok-attr.ensures.range c.args.var b c.requires.passes))
    (λ same named. built_unmoved s _ c.args.self.now.built (vars_unmoved s c.add_to_var.new.vars same))

pub invariant_of-self-clause-vars_named : goal.invariant_of-self-clause-vars_named
invariant_of-self-clause-vars_named c =
    let e = c.add_to_var.ensures in
    on_either c.add_to_var.result _ _ _ _ _ e.attr e.name e.vars_stay e.names_stay
    (λ more named. vars_still c.args.self.now.schema c.args.var c.in_ok-attr.attr c.add_to_var.new.vars more c.args.self.now.tables.vars c.args.self.now.vars_named)
    (λ same named. c.args.self.now.vars_named ∙ ap (map (λ (x : Var). x.name)) (sym same))

pub invariant_of-self-clause-attrs_named : goal.invariant_of-self-clause-attrs_named
invariant_of-self-clause-attrs_named c =
    let e = c.add_to_var.ensures in
    on_either c.add_to_var.result _ _ _ _ _ e.attr e.name e.vars_stay e.names_stay
    (λ more named. tables_still c.args.self.now.schema c.args.var c.in_ok-attr.attr c.add_to_var.new.vars more c.in_ok-listed.listed
    c.args.self.now.tables.attrs.items c.add_to_var.new.tables.items c.args.self.now.attrs_named named (c.in_ok-listed.ensures.same ∙ sym c.in_ok-attr.ensures.name))
    (λ same named. named ∙ c.args.self.now.attrs_named ∙ ap (map (λ (x : Var). attr_names x.attrs)) (sym same))
