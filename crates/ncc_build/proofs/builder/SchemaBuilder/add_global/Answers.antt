use Rattle.std.proofs.Common.{sym, ap, map, ◌∙◌}
use Rattle.ncc_schema.specs.declared.schema.Attr.{Attr}
use Rattle.ncc_build.specs.Building.{with_global}
use Rattle.ncc_build.proofs.NewItems.{built_with_global}
use Rattle.ncc_build.proofs.Builders.{still_built, names_grown, globals_grown, on_either, built_unmoved, globals_unmoved}
use Rattle.ncc_build.proofs.builder.SchemaBuilder.add_global.Goals as goal

pub invariant_of-self-clause-built : goal.invariant_of-self-clause-built
invariant_of-self-clause-built c =
    let s = c.args.self.now.schema in
    let name = c.args.name.now in
    let e = c.add_named.ensures in
    on_either c.add_named.result _ _ _ _ _ e.item e.name e.items_stay e.names_stay
    (λ item named. still_built s (with_global s name c.args.values) _ c.args.self.now.built
    (globals_grown s name c.args.values c.in_ok-attr.attr c.add_named.new.items item c.in_ok-attr.ensures.name c.in_ok-attr.ensures.values)
    (λ b. built_with_global s name c.args.values b c.requires.fits c.own_name.ensures.bytes c.in_ok-attr.ensures.range c.requires.passes))
    (λ item named. built_unmoved s _ c.args.self.now.built (globals_unmoved s c.add_named.new.items item))

pub invariant_of-self-clause-globals_named : goal.invariant_of-self-clause-globals_named
invariant_of-self-clause-globals_named c =
    let e = c.add_named.ensures in
    on_either c.add_named.result _ _ _ _ _ e.item e.name e.items_stay e.names_stay
    (λ item named. names_grown (λ (a : Attr). a.name) c.args.self.now.schema.gatts c.add_named.new.items c.in_ok-attr.attr c.args.self.now.tables.globals c.add_named.new.names c.in_ok-listed.listed
    c.args.self.now.globals_named named item (c.in_ok-listed.ensures.same ∙ sym c.in_ok-attr.ensures.name))
    (λ item named. named ∙ c.args.self.now.globals_named ∙ ap (map (λ (a : Attr). a.name)) (sym item))
