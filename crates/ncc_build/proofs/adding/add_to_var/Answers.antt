use Rattle.std.proofs.Common.{◌∙◌, arith}
use Rattle.ncc_build.proofs.Builders.{var_written, names_written, on_ok}
use Rattle.ncc_build.proofs.adding.add_to_var.Goals as goal

pub returns-clause-attr : goal.returns-clause-attr
returns-clause-attr c =
    on_ok c.add_named-added.result _ _
    (var_written c.args.vars.now c.into_vec-listed.result.items c.from_vec.result c.args.var c.index_mut.result.now c.args.attr c.add_named-added.new.items (c.into_vec-listed.ensures ∙ c.replace.ensures.value)
    c.requires.there c.index_mut.ensures.value c.from_vec.ensures)
    c.add_named-added.ensures.item

pub returns-clause-name : goal.returns-clause-name
returns-clause-name c =
    on_ok c.add_named-added.result _ _
    (names_written c.args.tables.now.items c.args.var c.index_mut-2.result.now c.add_named-added.new.names c.args.name (omega (arith, c.requires.listed, c.args.tables.now.ok.0)) c.index_mut-2.ensures.value)
    c.add_named-added.ensures.name
