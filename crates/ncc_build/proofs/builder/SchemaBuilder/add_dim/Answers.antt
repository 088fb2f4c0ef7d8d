use Rattle.std.proofs.Common.{sym, ◌∙◌}
use Rattle.ncc_schema.specs.declared.schema.Dim.{Dim}
use Rattle.ncc_build.specs.Building.{with_dim}
use Rattle.ncc_build.proofs.NewItems.{built_with_dim}
use Rattle.ncc_build.proofs.Builders.{still_built, names_grown, dims_grown, record_dim_now, record_dim_still}
use Rattle.ncc_build.proofs.builder.SchemaBuilder.add_dim.Goals as goal

pub invariant_of-self-then-len-eq0-clause-built : goal.invariant_of-self-then-len-eq0-clause-built
invariant_of-self-then-len-eq0-clause-built c =
    let s = c.args.self.now.schema in
    let own = c.in_ok-own_name.field-0 in
    still_built s (with_dim s c.args.name.now c.args.len) _ c.args.self.now.built
    (dims_grown s c.args.name.now own c.args.len c.add_named.new.items c.in_ok-add_named.ensures.item c.in_ok-own_name.ensures.same)
    (λ b. built_with_dim s c.args.name.now c.args.len b c.requires.fits c.own_name.ensures.bytes c.requires.passes)

pub invariant_of-self-then-len-eq0-clause-record_dim : goal.invariant_of-self-then-len-eq0-clause-record_dim
invariant_of-self-then-len-eq0-clause-record_dim c =
    record_dim_now c.args.self.now.schema c.args.name.now c.in_ok-own_name.field-0 c.args.len c.add_named.new.items c.in_ok-add_named.ensures.item c.if-len-eq0.true

pub invariant_of-self-then-len-eq0-clause-dims_named : goal.invariant_of-self-then-len-eq0-clause-dims_named
invariant_of-self-then-len-eq0-clause-dims_named c =
    let s = c.args.self.now.schema in
    let d : Dim = record { name = c.in_ok-own_name.field-0; length = c.args.len } in
    names_grown (λ (x : Dim). x.name) s.dims c.add_named.new.items d c.args.self.now.tables.dims c.add_named.new.names c.in_ok-listed.listed c.args.self.now.dims_named
    c.in_ok-add_named.ensures.name c.in_ok-add_named.ensures.item (c.in_ok-listed.ensures.same ∙ sym c.in_ok-own_name.ensures.same)

pub invariant_of-self-else-len-eq0-clause-built : goal.invariant_of-self-else-len-eq0-clause-built
invariant_of-self-else-len-eq0-clause-built c =
    let s = c.args.self.now.schema in
    let own = c.in_ok-own_name.field-0 in
    still_built s (with_dim s c.args.name.now c.args.len) _ c.args.self.now.built
    (dims_grown s c.args.name.now own c.args.len c.add_named.new.items c.in_ok-add_named.ensures.item c.in_ok-own_name.ensures.same)
    (λ b. built_with_dim s c.args.name.now c.args.len b c.requires.fits c.own_name.ensures.bytes c.requires.passes)

pub invariant_of-self-else-len-eq0-clause-record_dim : goal.invariant_of-self-else-len-eq0-clause-record_dim
invariant_of-self-else-len-eq0-clause-record_dim c =
    record_dim_still c.args.self.now.schema c.args.name.now c.in_ok-own_name.field-0 c.args.len c.add_named.new.items c.in_ok-add_named.ensures.item
    c.args.self.now.has_records c.args.self.now.record_dim c.if-len-eq0.false

pub invariant_of-self-else-len-eq0-clause-dims_named : goal.invariant_of-self-else-len-eq0-clause-dims_named
invariant_of-self-else-len-eq0-clause-dims_named c =
    let s = c.args.self.now.schema in
    let d : Dim = record { name = c.in_ok-own_name.field-0; length = c.args.len } in
    names_grown (λ (x : Dim). x.name) s.dims c.add_named.new.items d c.args.self.now.tables.dims c.add_named.new.names c.in_ok-listed.listed c.args.self.now.dims_named
    c.in_ok-add_named.ensures.name c.in_ok-add_named.ensures.item (c.in_ok-listed.ensures.same ∙ sym c.in_ok-own_name.ensures.same)
