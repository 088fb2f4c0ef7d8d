use Rattle.std.proofs.Common.{◌++◌, ◌∷◌, [], refl, sym, ap, ◌∙◌, arith, List}
use Rattle.ncc_schema.specs.declared.schema.Attr.{Attr}
use Rattle.ncc_values.specs.Values.{values_of}
use Rattle.ncc_header.specs.Fields.{attr}
use Rattle.ncc_header.specs.Left.{begins_of, come_of, from_attrs}
use Rattle.ncc_header.specs.declared.partial.Named.TheVariants as named
use Rattle.ncc_header.specs.declared.partial.Next.TheVariants as nexts
use Rattle.ncc_header.proofs.WholeItems.{went, starts_attr, needed}
use Rattle.ncc_header.proofs.rules.whole_attr.take_attr.Goals as goal

pub returns-in-Ok-clause-some : goal.returns-in-Ok-clause-some
returns-in-Ok-clause-some c =
    let r = c.args.reading.now in
    let l = r.partial.lists in
    let o = c.args.owner in
    let found = c.in-Some.found in
    let x : Attr = record { name = found.name.now; values = values_of found.xtype found.values.now } in
    went r _ c.args.rest.now found.after.now _ (ap (λ n. come_of n r.partial) c.requires.next) c.requires.none (omega (arith, c.in-Some.ensures.less)) (omega (arith, c.requires.within))
    c.next_attr-reading.ensures.fresh c.requires.none refl refl refl
    (attr l.parts.version) (λ y. from_attrs o l (l.attrs.items ++ y ∷ []) l.attrs_left) x
    (starts_attr r o c.requires.next) c.in-Some.ensures.at_front
    (c.next_attr-reading.ensures.left ∙ ap (λ (items : List Attr). from_attrs o l items l.attrs_left) c.in-Ok.ensures)
    (c.next_attr-reading.ensures.begins ∙ sym (ap (λ n. begins_of n l.vars) c.requires.next))

pub returns-in-Err-clause-needs : goal.returns-in-Err-clause-needs
returns-in-Err-clause-needs c =
    let found = c.in-Some.found in
    let x : Attr = record { name = found.name.now; values = values_of found.xtype found.values.now } in
    needed c.args.reading.now (nexts.NameLength (named.Attr c.args.owner)) c.args.rest.now c.requires.next (x, found.after.now, c.in-Some.ensures.at_front)
