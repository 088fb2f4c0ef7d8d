use Rattle.std.proofs.Common.{◌≡◌, ℕ, ◌+◌, ◌<◌, ◌^◌, List, ◌++◌, length, length-append, get_or, sym, ap, ap₂, subst, ◌∙◌, arith}
use Rattle.ncc_schema.specs.declared.names.NameOf.{NameOf}
use Rattle.ncc_schema.specs.declared.names.NameOf.TheVariants as of
use Rattle.ncc_schema.specs.declared.schema.Schema.{Schema}
use Rattle.ncc_schema.specs.Schema.{Place, Legal, places_of}
use Rattle.ncc_schema.specs.Header.{canon_name, canon}
use Rattle.ncc_schema.specs.Names.{capped, list_size, vars_at, attr_in, HasName, name_of, name_at}
use Rattle.ncc_schema.proofs.Encoding.{next_item}
use Rattle.ncc_schema.proofs.NamesThere.{name_is_there}
use Rattle.ncc_schema.proofs.Sizes.{before-placed}
use Rattle.ncc_schema.proofs.names.name_at.Goals as goal

-- a name stands within the header
uncapped : (s : Schema) (places : List Place) (o : NameOf) (total : ℕ) → Legal s places → HasName s o → total ≡ length (canon s places) → total < 2 ^ 64 → capped (name_at s places o) ≡ name_at s places o
uncapped s places o total legal there long small =
    let name = canon_name s.version (name_of s o) in
    let t = name_is_there s places o legal there in
    omega (arith, long, t.long, ap length t.joined, length-append t.front (name ++ t.rest))

pub returns-in-Dim : goal.returns-in-Dim
returns-in-Dim c =
    let s = c.args.header.now.schema in
    let places = places_of c.args.header.now.places in
    c.dim_at.ensures ∙ ap (λ o. capped (name_at s places o)) (sym c.in-Dim.is) ∙ uncapped s places c.args.of c.args.header.now.length c.requires.legal c.requires.there c.requires.long (omega arith)

pub returns-in-Global : goal.returns-in-Global
returns-in-Global c =
    let s = c.args.header.now.schema in
    let places = places_of c.args.header.now.places in
    c.global_at.ensures ∙ ap (λ o. capped (name_at s places o)) (sym c.in-Global.is) ∙ uncapped s places c.args.of c.args.header.now.length c.requires.legal c.requires.there c.requires.long (omega arith)

pub returns-in-Var : goal.returns-in-Var
returns-in-Var c =
    let s = c.args.header.now.schema in
    let places = places_of c.args.header.now.places in
    c.var_at.ensures ∙ ap (λ n. capped (vars_at s + list_size s.version + n)) (sym (before-placed s.version c.in-Var.i s.vars places c.requires.legal.number))
    ∙ ap (λ o. capped (name_at s places o)) (sym c.in-Var.is) ∙ uncapped s places c.args.of c.args.header.now.length c.requires.legal c.requires.there c.requires.long (omega arith)

capped_sum : (m n : ℕ) → capped (capped m + capped n) ≡ capped (m + n)
capped_sum m n = omega arith

pub returns-in-Attr : goal.returns-in-Attr
returns-in-Attr c =
    let s = c.args.header.now.schema in
    let places = places_of c.args.header.now.places in
    let v = s.version in
    let i = c.in-Attr.i in
    let x = c.index-as_slice-i.result in
    let there : HasName s (of.Attr i c.in-Attr.j) = subst (HasName s) c.in-Attr.is c.requires.there in
    let is : x ≡ get_or s.vars i x = rw c.as_slice.ensures at c.index-as_slice-i.is in
    let front = c.var_at-in-Attr.ensures ∙ ap (λ n. capped (vars_at s + list_size v + n)) (sym (before-placed v i s.vars places c.requires.legal.number)) in
    let inside = c.attr_in.ensures ∙ ap (λ xs. capped (attr_in v c.in-Attr.j xs)) (sym (next_item s.vars i x x there.0 is)) in
    c.saturating_add.ensures ∙ ap₂ (λ m n. capped (m + n)) front inside ∙ capped_sum _ _
    ∙ ap (λ o. capped (name_at s places o)) (sym c.in-Attr.is) ∙ uncapped s places c.args.of c.args.header.now.length c.requires.legal c.requires.there c.requires.long (omega arith)
