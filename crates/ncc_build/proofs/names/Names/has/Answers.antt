use Rattle.std.proofs.Common.{List, ap, map, sym, ◌∙◌}
use Rattle.std.specs.Cmp.Lexicographic.{pointwise}
use Rattle.std.specs.List.{list_any}
use Rattle.std.specs.Prelude.{eqb, ℕ}
use Rattle.ncc_build.specs.Building.{is_duplicate_name}
use Rattle.ncc_build.proofs.Tables.{among_first, found_is, past_first}
use Rattle.ncc_build.proofs.names.Names.has.Goals as goal

pub returns-then-is_one_of : goal.returns-then-is_one_of
returns-then-is_one_of c =
    let name = c.args.name.now in
    let inside = c.self.inside in
    let among = ap (λ (l : List (List ℕ)). list_any (pointwise eqb name) l) (sym c.deref.ensures.value) ∙ sym c.is_one_of.ensures ∙ c.if-is_one_of.true in
    c.if-is_one_of.true ∙ sym (ap (is_duplicate_name name) (sym c.self.view_is) ∙ among_first name inside.few.items (map (λ k. k.items) inside.table.keys) among)

pub returns-else-is_one_of : goal.returns-else-is_one_of
returns-else-is_one_of c =
    let name = c.args.name.now in
    let inside = c.self.inside in
    let not_among = ap (λ (l : List (List ℕ)). list_any (pointwise eqb name) l) (sym c.deref.ensures.value) ∙ sym c.is_one_of.ensures ∙ c.if-is_one_of.false in
    c.contains.ensures ∙ found_is (λ k. k.items) name inside.table.keys
    ∙ past_first name inside.few.items (map (λ k. k.items) inside.table.keys) not_among
    ∙ ap (is_duplicate_name name) c.self.view_is
