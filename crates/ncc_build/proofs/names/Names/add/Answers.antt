use Rattle.std.proofs.Common.{◌≡◌, ℕ, List, [], ◌∷◌, ◌++◌, false, ap, map, subst, sym, ◌∙◌, append_assoc}
use Rattle.std.specs.Prelude.{is_ok}
use Rattle.ncc_build.specs.Building.{is_duplicate_name}
use Rattle.ncc_build.specs.Tables.{NoneTwice}
use Rattle.ncc_build.proofs.Tables.{added_is, distinct_either, not_first, not_other}
use Rattle.ncc_build.proofs.names.Names.add.Goals as goal

pub invariant_of-self-inside : goal.invariant_of-self-inside
invariant_of-self-inside c =
    let inside = c.self.inside in
    let others = map (λ k. k.items) inside.table.keys in
    let fresh : is_duplicate_name c.args.name inside.few.items ≡ false =
    not_first c.args.name inside.few.items others (ap (is_duplicate_name c.args.name) (c.self.view_is ∙ c.move_few.ensures) ∙ c.requires) in
    (subst NoneTwice (sym c.push.ensures.items) (distinct_either (is_ok c.push.result) inside.few.items c.args.name inside.distinct fresh), tt)

pub returns-clause-ok : goal.returns-clause-ok
returns-clause-ok c =
    let inside = c.self.inside in
    let key = c.in_ok-from_slice.field-0 in
    let others = map (λ k. k.items) inside.table.keys in
    let is : key.items ≡ c.args.name = c.in_ok-from_slice.ensures.items ∙ c.as_slice.ensures in
    let view = c.self.view_is ∙ c.move_few.ensures in
    let fresh : is_duplicate_name key.items others ≡ false =
    ap (λ (n : List ℕ). is_duplicate_name n others) is
    ∙ not_other c.args.name inside.few.items others (ap (is_duplicate_name c.args.name) view ∙ c.requires) in
    ap (λ (l : List (List ℕ)). inside.few.items ++ l) (added_is (λ k. k.items) key inside.table.keys c.insert.new.self.keys c.in_ok-insert.ensures.keys fresh)
    ∙ sym (append_assoc inside.few.items others (key.items ∷ []))
    ∙ ap (λ (l : List (List ℕ)). l ++ key.items ∷ []) view
    ∙ ap (λ (n : List ℕ). c.args.self.now ++ n ∷ []) is
