use Rattle.std.proofs.Common.{◌≡◌, ℕ, List, [], ◌∷◌, ◌++◌, false, get_or, map, take, sym, ap, ◌∙◌}
use Rattle.std.proofs.lemmas.List.{get_or_default, take_more}
use Rattle.ncc_build.specs.Building.{is_duplicate_name}
use Rattle.ncc_build.proofs.Tables.{added_is}
use Rattle.ncc_build.proofs.names.table_of.Goals as goal

pub loop-name-preserved : goal.loop-name-preserved
loop-name-preserved c =
    let names = c.args.names.now in
    let i = c.loop-name.name-index in
    let key = c.in_ok-from_slice.field-0 in
    let keys = c.loop-name.table.keys in
    let name : List ℕ = get_or names i [] in
    let is : key.items ≡ name = c.in_ok-from_slice.ensures.items ∙ c.as_slice.ensures ∙ c.name-item.is ∙ get_or_default names i c.name-item.result [] c.loop-name-test.true in
    let fresh : is_duplicate_name key.items (map (λ k. k.items) keys) ≡ false =
    ap (λ (n : List ℕ). is_duplicate_name n (map (λ k. k.items) keys)) is ∙ ap (is_duplicate_name name) c.loop-name.invariant ∙ c.requires i c.loop-name-test.true in
    added_is (λ k. k.items) key keys c.insert.new.self.keys c.in_ok-insert.ensures.keys fresh
    ∙ ap (λ (l : List (List ℕ)). l ++ key.items ∷ []) c.loop-name.invariant
    ∙ ap (λ (n : List ℕ). take i names ++ n ∷ []) is
    ∙ sym (take_more names i [] c.loop-name-test.true)
