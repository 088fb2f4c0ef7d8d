use Rattle.std.proofs.Common.{◌≡◌, ◌∷◌, ◌++◌, ◌∙◌, [], ℕ, List, drop, ap, arith}
use Rattle.std.proofs.lemmas.List.{drop-set, drop_all}
use Rattle.ncc_csv.proofs.row.write_value.Goals as goal

pub returns-clause-written : goal.returns-clause-written
returns-clause-written g c =
    let room = c.args.room.now in
    let none : drop 46 room ≡ [] = drop_all 46 room (omega (arith, c.requires)) in
    c.write.ensures.written
    ∙ ap (λ (t : List ℕ). g.T.Cell.text c.args.style c.args.value ++ t) (drop-set room 45 10 (omega (arith, c.requires)) ∙ ap (λ (t : List ℕ). 10 ∷ t) none)
