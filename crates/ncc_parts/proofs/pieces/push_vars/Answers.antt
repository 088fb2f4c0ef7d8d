use Rattle.std.proofs.Common.{◌≡◌, ◌+◌, ◌++◌, ◌∷◌, suc, List, length, drop, sym, ap, ◌∙◌, append_assoc, arith}
use Rattle.std.specs.List.{flat_map}
use Rattle.std.proofs.lemmas.List.{drop_more, length-append}
use Rattle.ncc_schema.specs.declared.schema.Var.{Var}
use Rattle.ncc_schema.specs.Names.{canon_unplaced, no_place}
use Rattle.ncc_parts.specs.Parts.{ends_from, var_parts, vars_from}
use Rattle.ncc_parts.proofs.Spelling.{vars_step}
use Rattle.ncc_parts.proofs.pieces.push_vars.Goals as goal

pub loop-k-preserved : goal.loop-k-preserved
loop-k-preserved c =
    let v = c.args.version in
    let vars = c.args.vars.now in
    let k = c.loop-k.k in
    let at = c.loop-k.at in
    let x = c.index-vars-k.result in
    let lt = c.loop-k-test.true in
    let rest = drop (k + 1) vars in
    let split : drop k vars ≡ x ∷ rest = drop_more vars k x lt ∙ ap (λ y. y ∷ rest) (sym c.index-vars-k.is) in
    let sizes = ap (λ (xs : List Var). length (flat_map (canon_unplaced v) xs)) split ∙ length-append (canon_unplaced v x) (flat_map (canon_unplaced v) rest) in
    let next : c.in_ok-at.at ≡ at + length (canon_unplaced v x) = c.in_ok-at.ensures.end in
    let more : suc k ≡ k + 1 = omega arith in
    record {
      at = omega (arith, c.loop-k.invariant.at, sizes, next);
      pieces =
          ap (λ ps. ps ++ ends_from c.in_ok-at.at (vars_from v (k + 1) rest)) c.in_ok-at.ensures.pieces
          ∙ append_assoc c.loop-k.pieces.items (ends_from at (var_parts v k x no_place)) (ends_from c.in_ok-at.at (vars_from v (k + 1) rest))
          ∙ ap (λ n. c.loop-k.pieces.items ++ (ends_from at (var_parts v k x no_place) ++ ends_from n (vars_from v (k + 1) rest))) next
          ∙ ap (λ m. c.loop-k.pieces.items ++ (ends_from at (var_parts v k x no_place) ++ ends_from (at + length (canon_unplaced v x)) (vars_from v m rest))) (sym more)
          ∙ ap (λ es. c.loop-k.pieces.items ++ es) (sym (vars_step v at k x rest))
          ∙ ap (λ (xs : List Var). c.loop-k.pieces.items ++ ends_from at (vars_from v k xs)) (sym split)
          ∙ c.loop-k.invariant.pieces;
    }
