use Rattle.std.proofs.Common.{rules, ◌≡◌, ◌<◌, ◌≤◌, ◌-◌, List, length, get_or, Some, leb, leb-true, leb-false, sym, ap, ◌∙◌, subst, arith}
use Rattle.std.proofs.lemmas.List.Sorted.{IsPartitionPoint-from_clause, IsPartitionedBy-leb}
use Rattle.std.proofs.lemmas.Option.{slice_get-get_or, slice_get_past}
use Rattle.std.specs.List.{slice_get}
use Rattle.std.specs.List.Sorted.{IsNonDecreasingBy}
use Rattle.ncc_header.specs.declared.part.Part.{Part}
use Rattle.ncc_parts.specs.declared.part.Piece.{Piece}
use Rattle.ncc_parts.specs.Parts.{part_at}
use Rattle.ncc_parts.proofs.Locating.{ends-rise, located, part_in}
use Rattle.ncc_parts.proofs.part.part_of.Goals as goal

pub returns-in-Some : goal.returns-in-Some
returns-in-Some c = λ parts is.
    let xs = c.args.pieces.now in
    let o = c.args.offset in
    let k = c.partition_point-number.result in
    let p = c.in-Some.piece.now in
    let l = c.in-Some.ensures.lookup in
    let parted = IsPartitionedBy-leb (λ (x : Piece). x.end) xs o (subst (λ ys. IsNonDecreasingBy (λ (x : Piece). x.end) ys) (sym is) (ends-rise 0 parts)) in
    let point = IsPartitionPoint-from_clause (λ (x : Piece). leb x.end o) xs k c.partition_point-number.ensures.partitioned parted (λ a r q k. search rules) in
    let at = located 0 parts o k p (omega arith)
    (λ i lt there. subst (λ (ys : List Piece). (get_or ys i p).end ≤ o) is (leb-true _ _ (point.0 i p (omega arith) lt)))
    (λ there. subst (λ (ys : List Piece). o < (get_or ys k p).end) is (leb-false _ _ (point.1 k p (omega arith) l.3.0))) in
    let zero : o ≡ o - 0 = omega arith in
    sym (
    ap (λ n. part_at n parts) zero
    ∙ at
    ∙ ap (λ (ys : List Piece). part_in (slice_get ys k)) (sym is)
    ∙ ap part_in (slice_get-get_or xs k p l.3.0)
    ∙ ap (λ (x : Piece). Some x.part) (sym l.1))

pub returns-in-None : goal.returns-in-None
returns-in-None c = λ parts is.
    let xs = c.args.pieces.now in
    let o = c.args.offset in
    let k = c.partition_point-number.result in
    let l = c.in-None.ensures.lookup in
    let d : Piece = record { part = Part.Magic; end = 0 } in
    let parted = IsPartitionedBy-leb (λ (x : Piece). x.end) xs o (subst (λ ys. IsNonDecreasingBy (λ (x : Piece). x.end) ys) (sym is) (ends-rise 0 parts)) in
    let point = IsPartitionPoint-from_clause (λ (x : Piece). leb x.end o) xs k c.partition_point-number.ensures.partitioned parted (λ a r q k. search rules) in
    let at = located 0 parts o k d (omega arith)
    (λ i lt there. subst (λ (ys : List Piece). (get_or ys i d).end ≤ o) is (leb-true _ _ (point.0 i d (omega arith) lt)))
    (λ there. absurd (omega (arith, there, l.3, ap length is))) in
    let zero : o ≡ o - 0 = omega arith in
    sym (
    ap (λ n. part_at n parts) zero
    ∙ at
    ∙ ap (λ (ys : List Piece). part_in (slice_get ys k)) (sym is)
    ∙ ap part_in (slice_get_past xs k l.3))
