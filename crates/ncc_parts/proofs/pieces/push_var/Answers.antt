use Rattle.std.proofs.Common.{◌≡◌, ◌+◌, ◌-◌, ◌++◌, ◌∷◌, [], length, sym, ap, ◌∙◌, arith}
use Rattle.ncc_schema.specs.Names.{attrs_in, canon_unplaced, list_size, no_place}
use Rattle.ncc_schema.proofs.Sizes.{length-canon_var}
use Rattle.ncc_header.specs.declared.part.Part.TheVariants as parts
use Rattle.ncc_parts.specs.declared.part.Piece.{Piece}
use Rattle.ncc_parts.specs.Parts.{attrs_from, ends_from}
use Rattle.ncc_parts.proofs.Spelling.{added, var_ends}
use Rattle.ncc_parts.proofs.pieces.push_var.Goals as goal

pub returns-clause-pieces : goal.returns-clause-pieces
returns-clause-pieces c =
    let v = c.args.version in
    let x = c.args.var.now in
    let n = c.args.number in
    let old = c.args.pieces.now.items in
    let size = length-canon_var v x no_place in
    let inside : c.attrs_in.result ≡ attrs_in v x = omega (arith, c.attrs_in.ensures, size, c.requires) in
    let whole : c.var_size.result ≡ length (canon_unplaced v x) = omega (arith, c.var_size.ensures, c.requires) in
    let first = c.args.start + c.attrs_in.result in
    let end = c.args.start + c.var_size.result in
    let ends = var_ends v n x c.args.start first end (ap (λ k. c.args.start + k) inside) (ap (λ k. c.args.start + k) whole) in
    let head : Piece = record { part = parts.Var n; end = first - list_size v } in
    let list : Piece = record { part = parts.AttrList n; end = first } in
    let place : Piece = record { part = parts.Place n; end = end } in
    let attrs = ends_from first (attrs_from v n 0 x.attrs) in
    let one : c.push.new.self.items ≡ old ++ head ∷ [] = c.in_ok-push.ensures.items ∙ ap (λ k. old ++ record { part = parts.Var n; end = first - k } ∷ []) c.list_size.ensures in
    let two : c.push-2.new.self.items ≡ (old ++ head ∷ []) ++ list ∷ [] = c.in_ok-push-2.ensures.items ∙ ap (λ xs. xs ++ list ∷ []) one in
    let three : c.push_attrs.new.pieces.items ≡ ((old ++ head ∷ []) ++ list ∷ []) ++ attrs =
    c.in_ok-push_attrs.ensures.pieces ∙ ap (λ xs. xs ++ ends_from first (attrs_from v n 0 c.as_slice.result.now)) two ∙ ap (λ ys. ((old ++ head ∷ []) ++ list ∷ []) ++ ends_from first (attrs_from v n 0 ys)) c.as_slice.ensures in
    c.in_ok-push-3.ensures.items ∙ ap (λ xs. xs ++ place ∷ []) three ∙ added old attrs head list place ∙ ap (λ xs. old ++ xs) (sym ends)
