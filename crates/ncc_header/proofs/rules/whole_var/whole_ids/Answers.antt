use Rattle.std.proofs.Common.{◌≡◌, ◌-◌, ◌+◌, ◌++◌, ◌∷◌, ℕ, List, [], length, inl, inr, refl, subst, ap, ◌∙◌, arith}
use Rattle.std.proofs.lemmas.List.{length-append}
use Rattle.ncc_header.specs.Fields.{dimid, dimid_wrong}
use Rattle.ncc_header.specs.Grammar.{repeat}
use Rattle.ncc_header.specs.AtFront.{AtFront}
use Rattle.std.specs.Prelude.{None}
use Rattle.ncc_header.proofs.WholeItems.{nothing_at_front, dimid_at_front, dimids_at_front, first_id, if_err}
use Rattle.ncc_header.proofs.rules.whole_var.whole_ids.Goals as goal

pub loop-i-init : goal.loop-i-init
loop-i-init c =
    let v = c.args.version in
    let dims = c.args.dims.now in
    let rank = c.in-Some.rank in
    let start = c.in-Some.start.now in
    let all : rank - 0 ≡ rank = omega arith in
    record {
      goes = λ final after p.
          subst (λ (k : ℕ). AtFront (repeat (dimid v dims) [] k) final start after) all
          (subst (λ (ids : List ℕ). AtFront (repeat (dimid v dims) ids (rank - 0)) final start after) c.new-ids.ensures.items p);
      first = inl (refl, c.new-ids.ensures.items, refl);
      less = omega arith;
    }

pub loop-i-preserved : goal.loop-i-preserved
loop-i-preserved c =
    let v = c.args.version in
    let dims = c.args.dims.now in
    let rank = c.in-Some.rank in
    let ids = c.loop-i.ids.items in
    let n = c.in-Some-any_count.n in
    let found = c.in-Some-any_count.ensures in
    let mid = c.in-Some-any_count.after.now in
    let more = c.in_ok-push_item.ensures.ok ∙ ap (λ (id : ℕ). ids ++ id ∷ []) c.in-Ok.ensures.value in
    let right = subst (λ (before : List ℕ). dimid_wrong dims before n ≡ None) c.deref.ensures.value c.in-Ok.ensures.judged in
    record {
      goes = λ final after p.
          c.loop-i.invariant.goes final after
          (dimid_at_front v dims ids final n rank c.loop-i.i c.loop-i.rest.now found.0 mid after c.loop-i-test.true found.1 found.2 right
          (subst (λ (xs : List ℕ). AtFront (repeat (dimid v dims) xs (rank - (c.loop-i.i + 1))) final mid after) more p));
      first = inr (first_id v dims ids c.in-Some.start.now c.loop-i.rest.now found.0 mid n c.loop-i.i c.loop-i.invariant.first found.1 found.2 right);
      less = omega (arith, c.loop-i.invariant.less, ap length found.1.0, length-append found.0 mid);
    }

pub returns-clause-at_front : goal.returns-clause-at_front
returns-clause-at_front c =
    let v = c.args.version in
    let dims = c.args.dims.now in
    let rank = c.in-Some.rank in
    let rest = c.loop-i.rest.now in
    let none : 0 ≡ rank - c.loop-i.i = omega arith in
    dimids_at_front v dims c.loop-i.ids.items rank c.args.piece.now c.in-Some.start.now rest c.in-Some.ensures.at_front
    (c.loop-i.invariant.goes c.loop-i.ids.items rest
    (subst (λ (k : ℕ). AtFront (repeat (dimid v dims) c.loop-i.ids.items k) c.loop-i.ids.items rest rest) none (nothing_at_front c.loop-i.ids.items rest)))

pub returns-clause-less : goal.returns-clause-less
returns-clause-less c = omega (arith, c.in-Some.ensures.less, c.loop-i.invariant.less)

pub returns-in_err-push_item-clause-needs : goal.returns-in_err-push_item-clause-needs
returns-in_err-push_item-clause-needs c =
    let v = c.args.version in
    let dims = c.args.dims.now in
    let rank = c.in-Some.rank in
    let n = c.in-Some-any_count.n in
    let found = c.in-Some-any_count.ensures in
    let right = subst (λ (before : List ℕ). dimid_wrong dims before n ≡ None) c.deref.ensures.value c.in-Ok.ensures.judged in
    let first = first_id v dims c.loop-i.ids.items c.in-Some.start.now c.loop-i.rest.now found.0 c.in-Some-any_count.after.now n c.loop-i.i c.loop-i.invariant.first found.1 found.2 right in
    if_err c.from_residual.result _ (rank, first.0, c.in-Some.start.now, first.1, omega (arith, c.loop-i-test.true), c.in-Some.ensures.at_front, first.2)
