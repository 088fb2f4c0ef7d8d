use Rattle.std.proofs.Common.{◌≡◌, take, sym, ap, ◌∙◌, arith}
use Rattle.std.proofs.lemmas.List.{take_all}
use Rattle.ncc_csv.specs.Texts.{without_end_nuls}
use Rattle.ncc_csv.proofs.EndNuls.{one_nul_less, no_nul_at_end}
use Rattle.ncc_csv.proofs.text_row.without_end_nuls.Goals.{then-loop-end-test+else-text-end-eq0, else-loop-end-test}
use Rattle.ncc_csv.proofs.text_row.without_end_nuls.Goals as goal

pub loop-end-init : goal.loop-end-init
loop-end-init c = record {
  within = omega arith;
  same = ap without_end_nuls (take_all _ c.args.text.now (omega arith));
}

pub loop-end-preserved : goal.loop-end-preserved
loop-end-preserved c = record {
  within = omega arith;
  same = one_nul_less c.args.text.now c.loop-end.end c.loop-end-test.true c.loop-end.invariant.within c.if-text-end-eq0.true ∙ c.loop-end.invariant.same;
}

pub returns : goal.returns
returns c =
    c.split_at.ensures.front
    ∙ (elim c.loop-end-test.branch [
      | then-loop-end-test+else-text-end-eq0 w ↦ sym (no_nul_at_end c.args.text.now c.loop-end.end w.loop-end-test.true c.loop-end.invariant.within w.if-text-end-eq0.false)
      | else-loop-end-test w ↦
          let none : c.loop-end.end ≡ 0 = omega (arith, w.loop-end-test.false) in
          ap (λ n. take n c.args.text.now) none ∙ sym (ap (λ n. without_end_nuls (take n c.args.text.now)) none)
    ])
    ∙ c.loop-end.invariant.same
