use Rattle.std.proofs.Common.{◌≡◌, ℕ, length, take, sym, ap, ◌∙◌, arith}
use Rattle.std.proofs.lemmas.List.{take_all}
use Rattle.ncc_c.proofs.Ranging.{put_steps_of}
use Rattle.ncc_c.proofs.stepping.put.Goals as goal

pub returns : goal.returns
returns c =
    let steps = c.as_slice-steps.result.now in
    let k : c.loop-k.k ≡ length steps = omega (arith, c.loop-k-test.false, c.loop-k.auto.k-end) in
    let all = ap (λ (n : ℕ). take n c.loop-k.out) (sym k) ∙ c.loop-k.invariant.put ∙ take_all c.loop-k.k steps (omega (arith, k)) in
    put_steps_of c.args.var.now c.args.answer.now c.in-Ok.found c.loop-k.out steps c.outcome_of-2.result c.size.result c.in-Ok.is c.as_slice-steps.ensures.value c.outcome_of-2.ensures c.size.ensures all
