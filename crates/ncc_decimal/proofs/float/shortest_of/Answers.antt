use Rattle.std.proofs.Common.{◌<◌, ◌≤◌, ◌^◌, inl, inr, arith}
use Rattle.ncc_decimal.proofs.FewDigits.{few_of_single, few_of_double}
use Rattle.ncc_decimal.proofs.float.shortest_of.Goals as goal

pub returns-clause-few : goal.returns-clause-few
returns-clause-few c =
    let h = c.args.hidden in
    let some : (0 < h) × (h ≤ 2 ^ 52) = elim c.requires.format [ inl f ↦ (omega (arith, f.0), omega (arith, f.0)) | inr f ↦ (omega (arith, f.0), omega (arith, f.0)) ] in
    let is = rw (c.significand_of.ensures, c.nearness_of.ensures.value) at c.shortest.ensures.shortest in
    (few_of_double h c.args.magnitude _ _ _ some.0 some.1 c.requires.finite.0 is, c.shortest.ensures.coarse)

pub returns-clause-single : goal.returns-clause-single
returns-clause-single c single =
    let is = rw (c.significand_of.ensures, c.nearness_of.ensures.value) at c.shortest.ensures.shortest in
    few_of_single c.args.hidden c.args.magnitude _ _ _ single c.requires.finite.0 is
