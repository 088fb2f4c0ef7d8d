use Rattle.std.proofs.Common.{◌∙◌, rules}
use Rattle.std.specs.Int.{w64}
use Rattle.std.specs.Prelude.{FitsSigned}
use Rattle.std.proofs.lemmas.Int.{to_z-of_z}
use Rattle.ncc_values.proofs.Reading.{signed_of-read}
use Rattle.ncc_values.proofs.signed.I64External.get.Goals as goal

pub returns : goal.returns
returns c =
    let fits : FitsSigned w64 c.read_i64.result = search rules in
    to_z-of_z w64 c.read_i64.result fits ∙ (c.read_i64.ensures ∙ signed_of-read c.args.bytes.now (λ i. (c.type_inv.bytes i).fits) c.requires)
