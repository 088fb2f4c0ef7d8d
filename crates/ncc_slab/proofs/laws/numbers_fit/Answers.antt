use Rattle.std.proofs.Common.{◌^◌, arith}
use Rattle.ncc_slab.proofs.PartPlaces.{items_below}
use Rattle.ncc_slab.proofs.laws.numbers_fit.Goals as goal

pub returns : goal.returns
returns c = items_below (2 ^ 64) c.args.numbers.now (λ i. omega (arith, c.type_inv.numbers i))
