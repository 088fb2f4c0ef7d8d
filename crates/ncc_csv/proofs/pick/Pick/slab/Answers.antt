use Rattle.std.proofs.Common.{length, sym, ◌∙◌}
use Rattle.ncc_csv.proofs.Picking.{positive}
use Rattle.ncc_csv.proofs.pick.Pick.slab.Goals as goal

pub fitting_all-requires-clause-positive : goal.fitting_all-requires-clause-positive
fitting_all-requires-clause-positive c =
    positive (length c.args.lengths.now) c.args.self c.as_slice-in-None.result.now (sym c.fault.ensures ∙ c.in_default.is) (c.as_slice-in-None.ensures ∙ c.in_ok-stride.ensures)
