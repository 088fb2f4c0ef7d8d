use Rattle.std.proofs.Common.{◌∙◌}
use Rattle.ncc_slab.proofs.Searches.{stride_found, outside_found, none_found}
use Rattle.ncc_slab.proofs.refusing.shape_fault.Goals as goal

pub returns-in-Some : goal.returns-in-Some
returns-in-Some c =
    stride_found c.args.lengths.now c.as_slice-start.result.now c.as_slice-count.result.now c.as_slice-stride.result.now c.args.slab.now
    c.as_slice-start.ensures c.as_slice-count.ensures c.as_slice-stride.ensures c.if-start-rank.false c.if-count-rank.false c.if-stride-rank.false c.in-Some.k c.in-Some.ensures

pub returns-in_err-k-in-None : goal.returns-in_err-k-in-None
returns-in_err-k-in-None c =
    c.from_residual.ensures
    ∙ none_found c.args.lengths.now c.as_slice-start.result.now c.as_slice-count.result.now c.as_slice-stride.result.now c.args.slab.now
    c.as_slice-start.ensures c.as_slice-count.ensures c.as_slice-stride.ensures c.if-start-rank.false c.if-count-rank.false c.if-stride-rank.false c.in-None.ensures c.in_err-k-in-None.ensures

pub returns-in_ok-k-in-None : goal.returns-in_ok-k-in-None
returns-in_ok-k-in-None c =
    outside_found c.args.lengths.now c.as_slice-start.result.now c.as_slice-count.result.now c.as_slice-stride.result.now c.args.slab.now
    c.as_slice-start.ensures c.as_slice-count.ensures c.as_slice-stride.ensures c.if-start-rank.false c.if-count-rank.false c.if-stride-rank.false c.in_ok-k-in-None.k c.in-None.ensures c.in_ok-k-in-None.ensures
