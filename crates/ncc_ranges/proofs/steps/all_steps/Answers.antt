use Rattle.std.proofs.Common.{◌<◌, ◌-◌, ℕ, List, get_or, length, drop, take, sym, ap, subst, arith}
use Rattle.ncc_slab.specs.Axes.{ArePositive}
use Rattle.ncc_slab.proofs.Factors.{split}
use Rattle.ncc_ranges.proofs.Stepping.{index_below, lengths_positive, not_empty, rank_of, all_but_first}
use Rattle.ncc_ranges.proofs.steps.all_steps.Goals as goal

pub inner_steps-requires-clause-lengths : goal.inner_steps-requires-clause-lengths
inner_steps-requires-clause-lengths c =
    let s = c.args.slab.now in
    let rank = rank_of c.args.var.now.shape s c.requires.fits in
    subst ArePositive (sym c.as_slice-lengths.ensures) (lengths_positive c.args.var.now.shape s.start s.count s.stride rank c.requires.fits.each c.requires.some)

pub further-requires-clause-index : goal.further-requires-clause-index
further-requires-clause-index c =
    let s = c.args.slab.now in
    let ls = c.args.var.now.shape in
    let rank = rank_of ls s c.requires.fits in
    let some : 0 < length ls = not_empty ls c.as_slice-lengths.result.now c.as_slice-lengths.ensures c.if-is_empty.ensures in
    let first = (split s.count 0 (omega (arith, some, rank.counts)) c.requires.some).0 in
    let below = index_below 1 ls s.start s.count s.stride rank 0 some c.requires.fits.each first in
    let same = ap (λ (l : List ℕ). get_or l 0 0) c.as_slice-lengths.ensures in
    rw (c.as_slice-start.ensures, c.as_slice-count.ensures, c.as_slice-stride.ensures) (omega (arith, below, same, c.type_inv.lengths 0))

pub inner_steps-requires-2-clause-lengths : goal.inner_steps-requires-2-clause-lengths
inner_steps-requires-2-clause-lengths c =
    let s = c.args.slab.now in
    let ls = c.args.var.now.shape in
    let rank = rank_of ls s c.requires.fits in
    let all = lengths_positive ls s.start s.count s.stride rank c.requires.fits.each c.requires.some in
    subst (λ (l : List ℕ). ArePositive (take (length l - 1) (drop 1 l))) (sym c.as_slice-lengths.ensures) (all_but_first ls all)
