use Rattle.std.proofs.Common.{◌≡◌, get_or, sym, ◌∙◌, arith}
use Rattle.ncc_schema.specs.Header.{canon_dim}
use Rattle.ncc_check.specs.Noting.{offsets_from}
use Rattle.ncc_check.proofs.Lists.{offset_at, step_on}
use Rattle.ncc_check.proofs.Listing.{one_length}
use Rattle.ncc_check.proofs.notes.counting.note_large_lengths.Goals as goal

pub loop-dim-preserved : goal.loop-dim-preserved
loop-dim-preserved c =
    let item = canon_dim c.args.version in
    let start = c.args.start in
    let dims = c.args.dims.now in
    let i = c.loop-dim.dim-index in
    let inv = c.loop-dim.invariant in
    let stands : get_or (offsets_from item start dims) i 0 ≡ c.loop-dim.at = offset_at item start dims i (omega (arith, c.ranges.start.fits)) c.loop-dim-test.true ∙ sym inv.stands in
    record {
      stands = c.saturating_add-at.ensures ∙ step_on item start dims i c.dim-item.result c.loop-dim.at c.dim_size.result c.loop-dim-test.true c.dim-item.is c.dim_size.ensures inv.stands;
      found =
          one_length c.args.version dims (offsets_from item start dims) i c.loop-dim.at c.dim-item.result c.limit_of_counts-limit.result c.name_size.result
          c.args.notes.now.items c.loop-dim.notes.items c.note_if.new.notes.items c.loop-dim-test.true c.dim-item.is stands
          c.limit_of_counts-limit.ensures (rw c.as_slice.ensures at c.name_size.ensures) inv.found (rw c.saturating_add-length_at.ensures at c.in_ok-note_if.ensures.notes);
    }
