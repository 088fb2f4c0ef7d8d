use Rattle.std.proofs.Common.{◌≡◌, get_or, sym, ◌∙◌, arith}
use Rattle.ncc_schema.specs.Names.{canon_unplaced}
use Rattle.ncc_check.specs.Noting.{offsets_from}
use Rattle.ncc_check.proofs.Lists.{offset_at, step_on}
use Rattle.ncc_check.proofs.Listing.{one_list}
use Rattle.ncc_check.proofs.notes.naming.note_attrs_of_vars.Goals as goal

pub loop-var-preserved : goal.loop-var-preserved
loop-var-preserved c =
    let item = canon_unplaced c.args.version in
    let start = c.args.start in
    let vars = c.args.vars.now in
    let i = c.loop-var.var-index in
    let inv = c.loop-var.invariant in
    let stands : get_or (offsets_from item start vars) i 0 ≡ c.loop-var.at = offset_at item start vars i (omega (arith, c.ranges.start.fits)) c.loop-var-test.true ∙ sym inv.stands in
    record {
      stands = c.saturating_add-at.ensures ∙ step_on item start vars i c.var-item.result c.loop-var.at c.var_size.result c.loop-var-test.true c.var-item.is c.var_size.ensures inv.stands;
      found =
          one_list c.args.version vars (offsets_from item start vars) i c.loop-var.at c.var-item.result
          c.args.notes.now.items c.loop-var.notes.items c.note_var_attrs.new.notes.items c.loop-var-test.true c.var-item.is stands inv.found c.in_ok-note_var_attrs.ensures;
    }
