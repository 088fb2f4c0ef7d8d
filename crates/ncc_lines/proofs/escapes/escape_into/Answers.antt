use Rattle.std.proofs.Common.{[], get_or, arith, ◌∙◌}
use Rattle.ncc_lines.proofs.NameTable.{entry_at, entry_laid}
use Rattle.ncc_lines.specs.declared.escapes.TheConstants.{ESCAPES, LENGTHS}
use Rattle.ncc_lines.proofs.escapes.escape_into.Goals as goal

pub loop-b-preserved : goal.loop-b-preserved
loop-b-preserved c =
    let b = get_or c.args.bytes.now c.loop-b.b-index 0 in
    let byte = c.type_inv.bytes c.loop-b.b-index in
    let entry = entry_at b (omega arith) in
    record {
      len = c.put_four.ensures.len ∙ c.loop-b.invariant.len;
      within = omega (arith, entry.1.0);
      laid = entry_laid c.loop-b.room _ (get_or ESCAPES b []) c.args.bytes.now _ c.loop-b.end (get_or LENGTHS b 0) c.loop-b.b-index c.loop-b.invariant.laid c.loop-b-test.true (omega arith)
          c.put_four.ensures.put entry.0 entry.1.0 entry.1.1;
    }
