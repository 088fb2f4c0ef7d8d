use Rattle.std.proofs.Common.{subst, sym}
use Rattle.ncc_schema.specs.Device.{WritesAll}
use Rattle.ncc_slab.specs.declared.fault.SlabFault.{SlabFault}
use Rattle.ncc_csv.specs.Refusals.{refused_line}
use Rattle.ncc_csv.proofs.refusals.put_refusal.Goals as goal

pub returns-in-RankMismatch-clause-bytes : goal.returns-in-RankMismatch-clause-bytes
returns-in-RankMismatch-clause-bytes g c =
    subst (λ (f : SlabFault). WritesAll (g.W.Sink.put c.args.sink.now) (g.W.Sink.put c.write_all-in-RankMismatch.new.sink) c.write_all-in-RankMismatch.result (refused_line f))
    (sym c.in-RankMismatch.is) c.write_all-in-RankMismatch.ensures.bytes
