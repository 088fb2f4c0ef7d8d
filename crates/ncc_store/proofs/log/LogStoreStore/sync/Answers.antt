use Rattle.std.proofs.Common.{refl}
use Rattle.ncc_store.proofs.Replay.{sync_moments, sync_only, sync_within, sync_since}
use Rattle.ncc_store.proofs.log.LogStoreStore.sync.Goals as goal

pub returns-in-Ok-clause-durable : goal.returns-in-Ok-clause-durable
returns-in-Ok-clause-durable c = sync_only c.args.self.now.calls.items c.sync_logged.new.calls.items c.args.self.now.replaced.items c.args.self.now.bytes.items c.in-Ok.ensures.logged

pub returns-in-Ok-clause-unmoved : goal.returns-in-Ok-clause-unmoved
returns-in-Ok-clause-unmoved c =
    let old = c.args.self.now in
    let time = sync_moments old.calls.items c.sync_logged.new.calls.items old.replaced.items old.bytes.items c.in-Ok.ensures.logged in
    record {
      same = refl;
      within = sync_within old.calls.items c.sync_logged.new.calls.items old.replaced.items old.bytes.items c.in-Ok.ensures.logged;
      later = time.longer;
      nothing_else = sync_since old.calls.items c.sync_logged.new.calls.items old.replaced.items old.bytes.items c.in-Ok.ensures.logged;
      keeps = time.keeps;
    }
