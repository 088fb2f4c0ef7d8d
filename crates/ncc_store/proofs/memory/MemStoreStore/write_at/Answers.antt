use Rattle.std.proofs.Common.{rules, ◌≡◌}
use Rattle.ncc_store.proofs.Pieces.{front_none}
use Rattle.ncc_store.proofs.memory.MemStoreStore.write_at.Goals as goal

pub returns-then-is_err-clause-err : goal.returns-then-is_err-clause-err
returns-then-is_err-clause-err c =
    let same : c.put.new.bytes.items ≡ c.args.self.now.bytes.items = search rules in
    front_none _ _ _ _ same
