use Rattle.std.proofs.Common.{rules, ◌≡◌, length, take, drop}
use Rattle.ncc_store.proofs.logging.write_logged.Goals as goal

pub returns-clause-logged : goal.returns-clause-logged
returns-clause-logged c =
    let is_piece : c.in_ok-copy.copy.items ≡ c.args.piece.now = search rules in
    let is_gone : c.in_ok-gone.gone.items ≡ take (length c.args.piece.now) (drop c.args.place c.args.bytes.now.items) = search rules in
    record {
      copy = c.in_ok-copy.copy;
      kept = c.in_ok-gone.gone;
      is_piece = is_piece;
      is_gone = is_gone;
      calls = c.in_ok-log_write.ensures.calls;
      replaced = c.in_ok-log_write.ensures.replaced;
    }
