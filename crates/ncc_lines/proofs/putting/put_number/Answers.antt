use Rattle.std.proofs.Common.{rules, ◌≡◌, ◌∷◌, [], decimal}
use Rattle.ncc_schema.proofs.Writing.{writes_both}
use Rattle.ncc_lines.proofs.putting.put_number.Goals as goal

pub returns-clause-bytes : goal.returns-clause-bytes
returns-clause-bytes g c =
    let digits : c.as_bytes.result.now ≡ decimal c.args.number = search rules in
    writes_both _ _ _ (decimal c.args.number) (10 ∷ []) _ (rw digits at c.in_ok-write_all.ensures.bytes) c.write_all-2.ensures.bytes
