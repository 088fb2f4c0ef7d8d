use Rattle.std.proofs.Common.{◌≡◌, ◌++◌, decimal, rules}
use Rattle.std.specs.Prelude.{codes}
use Rattle.ncc_schema.proofs.Writing.{writes_both, fails_at}
use Rattle.ncc_lines.proofs.putting.put_found.Goals as goal

pub returns-in_err-write_all-clause-bytes : goal.returns-in_err-write_all-clause-bytes
returns-in_err-write_all-clause-bytes g c =
    let word : c.as_bytes.result.now ≡ c.args.word.now = search rules in
    fails_at _ _ _ c.args.word.now (codes " at " ++ (decimal c.args.offset ++ codes "\n")) _ c.in_err-write_all.field-0.0 c.from_residual.ensures.1
    (rw word at c.in_err-write_all.ensures.bytes)

pub returns-clause-bytes : goal.returns-clause-bytes
returns-clause-bytes g c =
    let word : c.as_bytes.result.now ≡ c.args.word.now = search rules in
    writes_both _ _ _ c.args.word.now (codes " at " ++ (decimal c.args.offset ++ codes "\n")) _ (rw word at c.in_ok-write_all.ensures.bytes) c.put_numbered.ensures.bytes
