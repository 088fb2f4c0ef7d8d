use Rattle.std.proofs.Common.{arith}
use Rattle.std.specs.Float.Ieee.{binary64}
use Rattle.ncc_decimal.specs.Printed.{float_text}
use Rattle.ncc_decimal.proofs.Overlaid.{written_length}
use Rattle.ncc_decimal.proofs.float.write64.Goals as goal

pub returns-clause-start : goal.returns-clause-start
returns-clause-start c =
    written_length c.write_by.new.room c.args.room.now (float_text binary64 c.args.bits) c.write_by.result c.args.end c.write_by.auto.room c.requires.1 c.write_by.ensures.room.0
    c.write_by.ensures.text

pub returns-clause-few : goal.returns-clause-few
returns-clause-few c = omega (arith, returns-clause-start c, c.write_by.ensures.room.1)
