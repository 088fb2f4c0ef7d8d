use Rattle.std.proofs.Common.{sym, subst}
use Rattle.std.specs.Float.Ieee.{binary32}
use Rattle.std.specs.Str.{IsUtf8}
use Rattle.json.specs.Print.{IsNumber}
use Rattle.ncc_listed.proofs.DecimalNumbers.{decimal_is_number, text_is_utf8}
use Rattle.ncc_listed.proofs.floats.put_float.Goals as goal

pub put_decimal-requires-clause-utf8 : goal.put_decimal-requires-clause-utf8
put_decimal-requires-clause-utf8 c = subst IsUtf8 (sym c.text32.ensures.text) (text_is_utf8 binary32 c.args.bits)

pub put_decimal-requires-clause-number : goal.put_decimal-requires-clause-number
put_decimal-requires-clause-number c = λ finite. subst IsNumber (sym c.text32.ensures.text) (decimal_is_number binary32 c.args.bits finite)
