use Rattle.std.proofs.Common.{sym, subst}
use Rattle.std.specs.Float.Ieee.{binary64}
use Rattle.std.specs.Str.{IsUtf8}
use Rattle.json.specs.Print.{IsNumber}
use Rattle.ncc_listed.proofs.DecimalNumbers.{decimal_is_number, text_is_utf8}
use Rattle.ncc_listed.proofs.floats.put_double.Goals as goal

pub put_decimal-requires-clause-utf8 : goal.put_decimal-requires-clause-utf8
put_decimal-requires-clause-utf8 c = subst IsUtf8 (sym c.text64.ensures.text) (text_is_utf8 binary64 c.args.bits)

pub put_decimal-requires-clause-number : goal.put_decimal-requires-clause-number
put_decimal-requires-clause-number c = λ finite. subst IsNumber (sym c.text64.ensures.text) (decimal_is_number binary64 c.args.bits finite)
