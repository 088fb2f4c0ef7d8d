use Rattle.std.proofs.Common.{◌/◌, arith, rules}
use Rattle.std.proofs.lemmas.Fmt.{decimal_digit, decimal_step}
use Rattle.ncc_lines.proofs.texts.push_decimal.Goals as goal

pub returns-then-n-lt10 : goal.returns-then-n-lt10
returns-then-n-lt10 c = rw (decimal_digit c.args.n (omega arith)) c.in_ok-push.ensures.items

pub returns-then-n-lt100 : goal.returns-then-n-lt100
returns-then-n-lt100 c =
    rw (decimal_step c.args.n (omega arith) (omega arith), decimal_digit (c.args.n / 10) (omega arith)) (search rules)
