use Rattle.std.proofs.Common.{arith, rules}
use Rattle.ncc_write.proofs.FillValues.{fill_is}
use Rattle.ncc_write.proofs.var_slab.put_fill_by.Goals as goal

pub returns-then-len-eq1 : goal.returns-then-len-eq1
returns-then-len-eq1 c =
    rw c.in-Some.is (fill_is c.args.xtype c.in-Some.attr.now c.args.out.now c.put_from.new.out c.requires (search rules) (omega (arith, c.len.ensures, c.if-len-eq1.true)) c.put_from.ensures)
