use Rattle.std.proofs.Common.{sym, refl}
use Rattle.ncc_values.proofs.NameLemmas.{plain_next, plain_is_ascii, plain_fits}
use Rattle.ncc_values.proofs.name.is_plain.Goals as goal

pub loop-byte-preserved : goal.loop-byte-preserved
loop-byte-preserved c =
    plain_next _ _ _ _ _ c.loop-byte-test.true c.loop-byte.invariant refl (sym c.if-not-can_follow_byte.ensures)

pub returns-then-can_begin_byte-clause-ascii : goal.returns-then-can_begin_byte-clause-ascii
returns-then-can_begin_byte-clause-ascii c = λ ends.
    plain_is_ascii _ _ _ _ _ c.in-Some.ensures.cases.0 c.loop-byte-test.false c.loop-byte.invariant (sym c.if-can_begin_byte.ensures)

pub returns-then-can_begin_byte-clause-characters : goal.returns-then-can_begin_byte-clause-characters
returns-then-can_begin_byte-clause-characters c = λ ends.
    plain_fits _ _ _ _ _ c.in-Some.ensures.cases.0 c.loop-byte-test.false c.loop-byte.auto.byte-index-end c.loop-byte.invariant (sym c.if-can_begin_byte.ensures) ends
