use Rattle.std.proofs.Common.{◌+◌, ◌-◌, ◌<◌, ◌≤◌, ℕ, ltb, refl, ap, ◌∙◌, length, arith}
use Rattle.ncc_write.proofs.NextVarSlabs.{next_number, same_round, first_number, next_round}
use Rattle.ncc_write.proofs.slab_order.SlabOrder.var_slab_after.Goals as goal

pub returns-then-number-len-clause-number : goal.returns-then-number-len-clause-number
returns-then-number-len-clause-number c =
    let x = c.args.self.now in
    let k = c.args.slab in
    let n = length x.var_slabs.items - x.fixed in
    let some : x.fixed ≤ k + 1 → 0 < n = λ le. let more = x.more (omega (arith, le, c.requires.next)) in omega (arith, more) in
    ap (λ (m : ℕ). m + 1) c.requires.number
    ∙ next_number x.fixed n k some (ltb k x.fixed) (ltb (k + 1) x.fixed) refl refl (omega (arith, c.if-number-len.true, c.len.ensures, x.fixed_are, c.requires.number))

pub returns-then-number-len-clause-record : goal.returns-then-number-len-clause-record
returns-then-number-len-clause-record c =
    let x = c.args.self.now in
    let k = c.args.slab in
    let n = length x.var_slabs.items - x.fixed in
    let some : x.fixed ≤ k + 1 → 0 < n = λ le. let more = x.more (omega (arith, le, c.requires.next)) in omega (arith, more) in
    c.requires.record
    ∙ same_round x.fixed n k some (ltb k x.fixed) (ltb (k + 1) x.fixed) refl refl (omega (arith, c.if-number-len.true, c.len.ensures, x.fixed_are, c.requires.number))

pub returns-clause-number : goal.returns-clause-number
returns-clause-number c =
    let x = c.args.self.now in
    let k = c.args.slab in
    let n = length x.var_slabs.items - x.fixed in
    let some : x.fixed ≤ k + 1 → 0 < n = λ le. let more = x.more (omega (arith, le, c.requires.next)) in omega (arith, more) in
    first_number x.fixed n k some (ltb k x.fixed) (ltb (k + 1) x.fixed) refl refl (omega (arith, c.if-number-len.false, c.len.ensures, x.fixed_are, c.requires.number))

pub returns-clause-record : goal.returns-clause-record
returns-clause-record c =
    let x = c.args.self.now in
    let k = c.args.slab in
    let n = length x.var_slabs.items - x.fixed in
    let some : x.fixed ≤ k + 1 → 0 < n = λ le. let more = x.more (omega (arith, le, c.requires.next)) in omega (arith, more) in
    ap (λ (m : ℕ). m + 1) c.requires.record
    ∙ next_round x.fixed n k some (ltb k x.fixed) (ltb (k + 1) x.fixed) refl refl (omega (arith, c.if-number-len.false, c.len.ensures, x.fixed_are, c.requires.number))
