use Rattle.std.proofs.Common.{ℕ, List, subst, sym, arith}
use Rattle.ncc_check.specs.FromStore.{SettledBy}
use Rattle.ncc_check.proofs.examining.header_and_length.Goals as goal

pub returns-in-Err-clause-settled : goal.returns-in-Err-clause-settled
returns-in-Err-clause-settled g c = λ told.
    let len = c.in_ok-file_length.ensures in
    let few = c.header_of.ensures.settled told in
    let same = λ (n : ℕ). λ (settled : SettledBy (g.S.Store.bytes c.args.store.now) c.args.limit n). subst (λ (bytes : List ℕ). SettledBy bytes c.args.limit n) (sym len.unmoved.same) settled in
    record {
      calls = λ n settled. omega (arith, len.calls, few.calls n (same n settled));
      reach = λ n settled. omega (arith, len.reach, few.reach n (same n settled));
    }

pub returns-in-Ok-clause-settled : goal.returns-in-Ok-clause-settled
returns-in-Ok-clause-settled g c = λ told.
    let len = c.in_ok-file_length.ensures in
    let few = c.header_of.ensures.settled told in
    let same = λ (n : ℕ). λ (settled : SettledBy (g.S.Store.bytes c.args.store.now) c.args.limit n). subst (λ (bytes : List ℕ). SettledBy bytes c.args.limit n) (sym len.unmoved.same) settled in
    record {
      calls = λ n settled. omega (arith, len.calls, few.calls n (same n settled));
      reach = λ n settled. omega (arith, len.reach, few.reach n (same n settled));
    }
