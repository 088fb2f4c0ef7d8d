use Rattle.std.proofs.Common.{◌≡◌, ◌++◌, drop, map}
use Rattle.ncc_listed.specs.Values.{unsigned_token}
use Rattle.ncc_listed.proofs.objects.put_each_number.Given as goal

abbrev pub invariant-loop-number : goal.invariant-loop-number
invariant-loop-number l =
    (l.out.tokens ++ map unsigned_token (drop l.number-index l.numbers) ≡ l.fn.out.tokens ++ map unsigned_token l.numbers) × (l.out.before ≡ l.fn.out.before)
