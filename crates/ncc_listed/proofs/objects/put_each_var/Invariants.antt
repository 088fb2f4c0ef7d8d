use Rattle.std.proofs.Common.{◌≡◌, ◌++◌, drop}
use Rattle.ncc_listed.specs.Members.{var_objects}
use Rattle.ncc_listed.proofs.objects.put_each_var.Given as goal

abbrev pub invariant-loop-number : goal.invariant-loop-number
invariant-loop-number l =
    (l.out.tokens ++ var_objects l.style l.places l.number (drop l.number l.vars) ≡ l.fn.out.tokens ++ var_objects l.style l.places 0 l.vars)
    × (l.out.before ≡ l.fn.out.before)
