use Rattle.std.proofs.Common.{◌≡◌, ◌++◌, drop}
use Rattle.ncc_places.specs.Members.{variable_objects}
use Rattle.ncc_places.proofs.objects.put_objects.Given as goal

abbrev pub invariant-loop-extent : goal.invariant-loop-extent
invariant-loop-extent l =
    (l.out.tokens ++ variable_objects l.schema l.past (drop l.extent-index l.extents) ≡ l.fn.out.tokens ++ variable_objects l.schema l.header_length l.extents)
    × (l.out.before ≡ l.fn.out.before)
