use Rattle.std.proofs.Common.{◌≡◌, ◌++◌, take}
use Rattle.std.specs.List.{flat_map}
use Rattle.ncc_lines.proofs.values.printed.Printed.print_all.Given as goal

abbrev pub invariant-loop-value : goal.invariant-loop-value
invariant-loop-value g l = l.out.items ≡ l.fn.out.items ++ flat_map (g.Self.Printed.text l.style) (take l.value-index l.values)
