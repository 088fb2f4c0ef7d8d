use Rattle.std.proofs.Common.{◌≡◌, drop}
use Rattle.ncc_layout.specs.Bounds.{inside_from}
use Rattle.ncc_layout.specs.Rules.Overlap.{of_kind}
use Rattle.ncc_layout.proofs.rules.overlap.inside_of.Given as goal

abbrev pub invariant-loop-extent : goal.invariant-loop-extent
invariant-loop-extent l = inside_from l.end (of_kind l.is_record (drop l.extent-index l.extents)) ≡ inside_from 0 (of_kind l.is_record l.extents)
