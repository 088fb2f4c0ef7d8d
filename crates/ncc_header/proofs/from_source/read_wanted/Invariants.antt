use Rattle.std.proofs.Common.{◌≡◌, ◌+◌, ◌-◌, ◌≤◌, ◌<◌, List, ◌++◌, length, ℕ, if◌then◌else◌}
use Rattle.std.specs.Prelude.{◌==◌}
use Rattle.ncc_header.specs.declared.fault.HeaderError.TheVariants.{Memory}
use Rattle.ncc_header.specs.Decoder.{Took, HasFailed, limit_of}
use Rattle.ncc_header.specs.FromSource.{HasRead, IsOver}
use Rattle.ncc_header.specs.State.{IsWhole}
use Rattle.ncc_header.proofs.from_source.read_wanted.Given as goal

abbrev pub invariant-loop-wanted : goal.invariant-loop-wanted
invariant-loop-wanted g l = record {
  read : HasRead (g.R.Source.left l.fn.source) (g.R.Source.left l.source) l.decoder l.limit l.taken;
  fresh : ¬ HasFailed l.decoder Memory;
  fewest : (bytes more : List ℕ) → Took l.decoder bytes → IsWhole (bytes ++ more) (limit_of l.decoder) → l.wanted ≤ length more;
  within : 0 < l.wanted → l.taken + l.wanted ≤ l.limit;
  most : l.taken ≤ l.limit;
  over : l.wanted ≡ 0 → IsOver (g.R.Source.left l.source) l.decoder l.limit;
  count : g.R.Source.failures l.source ≡ g.R.Source.failures l.fn.source;
  called : g.R.Source.calls l.source ≤ g.R.Source.calls l.fn.source + l.taken + 1;
  each : 0 < l.wanted → g.R.Source.calls l.source ≤ g.R.Source.calls l.fn.source + l.taken;
}

abbrev pub decreases-loop-wanted : goal.decreases-loop-wanted
decreases-loop-wanted g l = if l.wanted == 0 then 0 else l.limit + 1 - l.taken
