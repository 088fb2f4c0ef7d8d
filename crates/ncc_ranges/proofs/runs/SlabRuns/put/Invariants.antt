use Rattle.std.proofs.Common.{◌≡◌, ◌++◌, take}
use Rattle.ncc_ranges.specs.Runs.{AreSome, AreLongest, runs_left, runs_size, runs_all, places_in}
use Rattle.ncc_ranges.proofs.runs.SlabRuns.put.Given as goal

abbrev pub invariant-loop-k : goal.invariant-loop-k
invariant-loop-k l = record {
  size : runs_size l.self ≡ runs_size l.fn.self;
  all : runs_all l.self ≡ runs_all l.fn.self;
  some : AreSome (take l.k l.out);
  longest : AreLongest (runs_size l.fn.self) (runs_left l.self) (take l.k l.out);
  left : runs_left l.fn.self ≡ places_in (runs_size l.fn.self) (take l.k l.out) ++ runs_left l.self;
}
