use Rattle.std.proofs.Common.{◌≡◌, ◌+◌, ◌-◌, ◌*◌, ◌<◌, ◌≤◌, ℕ}
use Rattle.ncc_slab.specs.Grids.{grid_place}
use Rattle.ncc_slab.proofs.fetching.stretch.Given as goal

abbrev pub invariant-loop-count : goal.invariant-loop-count
invariant-loop-count l = record {
  some : 0 < l.count;
  within : l.count ≤ l.most;
  adjoin : (i : ℕ) → i < l.count → grid_place l.grid (l.n + i) ≡ l.run.place + i * l.size;
}

abbrev pub decreases-loop-count : goal.decreases-loop-count
decreases-loop-count l = l.most - l.count
