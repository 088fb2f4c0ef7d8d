use Rattle.std.proofs.Common.{◌≡◌, ◌+◌, ◌-◌, ◌*◌, ◌<◌, ◌≤◌, map, take}
use Rattle.std.specs.Prelude.{IsTrue, true}
use Rattle.std.specs.List.{range_with_len}
use Rattle.ncc_layout.specs.Placed.{file_length_of}
use Rattle.ncc_check.specs.Files.{ReadsFile, store_of, placed_of}
use Rattle.ncc_slab.specs.Grids.{grid_place, grid_rest, IsRun}
use Rattle.ncc_slab.specs.Stretches.{stretches}
use Rattle.ncc_slab.specs.Selected.{bytes_at_places}
use Rattle.ncc_slab.proofs.fetching.fetch_elements.Given as goal

abbrev pub invariant-loop-done : goal.invariant-loop-done
invariant-loop-done g l = record {
  within : l.done ≤ l.count;
  told : IsTrue g.S.Store.tells_bytes → take (l.done * l.size) l.out ≡ bytes_at_places (g.S.Store.bytes (store_of l.fn.file)) l.size (take l.done (grid_rest l.grid l.first));
  file : ReadsFile l.fn.file l.file (λ before after. after ≡ before) true (stretches l.size (map (grid_place l.grid) (range_with_len l.first l.done))) (file_length_of (placed_of l.fn.file));
  apart : l.done < l.count → 0 < l.done → grid_place l.grid (l.first + l.done) ≡ grid_place l.grid (l.first + l.done - 1) + l.size → ⊥;
  run : l.done < l.count → IsRun l.step l.grid (l.first + l.done) l.run;
  left : l.done < l.count → l.done + l.run.count ≤ l.count;
}

abbrev pub decreases-loop-done : goal.decreases-loop-done
decreases-loop-done g l = l.count - l.done
