use Rattle.std.proofs.Common.{◌≡◌, ◌+◌, ◌-◌, ◌≤◌, take}
use Rattle.std.specs.Prelude.{IsTrue, false}
use Rattle.ncc_values.specs.XType.{size_of}
use Rattle.ncc_values.specs.Values.{type_of, count_of}
use Rattle.ncc_layout.specs.Placed.{file_length_of}
use Rattle.ncc_check.specs.Files.{ReadsFile, store_of, placed_of}
use Rattle.ncc_slab.specs.Grids.{grid_place, grid_places}
use Rattle.ncc_slab.proofs.Calls.{HasRead}
use Rattle.ncc_slab.specs.Selected.{AddsPlaces}
use Rattle.ncc_slab.proofs.fetching.add_all.Given as goal

abbrev pub invariant-loop-taken : goal.invariant-loop-taken
invariant-loop-taken g l = record {
  within : l.taken ≤ l.grid.count;
  typed : type_of l.values ≡ type_of l.fn.values;
  told : IsTrue g.S.Store.tells_bytes → AddsPlaces (g.S.Store.bytes (store_of l.fn.file)) (size_of (type_of l.fn.values)) (take l.taken (grid_places l.grid)) l.fn.values l.values;
  counted : count_of l.values ≡ count_of l.fn.values + l.taken;
  file : ReadsFile l.fn.file l.file (λ before after. after ≡ before) false 0 (file_length_of (placed_of l.fn.file));
  read : HasRead (type_of l.fn.values) (grid_place l.grid) l.grid.count l.taken (g.S.Store.calls (store_of l.fn.file)) (g.S.Store.calls (store_of l.file));
}

abbrev pub decreases-loop-taken : goal.decreases-loop-taken
decreases-loop-taken g l = l.grid.count - l.taken
