use Rattle.std.proofs.Common.{◌≡◌, ◌-◌, ◌*◌, ◌≤◌, take}
use Rattle.std.specs.Prelude.{IsTrue, true}
use Rattle.ncc_layout.specs.Placed.{file_length_of}
use Rattle.ncc_check.specs.Files.{ReadsFile, store_of, placed_of}
use Rattle.ncc_slab.specs.Apart.{places_apart}
use Rattle.ncc_slab.specs.Selected.{bytes_at_places}
use Rattle.ncc_slab.proofs.fetching.fetch_apart.Given as goal

abbrev pub invariant-loop-done : goal.invariant-loop-done
invariant-loop-done g l = record {
  within : l.done ≤ l.count;
  told : IsTrue g.S.Store.tells_bytes → take (l.done * l.size) l.out ≡ bytes_at_places (g.S.Store.bytes (store_of l.fn.file)) l.size (take l.done (places_apart l.place l.step l.count));
  file : ReadsFile l.fn.file l.file (λ before after. after ≡ before) true l.done (file_length_of (placed_of l.fn.file));
}

abbrev pub decreases-loop-done : goal.decreases-loop-done
decreases-loop-done g l = l.count - l.done
