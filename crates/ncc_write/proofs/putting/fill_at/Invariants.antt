use Rattle.std.proofs.Common.{◌≡◌, ◌+◌, ◌-◌, ◌*◌, ◌<◌, ◌≤◌, ◌++◌, length, take, replicate}
use Rattle.std.specs.List.{concat}
use Rattle.ncc_write.proofs.putting.fill_at.Given as goal

abbrev pub invariant-loop-done : goal.invariant-loop-done
invariant-loop-done l = record {
  within : l.done ≤ l.count;
  some : l.done < l.count → 0 < l.done;
  bytes : take (l.place + l.done * length l.fill) l.buffer ≡ take l.place l.fn.buffer ++ concat (replicate l.done l.fill);
  room : length l.buffer ≡ length l.fn.buffer;
}

abbrev pub decreases-loop-done : goal.decreases-loop-done
decreases-loop-done l = l.count - l.done
