use Rattle.std.proofs.Common.{◌≡◌, ◌≤◌, ◌<◌, ◌++◌, length, map, take, drop}
use Rattle.ncc_slab.specs.Selection.{index_lists}
use Rattle.ncc_csv.specs.Word.{word_text}
use Rattle.ncc_csv.specs.Runs.{leading_texts}
use Rattle.ncc_csv.proofs.heads.set_heads.Given as goal

abbrev pub invariant-loop-dim : goal.invariant-loop-dim
invariant-loop-dim l = record {
  within : l.dim ≤ length l.fn.heads;
  there : l.rest < length (index_lists (take l.dim l.slab.count));
  so_far : leading_texts l.slab l.dim l.rest ++ drop l.dim (map word_text l.heads) ≡ leading_texts l.slab (length l.fn.heads) l.number;
}

abbrev pub decreases-loop-dim : goal.decreases-loop-dim
decreases-loop-dim l = l.dim
