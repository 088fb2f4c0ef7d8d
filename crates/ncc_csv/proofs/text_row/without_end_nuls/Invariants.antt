use Rattle.std.proofs.Common.{◌≡◌, ◌≤◌, length, take}
use Rattle.ncc_csv.specs.Texts.{without_end_nuls}
use Rattle.ncc_csv.proofs.text_row.without_end_nuls.Given as goal

abbrev pub invariant-loop-end : goal.invariant-loop-end
invariant-loop-end l = record {
  within : l.end ≤ length l.text;
  same : without_end_nuls (take l.end l.text) ≡ without_end_nuls l.text;
}

abbrev pub decreases-loop-end : goal.decreases-loop-end
decreases-loop-end l = l.end
