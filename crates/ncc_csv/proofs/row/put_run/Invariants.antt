use Rattle.std.proofs.Common.{◌≡◌, ◌≤◌, ◌++◌, map}
use Rattle.std.specs.Vec.{vec_capacity}
use Rattle.ncc_csv.specs.Word.{word_text}
use Rattle.ncc_csv.specs.Runs.{run_row, first_rows}
use Rattle.ncc_csv.proofs.row.put_run.Given as goal

abbrev pub invariant-loop-k : goal.invariant-loop-k
invariant-loop-k g l = record {
  rows : l.page.items ≡ l.fn.page.items ++ first_rows (run_row (map word_text l.heads) l.start l.stride (map (g.T.Cell.text l.style) l.values)) l.k;
  room : vec_capacity l.fn.page ≤ vec_capacity l.page;
}
