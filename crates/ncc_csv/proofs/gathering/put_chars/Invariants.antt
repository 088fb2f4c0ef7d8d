use Rattle.std.proofs.Common.{◌++◌, take}
use Rattle.ncc_csv.specs.Rows.{IsBetween, Adds}
use Rattle.ncc_csv.specs.TextRuns.{bytes_of, Gathers}
use Rattle.ncc_csv.proofs.gathering.put_chars.Given as goal

abbrev pub invariant-loop-k : goal.invariant-loop-k
invariant-loop-k g l = record {
  between : IsBetween l.w;
  gathers : Gathers l.slab l.fn.gathered.number (l.fn.gathered.text.items ++ bytes_of (take l.k l.values)) l.gathered (Adds g.W.Write.contents l.fn.w l.w);
}
