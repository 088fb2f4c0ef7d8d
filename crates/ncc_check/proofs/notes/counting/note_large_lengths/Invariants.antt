use Rattle.std.proofs.Common.{◌≡◌, ◌+◌}
use Rattle.ncc_schema.specs.Header.{canon_dim}
use Rattle.ncc_schema.specs.Names.{before, capped}
use Rattle.ncc_check.specs.Noting.{Adds, Below, LargeLengthNote, dim_names, offsets_from}
use Rattle.ncc_check.proofs.notes.counting.note_large_lengths.Given as goal

abbrev pub invariant-loop-dim : goal.invariant-loop-dim
invariant-loop-dim l = record {
  stands : l.at ≡ capped (l.start + before (canon_dim l.version) l.dim-index l.dims);
  found : Adds (Below (LargeLengthNote l.version l.dims (dim_names l.dims) (offsets_from (canon_dim l.version) l.start l.dims)) l.dim-index) l.fn.notes.items l.notes.items;
}
