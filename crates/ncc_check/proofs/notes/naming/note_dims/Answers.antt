use Rattle.std.proofs.Common.{◌≡◌, ◌+◌, ◌*◌, length, ap, ◌∙◌}
use Rattle.ncc_schema.specs.Names.{capped, head_size, list_size}
use Rattle.ncc_check.specs.Noting.{Below, LargeLengthNote, NameNotes, dim_names, dim_offsets}
use Rattle.ncc_check.proofs.Joining.{both_join}
use Rattle.ncc_check.proofs.Listing.{dims_start}
use Rattle.ncc_check.proofs.notes.naming.note_dims.Goals as goal

pub returns : goal.returns
returns c =
    let s = c.args.schema.now in
    let v = s.version in
    let start : 2 * c.list_size-start.result ≡ capped (head_size v + list_size v) = ap (λ n. 2 * n) c.list_size-start.ensures ∙ dims_start v in
    both_join (NameNotes (dim_names s.dims) (dim_offsets s)) (Below (LargeLengthNote v s.dims (dim_names s.dims) (dim_offsets s)) (length s.dims))
    c.args.notes.now.items c.note_names.new.notes.items c.note_large_lengths.new.notes.items
    (rw (c.as_slice-dims.ensures, start) at c.in_ok-note_names.ensures.notes) (rw (c.as_slice-dims.ensures, start) at c.in_ok-note_large_lengths.ensures)
