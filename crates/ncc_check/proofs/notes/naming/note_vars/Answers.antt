use Rattle.std.proofs.Common.{length}
use Rattle.ncc_check.specs.Noting.{AttrNotesAt, Below, VarNotes, var_offsets}
use Rattle.ncc_check.proofs.Joining.{both_join}
use Rattle.ncc_check.proofs.notes.naming.note_vars.Goals as goal

pub returns : goal.returns
returns c =
    let s = c.args.schema.now in
    both_join (VarNotes s) (Below (AttrNotesAt s.version s.vars (var_offsets s)) (length s.vars))
    c.args.notes.now.items c.note_names.new.notes.items c.note_attrs_of_vars.new.notes.items
    (rw (c.as_slice-vars.ensures, c.vars_start-start.ensures) at c.in_ok-note_names.ensures.notes) (rw (c.as_slice-vars.ensures, c.vars_start-start.ensures) at c.in_ok-note_attrs_of_vars.ensures)
