use Rattle.std.proofs.Common.{◌∙◌}
use Rattle.ncc_values.specs.declared.values.Values.{Values}
use Rattle.ncc_check.specs.Files.{store_of, placed_of}
use Rattle.ncc_layout.specs.Placed.{vars_of}
use Rattle.ncc_write.proofs.TripReads.{never_differs, not_refused, only_failure, only_memory, reads_so}
use Rattle.ncc_write.proofs.trip_reading.same_slab.Goals as goal

pub returns-in-Err-clause-memory : goal.returns-in-Err-clause-memory
returns-in-Err-clause-memory g c =
    c.of_slab.ensures
    ∙ only_memory (placed_of c.args.file.now) c.args.var c.args.number c.requires.has c.in-Err.fault c.in-Err.ensures

pub returns-in-Err-read_slab-clause-memory : goal.returns-in-Err-read_slab-clause-memory
returns-in-Err-read_slab-clause-memory g c =
    let file = c.args.file.now in
    let p = placed_of file in
    let bytes = g.S.Store.bytes (store_of file) in
    c.of_slab-in-Err-read_slab.ensures
    ∙ only_failure Values (vars_of p) c.args.var c.in-Ok.slab
    (not_refused p bytes c.args.var c.args.number c.requires.has c.in-Ok.slab c.in-Ok.ensures.1 c.whole_slab_is_there.ensures)
    c.in-Err-read_slab.fault c.in-Err-read_slab.ensures.answers

pub returns-clause-memory : goal.returns-clause-memory
returns-clause-memory g c =
    let file = c.args.file.now in
    let p = placed_of file in
    let bytes = g.S.Store.bytes (store_of file) in
    let same = reads_so p bytes c.args.var c.args.number c.requires.has c.in-Ok.slab c.in-Ok.ensures.1 c.whole_slab_adjoins.ensures
    c.args.bytes.now c.are_bytes.ensures c.requires.whole c.requires.there c.in-Ok-read_slab.values
    (c.in-Ok-read_slab.ensures.values c.requires.told) in
    never_differs c.in_ok-spells.field-0 _ _ c.if-branch.false same c.in_ok-spells.ensures.1
