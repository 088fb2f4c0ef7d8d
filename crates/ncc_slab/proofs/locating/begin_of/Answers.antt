use Rattle.std.proofs.Common.{sym, ◌∙◌, arith}
use Rattle.ncc_slab.proofs.SlabEnds.{fixed_ends, record_ends}
use Rattle.ncc_slab.proofs.locating.begin_of.Goals as goal

pub returns-then-not-is_record-clause-inside : goal.returns-then-not-is_record-clause-inside
returns-then-not-is_record-clause-inside c =
    let p = c.args.placed.now in
    omega (arith, c.begin.ensures, fixed_ends p (c.placed_file_keeps_all_rules.ensures p) c.args.var c.requires.there (sym c.is_record.ensures ∙ c.if-not-is_record.true))

pub overflow_mul-result : goal.overflow_mul-result
overflow_mul-result c =
    let p = c.args.placed.now in
    let kind = sym c.is_record.ensures ∙ c.if-not-is_record.false in
    let ends = record_ends p (c.placed_file_keeps_all_rules.ensures p) c.args.var c.requires.there c.args.number kind (c.requires.in_records kind) in
    rw c.record_size.ensures (omega (arith, ends, c.length_fits.ensures))

pub overflow_add-result : goal.overflow_add-result
overflow_add-result c =
    let p = c.args.placed.now in
    let kind = sym c.is_record.ensures ∙ c.if-not-is_record.false in
    let ends = record_ends p (c.placed_file_keeps_all_rules.ensures p) c.args.var c.requires.there c.args.number kind (c.requires.in_records kind) in
    rw (c.record_size.ensures, c.begin-2.ensures) (omega (arith, ends, c.length_fits.ensures))

pub returns-clause-inside : goal.returns-clause-inside
returns-clause-inside c =
    let p = c.args.placed.now in
    let kind = sym c.is_record.ensures ∙ c.if-not-is_record.false in
    rw (c.record_size.ensures, c.begin-2.ensures) (record_ends p (c.placed_file_keeps_all_rules.ensures p) c.args.var c.requires.there c.args.number kind (c.requires.in_records kind))
