use Rattle.std.proofs.Common.{◌∙◌}
use Rattle.ncc_check.specs.Files.{schema_of}
use Rattle.ncc_write.proofs.filled.fill_image.Goals as goal

pub image_of-requires-clause-fits : goal.image_of-requires-clause-fits
image_of-requires-clause-fits g c =
    rw c.schema.ensures (rw (c.as_slice.ensures.value ∙ c.in_ok-slabs.ensures)
    (c.fills_are_a_record.ensures (schema_of c.args.file.now) c.open_file_has_sizes.ensures.sound))
