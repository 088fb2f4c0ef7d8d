use Rattle.std.proofs.Common.{◌≡◌, length, ap, sym, ◌∙◌}
use Rattle.ncc_check.specs.Files.{schema_of}
use Rattle.ncc_write.specs.Records.{IsRecord, bytes_of_record}
use Rattle.ncc_write.proofs.SlabPlaces.{record_size_is}
use Rattle.ncc_write.proofs.appending.append.Goals as goal

pub append_image-requires-clause-image : goal.append_image-requires-clause-image
append_image-requires-clause-image g c =
    let s = schema_of c.args.file.now in
    let image : c.in_ok-image.image.items ≡ bytes_of_record s c.args.slabs.now = rw c.schema.ensures at c.in_ok-image.ensures.bytes in
    let fits : IsRecord s c.args.slabs.now = rw c.schema.ensures at c.in_ok-image.ensures.fits in
    ap length (c.as_slice.ensures.value ∙ image) ∙ record_size_is s c.args.slabs.now fits
    ∙ sym c.open_file_has_sizes.ensures.record_size
