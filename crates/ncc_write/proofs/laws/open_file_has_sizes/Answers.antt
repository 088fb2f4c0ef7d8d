use Rattle.ncc_check.specs.Files.{store_of, schema_of, placed_of}
use Rattle.ncc_write.proofs.OpenSizes.{sizes_of_open}
use Rattle.ncc_write.proofs.laws.open_file_has_sizes.Goals as goal

pub returns : goal.returns
returns g c = sizes_of_open _ (g.S.Store.bytes (store_of c.args.file.now)) (schema_of c.args.file.now)
    (placed_of c.args.file.now) c.open_file_stands.ensures
