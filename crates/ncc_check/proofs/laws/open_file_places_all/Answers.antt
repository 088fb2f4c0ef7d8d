use Rattle.ncc_check.specs.Files.{store_of, schema_of, placed_of}
use Rattle.ncc_check.proofs.OpenVars.{variables_there}
use Rattle.ncc_check.proofs.laws.open_file_places_all.Goals as goal

pub returns : goal.returns
returns g c = variables_there _ (g.S.Store.bytes (store_of c.args.file.now)) (schema_of c.args.file.now) (placed_of c.args.file.now) c.open_file_stands.ensures
