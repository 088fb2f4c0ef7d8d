use Rattle.ncc_write.proofs.SlabPlaces.{record_size_is}
use Rattle.ncc_write.proofs.laws.adding.record_is_long.Goals as goal

pub returns : goal.returns
returns c = record_size_is
