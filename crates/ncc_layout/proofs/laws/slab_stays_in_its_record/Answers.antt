use Rattle.ncc_layout.proofs.RecordWindows.{in_record}
use Rattle.ncc_layout.proofs.laws.slab_stays_in_its_record.Goals as goal

pub returns : goal.returns
returns c = λ record_size es begin number e rule least there. in_record record_size es begin number e rule least there
