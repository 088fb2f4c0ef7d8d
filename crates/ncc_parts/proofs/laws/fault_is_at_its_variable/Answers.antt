use Rattle.ncc_parts.proofs.BeginFields.{found}
use Rattle.ncc_parts.proofs.laws.fault_is_at_its_variable.Goals as goal

pub returns : goal.returns
returns c = λ bytes limit h file f b x. found b.front h.places x.number f.offset b.begins x.there x.offset_is
