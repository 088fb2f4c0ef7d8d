use Rattle.ncc_convert.proofs.FoundData.{planned_found}
use Rattle.ncc_convert.proofs.laws.open_file_holds_a_dataset.Goals as goal

pub returns : goal.returns
returns c = λ bytes limit s p t opens are planned sound. planned_found bytes limit s p opens are t planned sound
