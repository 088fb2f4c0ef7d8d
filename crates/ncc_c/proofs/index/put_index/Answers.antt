use Rattle.ncc_c.proofs.Indexing.{answer_long}
use Rattle.ncc_c.proofs.index.put_index.Goals as goal

pub put_found-requires-clause-placed : goal.put_found-requires-clause-placed
put_found-requires-clause-placed c =
    answer_long c.requires.0 c.requires.1 c.requires.2 c.args.answer.now c.in-Ok.found c.in-Ok.is c.requires.3
