use Rattle.ncc_c.proofs.Indexing.{answer_stands, answer_vars, examined}
use Rattle.ncc_c.proofs.ncc_index.Goals as goal

pub put_index-requires : goal.put_index-requires
put_index-requires c = (
  c.args.front.now,
  c.args.file_length,
  c.args.limit,
  examined c.args.front.now c.args.file_length c.args.limit c.examine_front-found.result c.examine_front-found.ensures.finds c.examine_front-found.ensures.refuses,
)

pub returns-clause-tells : goal.returns-clause-tells
returns-clause-tells c = λ long.
    let answer = c.examine_front-found.result in
    let is = examined c.args.front.now c.args.file_length c.args.limit answer c.examine_front-found.ensures.finds c.examine_front-found.ensures.refuses in
    record {
      answer = answer;
      examines = is;
      told = c.put_index.ensures;
      stand = answer_stands c.args.front.now c.args.file_length c.args.limit answer is;
      vars_are = answer_vars c.args.front.now c.args.file_length c.args.limit answer is;
    }
