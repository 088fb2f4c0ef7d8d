use Rattle.std.proofs.Common.{sym, subst}
use Rattle.ncc_c.specs.declared.index.Indexed.{Indexed}
use Rattle.ncc_c.specs.Rows.{IsIndexed}
use Rattle.ncc_c.proofs.Indexing.{answer_stands, answer_vars, examined}
use Rattle.ncc_c.proofs.Opened.{numbers_are, own_elements, rows_are}
use Rattle.ncc_c.proofs.ncc_read.Goals as goal

pub put_index-rows-requires : goal.put_index-rows-requires
put_index-rows-requires c = (
  c.args.front.now,
  c.args.file_length,
  c.args.limit,
  examined c.args.front.now c.args.file_length c.args.limit c.examine_front-found.result c.examine_front-found.ensures.finds c.examine_front-found.ensures.refuses,
)

pub returns-clause-tells : goal.returns-clause-tells
returns-clause-tells c = λ long.
    let answer = c.examine_front-found.result in
    let is = examined c.args.front.now c.args.file_length c.args.limit answer c.examine_front-found.ensures.finds c.examine_front-found.ensures.refuses in
    record {
      index = record {
        answer = answer;
        examines = is;
        told = subst (IsIndexed answer _ _ _ _) (sym (rows_are answer c.put_index-rows.result c.opened_by.result c.opened_by.ensures)) c.put_index-rows.ensures;
        stand = answer_stands c.args.front.now c.args.file_length c.args.limit answer is;
        vars_are = answer_vars c.args.front.now c.args.file_length c.args.limit answer is;
      };
      numbers = numbers_are answer c.put_index-rows.result c.opened_by.result c.opened_by.ensures;
    }

pub returns-clause-own : goal.returns-clause-own
returns-clause-own c = λ long opens bytes is.
    let answer = c.examine_front-found.result in
    let examines = examined c.args.front.now c.args.file_length c.args.limit answer c.examine_front-found.ensures.finds c.examine_front-found.ensures.refuses in
    own_elements c.passing_elements_are_apart.ensures c.args.front.now c.args.file_length c.args.limit answer _ _ _ _ c.opened_by.result.rows
    examines
    (subst (IsIndexed answer _ _ _ _) (sym (rows_are answer c.put_index-rows.result c.opened_by.result c.opened_by.ensures)) c.put_index-rows.ensures)
    opens bytes is
