use Rattle.std.proofs.Common.{◌+◌, ◌*◌, sym, subst}
use Rattle.ncc_layout.specs.Elements.{var_at, LiesInFile}
use Rattle.ncc_layout.specs.Placed.{header_length_of, record_size_of_file, records_of_file, vars_of}
use Rattle.ncc_layout.proofs.BeforeEnd.{before_end, before_records}
use Rattle.ncc_layout.proofs.laws.appending.elements_lie_before_the_end.Goals as goal

pub returns : goal.returns
returns c = record {
  all = λ p begin n place index least is.
      subst (LiesInFile (header_length_of p) (begin + records_of_file p * record_size_of_file p) (var_at (vars_of p) n)) (sym is.2)
      (before_end p (c.placed_file_keeps_all_rules.ensures p) begin n index least is.0 is.1);
  fixed = λ p begin n place index least is fixed.
      subst (LiesInFile (header_length_of p) begin (var_at (vars_of p) n)) (sym is.2)
      (before_records p (c.placed_file_keeps_all_rules.ensures p) begin n index least is.0 is.1 fixed);
}
