use Rattle.ncc_parts.proofs.Labels.{attrs_head, dims_head, globals_head, magic, numrecs, vars_head}
use Rattle.ncc_parts.proofs.laws.heads_have_their_labels.Goals as goal

pub returns : goal.returns
returns c = record {
  dims = λ s places m long some few. dims_head s places long m some few;
  globals = λ s places m long some few. globals_head s places long m some few;
  vars = λ s places m long some few. vars_head s places long m some few;
  attrs = λ s places i m long there some few. attrs_head s places long i m there some few;
  magic = magic;
  numrecs = numrecs;
}
