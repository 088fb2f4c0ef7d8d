use Rattle.ncc_c.proofs.Joining.{opens}
use Rattle.ncc_c.proofs.laws.record_joins.Goals as goal

pub returns-clause-passes : goal.returns-clause-passes
returns-clause-passes c = λ front file limit h p bytes image finds takes is long.
    c.bytes_with_a_record_pass_on.ensures.passes bytes image limit h.schema p (opens front file limit h p bytes finds is) takes long

pub returns-clause-long : goal.returns-clause-long
returns-clause-long c = λ front file limit h p bytes image finds takes is long.
    c.bytes_with_a_record_pass_on.ensures.long bytes image limit h.schema p (opens front file limit h p bytes finds is) takes long

pub returns-clause-kept : goal.returns-clause-kept
returns-clause-kept c = λ front file limit h p bytes new finds takes is keeps.
    c.kept_bytes_pass_on.ensures.passes bytes new limit h.schema p (opens front file limit h p bytes finds is) takes keeps

pub returns-clause-elements : goal.returns-clause-elements
returns-clause-elements c = λ front file limit h p bytes image new n place index finds takes is either there.
    c.old_elements_stay.ensures.elements bytes image new limit h.schema p n place index (opens front file limit h p bytes finds is) takes either there
