use Rattle.ncc_front.proofs.OneJudgement.{Laws, one_judgement}
use Rattle.ncc_front.proofs.laws.one_judgement.Goals as goal

pub returns : goal.returns
returns c = λ front file limit a b le.
    let laws : Laws = record {
      apart = c.header_or_stop.ensures.apart;
      one_header = c.header_or_stop.ensures.one_header;
      one_stop = c.header_or_stop.ensures.one_stop;
      no_fault = c.passing_has_no_fault.ensures.apart;
      one_fault = c.passing_has_no_fault.ensures.one_fault;
      one_report = c.one_report.ensures;
    } in
    one_judgement laws front file limit le a b
