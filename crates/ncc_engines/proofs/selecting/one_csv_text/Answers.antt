use Rattle.ncc_engines.proofs.SentTable.{Laws, one_csv_text}
use Rattle.ncc_engines.proofs.selecting.one_csv_text.Goals as goal

pub returns : goal.returns
returns c = λ bytes limit name pick style texts a b t u x y.
    let laws : Laws = record { apart = c.passing_has_no_fault.ensures.apart; one_header = c.header_or_stop.ensures.one_header; one_fault = c.passing_has_no_fault.ensures.one_fault } in
    one_csv_text laws bytes limit name pick style texts a b t u x y
