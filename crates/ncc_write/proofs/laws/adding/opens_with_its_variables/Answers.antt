use Rattle.ncc_write.proofs.OpenedDatasets.{opened_records, opened_size, opened_vars}
use Rattle.ncc_write.proofs.laws.adding.opens_with_its_variables.Goals as goal

pub returns-clause-vars : goal.returns-clause-vars
returns-clause-vars c = λ bytes limit places d s p counted all opens.
    opened_vars c.header_or_stop.ensures.one_header bytes limit places d s p all opens counted

pub returns-clause-records : goal.returns-clause-records
returns-clause-records c = λ bytes limit places d s p counted all opens.
    opened_records c.header_or_stop.ensures.one_header bytes limit places d s p all opens counted

pub returns-clause-size : goal.returns-clause-size
returns-clause-size c = λ bytes limit places d s p all opens.
    opened_size c.header_or_stop.ensures.one_header bytes limit places d s p all opens
