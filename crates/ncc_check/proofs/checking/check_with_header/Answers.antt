use Rattle.ncc_check.proofs.checking.check_with_header.Goals as goal

pub returns-clause-examines : goal.returns-clause-examines
returns-clause-examines g c = λ told.
    let found = c.in_ok-found.ensures.finds told in
    record {
      passes = found.passes;
      reports = c.in-Ok.ensures _ found.records_are;
      sizes = c.in_ok-found.ensures.sizes;
    }

pub returns-clause-begun : goal.returns-clause-begun
returns-clause-begun g c = (
  c.in_ok-found.ensures.begun,
  c.in_ok-found.ensures.sizes,
  (c.in_ok-found.ensures.counted.0, c.in-Ok.ensures _ c.in_ok-found.ensures.counted.1),
)
