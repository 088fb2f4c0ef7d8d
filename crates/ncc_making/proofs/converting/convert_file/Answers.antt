use Rattle.std.proofs.Common.{⊎_elim, rules}
use Rattle.ncc_making.proofs.converting.convert_file.Goals as goal

pub returns-in-Err-clause-named : goal.returns-in-Err-clause-named
returns-in-Err-clause-named g c = λ tells. record {
  made = search (tells, rules);
  unnamed = search (tells, rules);
  unprinted = λ is none store target.
      let against = rw is at c.in-Err.ensures.plans in
      absurd (none (against.0, against.1));
}

pub returns-in-Err-clause-lasts : goal.returns-in-Err-clause-lasts
returns-in-Err-clause-lasts g c = record {
  durable = search rules;
  settled = search rules;
  published = λ told is none store target.
      let against = rw is at c.in-Err.ensures.plans in
      absurd (none (against.0, against.1));
}

pub returns-in_default-clause-named : goal.returns-in_default-clause-named
returns-in_default-clause-named g c = λ tells. record {
  made = search (tells, rules);
  unnamed = search (tells, rules);
  unprinted = λ is none store target. absurd (⊎_elim store target (c.convert_into-answer.ensures.store.counted.device is));
}

pub returns-in_default-clause-lasts : goal.returns-in_default-clause-lasts
returns-in_default-clause-lasts g c = record {
  durable = search rules;
  settled = search rules;
  published = λ told is none store target. absurd (⊎_elim store target (c.convert_into-answer.ensures.store.counted.device is));
}
