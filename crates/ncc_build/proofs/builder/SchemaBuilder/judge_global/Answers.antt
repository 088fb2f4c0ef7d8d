use Rattle.ncc_build.proofs.builder.SchemaBuilder.judge_global.Goals as goal

pub returns-clause-judged : goal.returns-clause-judged
returns-clause-judged c =
    let judged = c.judge_attr.ensures.judged in
    rw c.as_slice-gatts.ensures at judged
