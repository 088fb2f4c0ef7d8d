use Rattle.ncc_parts.proofs.BrokenRules.{has_bytes, rule_is_false}
use Rattle.ncc_parts.proofs.laws.broken_rule_is_false.Goals as goal

pub returns : goal.returns
returns c = λ h file n kind b legal there e.
    let told = rule_is_false h file n kind b (has_bytes h n legal there) e in
    (told.kind_is, told.breaks, told.fails)
