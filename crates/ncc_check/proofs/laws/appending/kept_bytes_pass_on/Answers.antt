use Rattle.ncc_check.proofs.PassingOn.{kept_opens, kept_pass}
use Rattle.ncc_check.proofs.laws.appending.kept_bytes_pass_on.Goals as goal

pub returns : goal.returns
returns c = record {
  passes = λ bytes new limit s p o takes keeps.
      kept_pass bytes limit s p o takes (c.placed_file_keeps_all_rules.ensures p) c.header_or_stop.ensures.one_header c.placed_in_longer.ensures new keeps;
  opens = λ bytes new limit s p t q o takes keeps r.
      kept_opens bytes limit s p o takes (c.placed_file_keeps_all_rules.ensures p) c.header_or_stop.ensures.one_header c.placed_in_longer.ensures new keeps t q r;
}
