use Rattle.ncc_layout.specs.declared.placed_file.Placed.{Placed}
use Rattle.ncc_check.proofs.PassingRecord.{Laws, long_with_record, new_opened, new_opens, new_pass}
use Rattle.ncc_check.proofs.laws.appending.bytes_with_a_record_pass_on.Goals as goal

pub returns : goal.returns
returns c =
    let one = c.header_or_stop.ensures.one_header in
    let keeps = λ (p : Placed). c.placed_file_keeps_all_rules.ensures p in
    let laws : Laws = record { begun = c.rewritten_count_is_begun.ensures.begun; one_more = c.placed_with_one_more.ensures; placed = c.one_more_is_placed.ensures } in
    record {
      passes = λ bytes image limit s p o takes long. new_pass bytes limit s p o takes (keeps p) one laws image long;
      opens = λ bytes image limit s p t q o takes long has. new_opens bytes limit s p o takes (keeps p) one laws image long t q has;
      opened = λ bytes image limit s p t q o takes long r. new_opened bytes limit s p o takes (keeps p) one laws image long t q r;
      long = λ bytes image limit s p o takes long. long_with_record bytes limit s p o takes (keeps p) one laws image long;
    }
