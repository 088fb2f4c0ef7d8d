use Rattle.ncc_check.proofs.Appendable.{records_begin}
use Rattle.ncc_check.proofs.OldBytes.{added_image, next_behind, old_element, old_range}
use Rattle.ncc_layout.specs.Packed.{records_at}
use Rattle.ncc_check.proofs.laws.appending.old_elements_stay.Goals as goal

pub returns : goal.returns
returns c = record {
  bytes = λ bytes image new s p place size is_so further inside. old_range bytes image s p new place size is_so further inside;
  elements = λ bytes image new limit s p n place index o takes is_so is.
      let keeps = c.placed_file_keeps_all_rules.ensures p in
      old_element bytes image limit s p o takes keeps (c.placed_file_keeps_elements_apart.ensures p) new is_so n place index is
      (c.elements_lie_before_the_end.ensures.all p (records_at p) n place index (records_begin p takes.some) is);
  added = λ bytes image limit s p o takes.
      added_image bytes image s p (next_behind bytes image limit s p o takes (c.placed_file_keeps_all_rules.ensures p));
}
