use Rattle.ncc_schema.specs.Schema.{places_of}
use Rattle.ncc_header.proofs.Recounting.{recounted, as_long}
use Rattle.ncc_header.proofs.laws.rewritten_count_is_begun.Goals as goal

pub returns : goal.returns
returns c = record {
  begun = λ input limit h n begins less.
      recounted input limit h n begins
      (c.count_field_is_rewritten.ensures h.schema (places_of h.places) begins.front n begins.is_header less);
  long = λ input limit h n begins. as_long input limit h n begins;
}
