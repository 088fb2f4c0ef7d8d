use Rattle.std.proofs.Common.{ap, sym, ◌∙◌}
use Rattle.ncc_layout.specs.declared.extent.Extent.{Extent}
use Rattle.ncc_layout.specs.Extents.{records_of, number_of_records}
use Rattle.ncc_layout.specs.Bounds.{HasBytes}
use Rattle.ncc_layout.proofs.Membership.{all_filter}
use Rattle.ncc_layout.proofs.Counting.{streamed_is, last_positive, stride_positive}
use Rattle.ncc_layout.proofs.records.record_count.Goals as goal

pub whole_records-requires : goal.whole_records-requires
whole_records-requires c =
    let is = sym c.last_end-last.ensures ∙ c.in-Some.is in
    record {
      bytes = last_positive (records_of c.args.extents.now) c.in-Some.end (all_filter HasBytes (λ (e : Extent). e.is_record) c.args.extents.now c.requires.bytes) is;
      stride = stride_positive c.args.record_size (records_of c.args.extents.now) c.in-Some.end c.requires.stride is;
    }

pub returns-in-Some : goal.returns-in-Some
returns-in-Some c =
    c.whole_records.ensures
    ∙ streamed_is c.args.record_size c.args.length (records_of c.args.extents.now) c.in-Some.end (sym c.last_end-last.ensures ∙ c.in-Some.is)
    ∙ ap (number_of_records c.args.record_size c.args.length c.args.extents.now) (sym c.in-Streaming.is)
