-- The slab of each record lies in that record.
use Rattle.std.proofs.Common.{ℕ, ◌+◌, ◌≤◌, Bool, List, map, Some, subst, arith}
use Rattle.std.specs.Prelude.{Contains}
use Rattle.std.specs.List.{AllByRecursion}
use Rattle.ncc_layout.specs.declared.extent.Extent.{Extent}
use Rattle.ncc_layout.specs.Extents.{end, records_of, LeastBegin}
use Rattle.ncc_layout.specs.Rules.ByKind.{ByKind, EndsBy}
use Rattle.ncc_layout.specs.Rules.RecordWindow.{InRecordWindow, InRecord}
use Rattle.ncc_layout.proofs.Membership.{In, in_from_contains, filter_in, in_mapped, all_in}

module _ (record_size : ℕ) (es : List Extent) (begin number : ℕ) (e : Extent) (rule : AllByRecursion (InRecordWindow record_size es) es) (least : LeastBegin (records_of es) (Some begin)) (there : Contains (records_of es) e) where
  among : In (records_of es) e
  among = in_from_contains (records_of es) e there

  ends_by : EndsBy record_size (records_of es) e
  ends_by =
      let kept = filter_in (λ (d : Extent). d.is_record) es e among in
      subst (λ (b : Bool). ByKind b (EndsBy record_size (records_of es) e) (Unit {0})) kept.1 (all_in (InRecordWindow record_size es) es e rule kept.0)

  ends : end e ≤ begin + record_size
  ends =
      let first = in_mapped (λ (d : Extent). d.begin) (records_of es) begin (in_from_contains (map (λ (d : Extent). d.begin) (records_of es)) begin least.1) in
      omega (arith, first.2, all_in (λ (r : Extent). end e ≤ r.begin + record_size) (records_of es) first.0 ends_by first.1)

  pub in_record : InRecord record_size begin number e
  in_record = record {
    begins = omega (arith, all_in (λ (r : Extent). begin ≤ r.begin) (records_of es) e least.0 among);
    ends = omega (arith, ends);
  }
