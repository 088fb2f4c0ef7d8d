-- Which rule fails first, once those before it hold.
use Rattle.std.proofs.Common.{◌≡◌, ℕ, List, Option, Some, None, subst}
use Rattle.std.specs.List.{AllByRecursion}
use Rattle.ncc_layout.specs.declared.extent.Extent.{Extent}
use Rattle.ncc_layout.specs.declared.fault.LayoutFaultKind.{LayoutFaultKind}
use Rattle.ncc_layout.specs.declared.fault.LayoutFaultKind.TheVariants.{TooLarge, InHeader, Overlap, RecordWindow, FixedAfterRecords, Truncated}
use Rattle.ncc_layout.specs.Rules.InHeader.{NotInHeader}
use Rattle.ncc_layout.specs.Rules.Truncated.{NotTruncated}
use Rattle.ncc_layout.specs.Faults.{FailsFirst, RuleFails}
use Rattle.ncc_layout.specs.Rules.Overlap.{Overlaps}
use Rattle.ncc_layout.specs.Bounds.{RecordsJudged, JudgedLater, Judged}
use Rattle.ncc_layout.specs.Rules.InHeader.{is_in_header}
use Rattle.ncc_layout.specs.Rules.Truncated.{is_truncated, last_record}
use Rattle.std.specs.Prelude.{position}
use Rattle.ncc_layout.proofs.Searching.{finds}
use Rattle.ncc_layout.proofs.TestsOfRules.{tells_in_header, tells_truncated}

module _ (header length record_size records : ℕ) (es : List Extent) where
  pub not_in_header : None ≡ position (is_in_header header) es → AllByRecursion (NotInHeader header) es
  not_in_header e = finds (NotInHeader header) (is_in_header header) (tells_in_header header) es None e

  pub in_header : (n : ℕ) → Some n ≡ position (is_in_header header) es → FailsFirst (NotInHeader header) es n
  in_header n e = finds (NotInHeader header) (is_in_header header) (tells_in_header header) es (Some n) e

  pub overlapping : None ≡ position (is_in_header header) es → (found : Option ℕ) (n : ℕ) → Overlaps es found → found ≡ Some n → RuleFails header length record_size records es Overlap n
  overlapping e found n h is = (not_in_header e, subst (Overlaps es) is h)

  -- the rules after that of overlaps have been judged
  module _ (e : None ≡ position (is_in_header header) es) (lie : Overlaps es None) where
    by_kind : (kind : LayoutFaultKind) (n : ℕ) → JudgedLater length record_size records es (Some (kind, n)) → RuleFails header length record_size records es kind n
    by_kind TooLarge n h = absurd h
    by_kind InHeader n h = absurd h
    by_kind Overlap n h = absurd h
    by_kind RecordWindow n h = (not_in_header e, lie.0, lie.1, h)
    by_kind FixedAfterRecords n h = (not_in_header e, lie.0, lie.1, h.0, h.1)
    by_kind Truncated n h = (not_in_header e, lie.0, lie.1, h.0.0, h.0.1, h.1)

    pub by_later : (later : Option (LayoutFaultKind × ℕ)) → JudgedLater length record_size records es later → Judged header length record_size records es later
    by_later (Some (kind, n)) h = by_kind kind n h
    by_later None h = record {
      not_in_header = not_in_header e;
      no_fixed_overlap = lie.0;
      no_record_overlap = lie.1;
      in_record_window = h.0.0;
      not_fixed_after_records = h.0.1;
      not_truncated = h.1;
    }

-- ---- the rules after that of overlaps

module _ (length record_size records : ℕ) (es : List Extent) where
  pub from_records : (kind : LayoutFaultKind) (n : ℕ) → RecordsJudged record_size es (Some (kind, n)) → JudgedLater length record_size records es (Some (kind, n))
  from_records TooLarge n h = absurd h
  from_records InHeader n h = absurd h
  from_records Overlap n h = absurd h
  from_records RecordWindow n h = h
  from_records FixedAfterRecords n h = h
  from_records Truncated n h = absurd h

  pub cut : RecordsJudged record_size es None → (n : ℕ) → Some n ≡ position (is_truncated length (last_record record_size records)) es → JudgedLater length record_size records es (Some (Truncated, n))
  cut h n test = (h, finds (NotTruncated length record_size records) (is_truncated length (last_record record_size records)) (tells_truncated length record_size records) es (Some n) test)

  pub none_cut : RecordsJudged record_size es None → None ≡ position (is_truncated length (last_record record_size records)) es → JudgedLater length record_size records es None
  none_cut h test = (h, finds (NotTruncated length record_size records) (is_truncated length (last_record record_size records)) (tells_truncated length record_size records) es None test)
