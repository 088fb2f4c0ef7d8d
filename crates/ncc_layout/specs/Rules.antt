-- The layout rules of a file. Each has a module of its own, named for its fault: the rule, and the test that finds the
-- variable that breaks it. ByKind has words that they share. Whether sizes are too large is told in Sizes.
pub mod ByKind
pub mod FixedAfterRecords
pub mod InHeader
pub mod Overlap
pub mod RecordWindow
pub mod Truncated
use Rattle.std.specs.Prelude.{ℕ, List}
use Rattle.std.specs.List.{AllByRecursion}
use Rattle.ncc_schema.specs.declared.schema.Schema.{Schema}
use Rattle.ncc_schema.specs.Schema.{Place}
use Rattle.ncc_layout.specs.declared.extent.Extent.{Extent}
use Rattle.ncc_layout.specs.Sizes.{NoneTooLarge, record_size_of}
use Rattle.ncc_layout.specs.Extents.{extents_of, fixed_of, records_of, record_count}
use Rattle.ncc_layout.specs.Rules.FixedAfterRecords.{NotFixedAfterRecords}
use Rattle.ncc_layout.specs.Rules.InHeader.{NotInHeader}
use Rattle.ncc_layout.specs.Rules.Overlap.{NoOverlap}
use Rattle.ncc_layout.specs.Rules.RecordWindow.{InRecordWindow}
use Rattle.ncc_layout.specs.Rules.Truncated.{NotTruncated}

pub record Rules (header length record_size records : ℕ) (es : List Extent) : Type 0 where
  pub not_in_header : AllByRecursion (NotInHeader header) es
  pub no_fixed_overlap : NoOverlap (fixed_of es)
  pub no_record_overlap : NoOverlap (records_of es)
  pub in_record_window : AllByRecursion (InRecordWindow record_size es) es
  pub not_fixed_after_records : AllByRecursion (NotFixedAfterRecords es) es
  pub not_truncated : AllByRecursion (NotTruncated length record_size records) es

-- a file of this length, with this header, has room for all that its header says
pub record IsPlaced (s : Schema) (places : List Place) (header length : ℕ) : Type 0 where
  -- TooLarge: no padded size, and no sum of those of the record variables
  pub none_too_large : NoneTooLarge s.dims s.vars
  pub rules : Rules header length (record_size_of s) (record_count s places length) (extents_of s places)
