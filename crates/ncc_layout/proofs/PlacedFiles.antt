-- Each value of a placed file keeps all rules, and its elements apart.
use Rattle.std.proofs.Common.{◌≡◌, ℕ, zero, suc, ◌+◌, ◌≤◌, Bool, true, false, List, [], ◌∷◌, ap}
use Rattle.std.specs.List.{AllByRecursion-prop}
use Rattle.std.proofs.Math.Logic.{∥∥₁_elim}
use Rattle.std.proofs.Props.{props}
use Rattle.ncc_values.specs.XType.{size_of}
use Rattle.ncc_layout.specs.declared.extent.Extent.{Extent}
use Rattle.ncc_layout.specs.declared.placed_var.PlacedVar.{PlacedVar}
use Rattle.ncc_layout.specs.declared.placed_file.Placed.{Placed}
use Rattle.ncc_layout.specs.Sizes.{up, room}
use Rattle.ncc_layout.specs.Extents.{NumberedFrom, end, fixed_of, records_of}
use Rattle.ncc_layout.specs.Rules.ByKind.{ByKind, EndsBy}
use Rattle.ncc_layout.specs.Rules.InHeader.{NotInHeader}
use Rattle.ncc_layout.specs.Rules.RecordWindow.{InRecordWindow}
use Rattle.ncc_layout.specs.Rules.FixedAfterRecords.{NotFixedAfterRecords}
use Rattle.ncc_layout.specs.Rules.Truncated.{LastNotTruncated, NotTruncated}
use Rattle.ncc_layout.specs.Rules.Overlap.{NoOverlap}
use Rattle.ncc_layout.specs.Rules.{Rules}
use Rattle.ncc_layout.specs.Elements.{Element, Owns, IsShaped, HasShape, AreLaid, AreSized, Own}
use Rattle.ncc_layout.specs.Placed.{header_length_of, file_length_of, record_size_of_file, records_of_file, vars_of, extents_of_file, KeepsRules}
use Rattle.ncc_layout.proofs.Membership.{in_from_contains}
use Rattle.ncc_layout.proofs.Own.{own, one_numbered}

-- ---- rules have one proof at most

by_kind-prop : (b : Bool) (P Q : Type 0) → IsProp P → IsProp Q → IsProp (ByKind b P Q)
by_kind-prop true P Q h k = h
by_kind-prop false P Q h k = k

unit-prop : IsProp (Unit {0})
unit-prop = hlevel props

ends_by-prop : (further : ℕ) (records : List Extent) (e : Extent) → IsProp (EndsBy further records e)
ends_by-prop further records e = AllByRecursion-prop (λ (r : Extent). end e ≤ r.begin + further) (λ r. hlevel props) records

last_within-prop : (length record_size records : ℕ) (e : Extent) → IsProp (LastNotTruncated length record_size records e)
last_within-prop length record_size zero e = hlevel props
last_within-prop length record_size (suc n) e = hlevel props

apart-prop : (es : List Extent) → IsProp (NoOverlap es)
apart-prop es = hlevel props

-- ---- the numbers of variables

numbered-prop : (n : ℕ) (es : List Extent) → IsProp (NumberedFrom n es)
numbered-prop n [] = hlevel props
numbered-prop n (e ∷ es) =
    let rest : IsProp (NumberedFrom (suc n) es) = numbered-prop (suc n) es in
    hlevel (props, rest)

shape-prop : (records size slab : ℕ) (b : Bool) (ls : List ℕ) → IsProp (IsShaped records size slab b ls)
shape-prop records size slab true [] = hlevel props
shape-prop records size slab true (n ∷ ls) = hlevel props
shape-prop records size slab false ls = hlevel props

module _ (p : Placed) where
  abbrev Laid : Type 0
  Laid = AreLaid p.header_length p.file_length p.record_size p.records p.vars.items

  own_by : Laid → Own (header_length_of p) (file_length_of p) (record_size_of_file p) (vars_of p)
  own_by laid = own p.header_length p.file_length p.record_size p.records p.vars.items laid

  numbered : NumberedFrom 0 (extents_of_file p)
  numbered = ∥∥₁_elim p.laid (numbered-prop 0 (extents_of_file p)) (λ laid. laid.numbered)

  abbrev OwnsByte : Element (vars_of p) → ℕ → Type 0
  OwnsByte e byte = Owns (record_size_of_file p) e byte

  one_number : (d e : Element (vars_of p)) (byte : ℕ) → OwnsByte d byte → OwnsByte e byte → d.var.extent.variable ≡ e.var.extent.variable
  one_number d e byte first second = ∥∥₁_elim p.laid (hlevel props) (λ laid. ap (λ (x : PlacedVar). x.extent.variable) ((own_by laid).apart d e byte first second).0)

  one_index : (d e : Element (vars_of p)) (byte : ℕ) → OwnsByte d byte → OwnsByte e byte → d.index ≡ e.index
  one_index d e byte first second = ∥∥₁_elim p.laid (hlevel props) (λ laid. ((own_by laid).apart d e byte first second).1)

  pub own_of_file : Own (header_length_of p) (file_length_of p) (record_size_of_file p) (vars_of p)
  own_of_file = record {
    inside = λ e byte owns. ∥∥₁_elim p.laid (hlevel props) (λ laid. (own_by laid).inside e byte owns);
    apart = λ d e byte first second. (
      one_numbered (λ (x : PlacedVar). x.extent) 0 (vars_of p) d.var e.var numbered (in_from_contains (vars_of p) d.var d.there) (in_from_contains (vars_of p) e.var e.there)
          (one_number d e byte first second),
      one_index d e byte first second,
    );
  }

  -- ---- all rules

  abbrev es : List Extent
  es = extents_of_file p

  all_rules : Rules (header_length_of p) (file_length_of p) (record_size_of_file p) (records_of_file p) es
  all_rules = record {
    not_in_header = ∥∥₁_elim p.laid (AllByRecursion-prop (NotInHeader p.header_length) (λ e. hlevel props) es) (λ laid. laid.rules.not_in_header);
    no_fixed_overlap = ∥∥₁_elim p.laid (apart-prop (fixed_of es)) (λ laid. laid.rules.no_fixed_overlap);
    no_record_overlap = ∥∥₁_elim p.laid (apart-prop (records_of es)) (λ laid. laid.rules.no_record_overlap);
    in_record_window = ∥∥₁_elim p.laid (AllByRecursion-prop (InRecordWindow p.record_size es) (λ e. by_kind-prop e.is_record _ _ (ends_by-prop p.record_size (records_of es) e) unit-prop) es) (λ laid. laid.rules.in_record_window);
    not_fixed_after_records = ∥∥₁_elim p.laid (AllByRecursion-prop (NotFixedAfterRecords es) (λ e. by_kind-prop e.is_record _ _ unit-prop (ends_by-prop 0 (records_of es) e)) es) (λ laid. laid.rules.not_fixed_after_records);
    not_truncated = ∥∥₁_elim p.laid (AllByRecursion-prop (NotTruncated p.file_length p.record_size p.records) (λ e. within-prop e) es) (λ laid. laid.rules.not_truncated);
  }
    where
      within-prop : (e : Extent) → IsProp (NotTruncated p.file_length p.record_size p.records e)
      within-prop e =
          let fixed-prop : IsProp (end e ≤ p.file_length) = hlevel props in
          by_kind-prop e.is_record _ _ (last_within-prop p.file_length p.record_size p.records e) fixed-prop

  sizes_are : AreSized (record_size_of_file p) (vars_of p)
  sizes_are = record {
    each = ∥∥₁_elim p.sized (AllByRecursion-prop (λ (x : PlacedVar). up x.extent.slab ≤ room) (λ x. hlevel props) (vars_of p)) (λ sized. sized.each);
    together = ∥∥₁_elim p.sized (hlevel props) (λ sized. sized.together);
    record_size_is = ∥∥₁_elim p.sized (hlevel props) (λ sized. sized.record_size_is);
  }

  pub keeps_rules : KeepsRules p
  keeps_rules = record {
    shaped = ∥∥₁_elim p.laid (AllByRecursion-prop (HasShape p.records) (λ (x : PlacedVar). shape-prop p.records (size_of x.xtype) x.extent.slab x.extent.is_record x.shape) (vars_of p)) (λ laid. laid.shaped);
    numbered = numbered;
    rules = all_rules;
    sized = sizes_are;
  }
