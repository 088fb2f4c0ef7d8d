-- A file keeps all layout rules, or one of them fails first.
use Rattle.std.proofs.Common.{◌≡◌, ℕ, zero, suc, ◌+◌, ◌<◌, ◌≤◌, max, Bool, true, false, List, [], ◌∷◌, length, take, refl, sym, subst, arith, ◌⊎◌, inl, inr}
use Rattle.std.specs.List.{AllByRecursion}
use Rattle.std.proofs.lemmas.Bool.{cases_lt}
use Rattle.std.proofs.lemmas.List.{take_all}
use Rattle.ncc_schema.specs.declared.schema.Dim.{Dim}
use Rattle.ncc_schema.specs.declared.schema.Var.{Var}
use Rattle.ncc_schema.specs.declared.schema.Schema.{Schema}
use Rattle.ncc_schema.specs.Schema.{Place}
use Rattle.ncc_layout.specs.declared.extent.Extent.{Extent}
use Rattle.ncc_layout.specs.declared.fault.LayoutFaultKind.{LayoutFaultKind}
use Rattle.ncc_layout.specs.declared.fault.LayoutFaultKind.TheVariants.{TooLarge, InHeader, Overlap, RecordWindow, FixedAfterRecords, Truncated}
use Rattle.ncc_layout.specs.Sizes.{rounded, room, record_sum, record_size_of, NoneTooLarge, FirstTooLarge}
use Rattle.ncc_layout.specs.Extents.{end, extents_of, fixed_of, records_of, record_count}
use Rattle.ncc_layout.specs.Rules.ByKind.{ByKind, EndsBy}
use Rattle.ncc_layout.specs.Rules.InHeader.{NotInHeader}
use Rattle.ncc_layout.specs.Rules.RecordWindow.{InRecordWindow}
use Rattle.ncc_layout.specs.Rules.FixedAfterRecords.{NotFixedAfterRecords}
use Rattle.ncc_layout.specs.Rules.Truncated.{LastNotTruncated, NotTruncated}
use Rattle.ncc_layout.specs.Rules.Overlap.{Apart, NoOverlap}
use Rattle.ncc_layout.specs.Rules.{IsPlaced}
use Rattle.ncc_layout.specs.Faults.{FailsFirst, FirstFault}
use Rattle.ncc_layout.specs.Rules.Overlap.{Before, FirstShared}
use Rattle.ncc_layout.proofs.Membership.{In, in_from_contains, contains_from_in}
use Rattle.ncc_layout.proofs.OneFault.{fails_not_all, not_before_itself, order}

abbrev Decided : Type 0 → Type 0
Decided P = P ⊎ (P → ⊥)

-- ---- one rule

first_or_all : {A : Type 0} (rule : A → Type 0) → ((a : A) → Decided (rule a)) → (items : List A) → AllByRecursion rule items ⊎ ((n : ℕ) × FailsFirst rule items n)
first_or_all rule decide [] = inl tt
first_or_all rule decide (a ∷ items) = by_head (decide a) (first_or_all rule decide items)
  where
    by_head : Decided (rule a) → AllByRecursion rule items ⊎ ((n : ℕ) × FailsFirst rule items n) → AllByRecursion rule (a ∷ items) ⊎ ((n : ℕ) × FailsFirst rule (a ∷ items) n)
    by_head (inr breaks) rest = inr (zero, breaks)
    by_head (inl holds) (inl all) = inl (holds, all)
    by_head (inl holds) (inr first) = inr (suc first.0, (holds, first.1))

all_decided : {A : Type 0} (rule : A → Type 0) → ((a : A) → Decided (rule a)) → (items : List A) → Decided (AllByRecursion rule items)
all_decided rule decide items = by_first (first_or_all rule decide items)
  where
    by_first : AllByRecursion rule items ⊎ ((n : ℕ) × FailsFirst rule items n) → Decided (AllByRecursion rule items)
    by_first (inl all) = inl all
    by_first (inr first) = inr (λ all. fails_not_all rule items first.0 first.1 all)

at_most : (m n : ℕ) → Decided (m ≤ n)
at_most m n = by_order (cases_lt n m)
  where
    by_order : (n < m) ⊎ (m ≤ n) → Decided (m ≤ n)
    by_order (inl more) = inr (λ le. omega (arith, more, le))
    by_order (inr le) = inl le

by_kind : (is_record : Bool) (P Q : Type 0) → Decided P → Decided Q → Decided (ByKind is_record P Q)
by_kind true P Q p q = p
by_kind false P Q p q = q

ends_by : (further : ℕ) (records : List Extent) (e : Extent) → Decided (EndsBy further records e)
ends_by further records e = all_decided (λ (r : Extent). end e ≤ r.begin + further) (λ r. at_most (end e) (r.begin + further)) records

within : (file record_size records : ℕ) (e : Extent) → Decided (LastNotTruncated file record_size records e)
within file record_size zero e = inl tt
within file record_size (suc n) e = at_most _ file

-- ---- two that share a byte

apart_or_not : (d e : Extent) → Decided (Apart d e)
apart_or_not d e = by_ends (cases_lt (max d.begin e.begin) (end d)) (cases_lt (max d.begin e.begin) (end e))
  where
    by_ends : (max d.begin e.begin < end d) ⊎ (end d ≤ max d.begin e.begin) → (max d.begin e.begin < end e) ⊎ (end e ≤ max d.begin e.begin) → Decided (Apart d e)
    by_ends (inl a) (inl b) = inr (λ apart. apart (max d.begin e.begin) (omega arith) a (omega arith) b)
    by_ends (inr a) other = inl (λ byte from_d by_d from_e by_e. omega (arith, a, from_d, by_d, from_e))
    by_ends (inl a) (inr b) = inl (λ byte from_d by_d from_e by_e. omega (arith, b, from_d, from_e, by_e))

before_or_not : (d e : Extent) → Decided (Before d e)
before_or_not d e = by_order (cases_lt d.begin e.begin) (cases_lt e.begin d.begin) (cases_lt d.variable e.variable)
  where
    not_less : e.begin ≤ d.begin → (d.begin ≡ e.begin → d.variable < e.variable → ⊥) → Before d e → ⊥
    not_less le breaks (inl less) = omega (arith, le, less)
    not_less le breaks (inr same) = breaks same.0 same.1

    by_order : (d.begin < e.begin) ⊎ (e.begin ≤ d.begin) → (e.begin < d.begin) ⊎ (d.begin ≤ e.begin) → (d.variable < e.variable) ⊎ (e.variable ≤ d.variable) → Decided (Before d e)
    by_order (inl a) b c = inl (inl a)
    by_order (inr a) (inl b) c = inr (not_less a (λ same less. omega (arith, b, same)))
    by_order (inr a) (inr b) (inl c) = inl (inr (omega (arith, a, b), c))
    by_order (inr a) (inr b) (inr c) = inr (not_less a (λ same less. omega (arith, c, less)))

before_both : (x y z : Extent) → Before x y → Before y z → Before x z
before_both x y z (inl a) (inl b) = inl (omega (arith, a, b))
before_both x y z (inl a) (inr b) = inl (omega (arith, a, b.0))
before_both x y z (inr a) (inl b) = inl (omega (arith, a.0, b))
before_both x y z (inr a) (inr b) = inr (omega (arith, a.0, b.0), omega (arith, a.1, b.1))

-- it shares a byte with one of these before it
abbrev Shares : List Extent → Extent → Type 0
Shares es e = (d : Extent) × In es d × Before d e × (Apart d e → ⊥)

shares_or_not : (es : List Extent) (e : Extent) → Decided (Shares es e)
shares_or_not [] e = inr (λ shares. absurd shares.1)
shares_or_not (x ∷ es) e = by_first (before_or_not x e) (apart_or_not x e) (shares_or_not es e)
  where
    neither : (Before x e → Apart x e) → (Shares es e → ⊥) → Shares (x ∷ es) e → ⊥
    neither apart rest (d, inl is, before, shared) = shared (subst (λ (y : Extent). Apart y e) is (apart (subst (λ (y : Extent). Before y e) (sym is) before)))
    neither apart rest (d, inr there, before, shared) = rest (d, there, before, shared)

    by_first : Decided (Before x e) → Decided (Apart x e) → Decided (Shares es e) → Decided (Shares (x ∷ es) e)
    by_first before apart (inl rest) = inl (rest.0, inr rest.1, rest.2, rest.3)
    by_first (inl before) (inr shared) (inr rest) = inl (x, inl refl, before, shared)
    by_first (inr later) apart (inr rest) = inr (neither (λ before. absurd (later before)) rest)
    by_first (inl before) (inl apart) (inr rest) = inr (neither (λ b. apart) rest)

-- the first of these that has it, or none has it
abbrev Earliest : (has : Extent → Type 0) → List Extent → Type 0
Earliest has es = (e : Extent) × In es e × has e × ((x : Extent) → In es x → has x → Before x e → ⊥)

earliest_or_none : (has : Extent → Type 0) → ((e : Extent) → Decided (has e)) → (es : List Extent) → Earliest has es ⊎ ((e : Extent) → In es e → has e → ⊥)
earliest_or_none has decide [] = inr (λ e there it. absurd there)
earliest_or_none has decide (x ∷ es) = by_first (decide x) (earliest_or_none has decide es)
  where
    no_other : ((e : Extent) → In es e → has e → ⊥) → (y : Extent) → In (x ∷ es) y → has y → Before y x → ⊥
    no_other none y (inl is) it before = not_before_itself x (subst (λ (z : Extent). Before z x) (sym is) before)
    no_other none y (inr there) it before = none y there it

    none_of : (has x → ⊥) → ((e : Extent) → In es e → has e → ⊥) → (y : Extent) → In (x ∷ es) y → has y → ⊥
    none_of breaks none y (inl is) it = breaks (subst has (sym is) it)
    none_of breaks none y (inr there) it = none y there it

    sooner : (rest : Earliest has es) → Before x rest.0 → (y : Extent) → In (x ∷ es) y → has y → Before y x → ⊥
    sooner rest first y (inl is) it before = not_before_itself x (subst (λ (z : Extent). Before z x) (sym is) before)
    sooner rest first y (inr there) it before = rest.3 y there it (before_both y x rest.0 before first)

    still : (rest : Earliest has es) → (has x → Before x rest.0 → ⊥) → (y : Extent) → In (x ∷ es) y → has y → Before y rest.0 → ⊥
    still rest breaks y (inl is) it before = breaks (subst has (sym is) it) (subst (λ (z : Extent). Before z rest.0) (sym is) before)
    still rest breaks y (inr there) it before = rest.3 y there it before

    by_both : has x → (rest : Earliest has es) → Decided (Before x rest.0) → Earliest has (x ∷ es)
    by_both holds rest (inl first) = (x, inl refl, holds, sooner rest first)
    by_both holds rest (inr later) = (rest.0, inr rest.1, rest.2, still rest (λ it before. later before))

    by_first : Decided (has x) → Earliest has es ⊎ ((e : Extent) → In es e → has e → ⊥) → Earliest has (x ∷ es) ⊎ ((e : Extent) → In (x ∷ es) e → has e → ⊥)
    by_first (inl holds) (inl rest) = inl (by_both holds rest (before_or_not x rest.0))
    by_first (inr breaks) (inl rest) = inl (rest.0, inr rest.1, rest.2, still rest (λ it before. breaks it))
    by_first (inl holds) (inr none) = inl (x, inl refl, holds, no_other none)
    by_first (inr breaks) (inr none) = inr (none_of breaks none)

apart_or_shared : (es : List Extent) → NoOverlap es ⊎ ((n : ℕ) × FirstShared es n)
apart_or_shared es = by_earliest (earliest_or_none (Shares es) (shares_or_not es) es)
  where
    pair_apart : ((e : Extent) → In es e → Shares es e → ⊥) → (d e : Extent) → In es d → In es e → Before d e → Apart d e
    pair_apart none d e d_in e_in before = by_apart (apart_or_not d e)
      where
        by_apart : Decided (Apart d e) → Apart d e
        by_apart (inl apart) = apart
        by_apart (inr shared) = absurd (none e e_in (d, d_in, before, shared))

    all_apart : ((e : Extent) → In es e → Shares es e → ⊥) → NoOverlap es
    all_apart none d e d_there e_there other = by_order (order d e)
      where
        d_in : In es d
        d_in = in_from_contains es d d_there

        e_in : In es e
        e_in = in_from_contains es e e_there

        by_order : Before d e ⊎ (Before e d ⊎ (d.variable ≡ e.variable)) → Apart d e
        by_order (inl before) = pair_apart none d e d_in e_in before
        by_order (inr (inl after)) = λ byte from_d by_d from_e by_e. pair_apart none e d e_in d_in after byte from_e by_e from_d by_d
        by_order (inr (inr same)) = absurd (other same)

    first_apart : (later : Earliest (Shares es) es) → (d e : Extent) → In es d → In es e → Before d e → Before e later.0 → Apart d e
    first_apart later d e d_in e_in before sooner = by_apart (apart_or_not d e)
      where
        by_apart : Decided (Apart d e) → Apart d e
        by_apart (inl apart) = apart
        by_apart (inr shared) = absurd (later.3 e e_in (d, d_in, before, shared) sooner)

    by_earliest : Earliest (Shares es) es ⊎ ((e : Extent) → In es e → Shares es e → ⊥) → NoOverlap es ⊎ ((n : ℕ) × FirstShared es n)
    by_earliest (inr none) = inl (all_apart none)
    by_earliest (inl later) = inr (
      later.0.variable,
      record {
        earlier = later.2.0;
        later = later.0;
        earlier_there = contains_from_in es later.2.0 later.2.1;
        later_there = contains_from_in es later.0 later.1;
        number_is = refl;
        ordered = later.2.2;
        shared = later.2.3;
        first = λ d e d_there e_there before sooner. first_apart later d e (in_from_contains es d d_there) (in_from_contains es e e_there) before sooner;
      },
    )

-- ---- sizes

fit_or_not : (dims : List Dim) (vars : List Var) → Decided (NoneTooLarge dims vars)
fit_or_not dims vars = by_both (all_decided (λ x. rounded dims x ≤ room) (λ x. at_most (rounded dims x) room) vars) (at_most (record_sum dims vars) room)
  where
    by_both : Decided (AllByRecursion (λ x. rounded dims x ≤ room) vars) → Decided (record_sum dims vars ≤ room) → Decided (NoneTooLarge dims vars)
    by_both (inl each) (inl together) = inl (record { each = each; together = together })
    by_both (inr breaks) together = inr (λ fit. breaks fit.each)
    by_both (inl each) (inr breaks) = inr (λ fit. breaks fit.together)

fit_or_first : (s : Schema) (more done : ℕ) → done + more ≡ length s.vars → NoneTooLarge s.dims (take done s.vars) → NoneTooLarge s.dims s.vars ⊎ ((n : ℕ) × FirstTooLarge s n)
fit_or_first s zero done all fit = inl (subst (NoneTooLarge s.dims) (take_all done s.vars (omega (arith, all))) fit)
fit_or_first s (suc more) done all fit = by_next (fit_or_not s.dims (take (done + 1) s.vars)) (λ fits. fit_or_first s more (done + 1) (omega (arith, all)) fits)
  where
    by_next : Decided (NoneTooLarge s.dims (take (done + 1) s.vars)) → (NoneTooLarge s.dims (take (done + 1) s.vars) → NoneTooLarge s.dims s.vars ⊎ ((n : ℕ) × FirstTooLarge s n)) → NoneTooLarge s.dims s.vars ⊎ ((n : ℕ) × FirstTooLarge s n)
    by_next (inl fits) rest = rest fits
    by_next (inr breaks) rest = inr (done, record { there = omega (arith, all); before = fit; here = breaks })

-- ---- all rules

module _ (s : Schema) (places : List Place) (header file : ℕ) where
  abbrev es : List Extent
  es = extents_of s places

  abbrev size : ℕ
  size = record_size_of s

  abbrev records : ℕ
  records = record_count s places file

  abbrev Either : Type 0
  Either = IsPlaced s places header file ⊎ ((kind : LayoutFaultKind) × (n : ℕ) × FirstFault s places header file kind n)

  by_within : NoneTooLarge s.dims s.vars → AllByRecursion (NotInHeader header) es → NoOverlap (fixed_of es) → NoOverlap (records_of es) → AllByRecursion (InRecordWindow size es) es → AllByRecursion (NotFixedAfterRecords es) es
      → AllByRecursion (NotTruncated file size records) es ⊎ ((n : ℕ) × FailsFirst (NotTruncated file size records) es n) → Either
  by_within fit past fixed of_records window first (inl all) = inl (record {
    none_too_large = fit;
    rules = record { not_in_header = past; no_fixed_overlap = fixed; no_record_overlap = of_records; in_record_window = window; not_fixed_after_records = first; not_truncated = all };
  })
  by_within fit past fixed of_records window first (inr fails) = inr (Truncated, fails.0, (fit, (past, fixed, of_records, window, first, fails.1)))

  by_first : NoneTooLarge s.dims s.vars → AllByRecursion (NotInHeader header) es → NoOverlap (fixed_of es) → NoOverlap (records_of es) → AllByRecursion (InRecordWindow size es) es
      → AllByRecursion (NotFixedAfterRecords es) es ⊎ ((n : ℕ) × FailsFirst (NotFixedAfterRecords es) es n) → Either
  by_first fit past fixed of_records window (inl all) =
      by_within fit past fixed of_records window all
      (first_or_all (NotTruncated file size records) (λ e. by_kind e.is_record (LastNotTruncated file size records e) (end e ≤ file) (within file size records e) (at_most (end e) file)) es)
  by_first fit past fixed of_records window (inr fails) = inr (FixedAfterRecords, fails.0, (fit, (past, fixed, of_records, window, fails.1)))

  by_window : NoneTooLarge s.dims s.vars → AllByRecursion (NotInHeader header) es → NoOverlap (fixed_of es) → NoOverlap (records_of es)
      → AllByRecursion (InRecordWindow size es) es ⊎ ((n : ℕ) × FailsFirst (InRecordWindow size es) es n) → Either
  by_window fit past fixed of_records (inl all) =
      by_first fit past fixed of_records all
      (first_or_all (NotFixedAfterRecords es) (λ e. by_kind e.is_record (Unit {0}) (EndsBy 0 (records_of es) e) (inl tt) (ends_by 0 (records_of es) e)) es)
  by_window fit past fixed of_records (inr fails) = inr (RecordWindow, fails.0, (fit, (past, fixed, of_records, fails.1)))

  by_apart : NoneTooLarge s.dims s.vars → AllByRecursion (NotInHeader header) es → NoOverlap (fixed_of es) ⊎ ((n : ℕ) × FirstShared (fixed_of es) n) → NoOverlap (records_of es) ⊎ ((n : ℕ) × FirstShared (records_of es) n) → Either
  by_apart fit past (inl fixed) (inl of_records) =
      by_window fit past fixed of_records
      (first_or_all (InRecordWindow size es) (λ e. by_kind e.is_record (EndsBy size (records_of es) e) (Unit {0}) (ends_by size (records_of es) e) (inl tt)) es)
  by_apart fit past (inr shared) other = inr (Overlap, shared.0, (fit, (past, inl shared.1)))
  by_apart fit past (inl fixed) (inr shared) = inr (Overlap, shared.0, (fit, (past, inr (fixed, shared.1))))

  by_header : NoneTooLarge s.dims s.vars → AllByRecursion (NotInHeader header) es ⊎ ((n : ℕ) × FailsFirst (NotInHeader header) es n) → Either
  by_header fit (inl past) = by_apart fit past (apart_or_shared (fixed_of es)) (apart_or_shared (records_of es))
  by_header fit (inr fails) = inr (InHeader, fails.0, (fit, fails.1))

  by_sizes : NoneTooLarge s.dims s.vars ⊎ ((n : ℕ) × FirstTooLarge s n) → Either
  by_sizes (inl fit) = by_header fit (first_or_all (NotInHeader header) (λ e. at_most header e.begin) es)
  by_sizes (inr large) = inr (TooLarge, large.0, large.1)

  pub placed_or_first_fault : Either
  placed_or_first_fault = by_sizes (fit_or_first s (length s.vars) 0 (omega arith) (record { each = tt; together = omega arith }))
