-- There is no fault where all rules hold, and one first fault at most.
use Rattle.std.proofs.Common.{◌≡◌, ℕ, zero, suc, ◌+◌, ◌<◌, ◌≤◌, Bool, not, List, [], ◌∷◌, take, refl, sym, ap, subst, ◌∙◌, arith, ◌⊎◌, inl, inr, map-id}
use Rattle.std.specs.Prelude.{filter}
use Rattle.std.specs.List.{AllByRecursion}
use Rattle.std.proofs.lemmas.Bool.{cases_lt}
use Rattle.std.proofs.lemmas.List.{take-take}
use Rattle.ncc_schema.specs.declared.schema.Dim.{Dim}
use Rattle.ncc_schema.specs.declared.schema.Var.{Var}
use Rattle.ncc_schema.specs.declared.schema.Schema.{Schema}
use Rattle.ncc_schema.specs.Schema.{Place}
use Rattle.ncc_layout.specs.declared.extent.Extent.{Extent}
use Rattle.ncc_layout.specs.declared.fault.LayoutFaultKind.{LayoutFaultKind}
use Rattle.ncc_layout.specs.declared.fault.LayoutFaultKind.TheVariants.{TooLarge, InHeader, Overlap, RecordWindow, FixedAfterRecords, Truncated}
use Rattle.ncc_layout.specs.Sizes.{rounded, room, record_size_of, NoneTooLarge, FirstTooLarge}
use Rattle.ncc_layout.specs.Extents.{NumberedFrom, extents_of, fixed_of, records_of, record_count}
use Rattle.ncc_layout.specs.Rules.InHeader.{NotInHeader}
use Rattle.ncc_layout.specs.Rules.Overlap.{NoOverlap}
use Rattle.ncc_layout.specs.Rules.RecordWindow.{InRecordWindow}
use Rattle.ncc_layout.specs.Rules.FixedAfterRecords.{NotFixedAfterRecords}
use Rattle.ncc_layout.specs.Rules.Truncated.{NotTruncated}
use Rattle.ncc_layout.specs.Rules.{IsPlaced}
use Rattle.ncc_layout.specs.Faults.{FailsFirst, FirstFault}
use Rattle.ncc_layout.specs.Rules.Overlap.{Before, FirstShared, FirstOverlap}
use Rattle.ncc_layout.proofs.Membership.{In, in_from_contains, filter_in}
use Rattle.ncc_layout.proofs.Laying.{numbered}
use Rattle.ncc_layout.proofs.Own.{one_numbered}
use Rattle.ncc_layout.proofs.StandardPlaces.{record_sum_first}

-- ---- the first for which a rule fails

pub fails_not_all : {A : Type 0} (rule : A → Type 0) (items : List A) (n : ℕ) → FailsFirst rule items n → AllByRecursion rule items → ⊥
fails_not_all rule [] n h all = absurd h
fails_not_all rule (a ∷ items) zero h all = h all.0
fails_not_all rule (a ∷ items) (suc n) h all = fails_not_all rule items n h.1 all.1

fails_once : {A : Type 0} (rule : A → Type 0) (items : List A) (m n : ℕ) → FailsFirst rule items m → FailsFirst rule items n → m ≡ n
fails_once rule [] m n h k = absurd h
fails_once rule (a ∷ items) zero zero h k = refl
fails_once rule (a ∷ items) zero (suc n) h k = absurd (h k.0)
fails_once rule (a ∷ items) (suc m) zero h k = absurd (k h.0)
fails_once rule (a ∷ items) (suc m) (suc n) h k = ap suc (fails_once rule items m n h.1 k.1)

-- ---- sizes

all_take : {A : Type 0} (P : A → Type 0) (n : ℕ) (xs : List A) → AllByRecursion P xs → AllByRecursion P (take n xs)
all_take P zero xs all = tt
all_take P (suc n) [] all = tt
all_take P (suc n) (x ∷ xs) all = (all.0, all_take P n xs all.1)

pub fit_take : (dims : List Dim) (vars : List Var) (n : ℕ) → NoneTooLarge dims vars → NoneTooLarge dims (take n vars)
fit_take dims vars n fit = record {
  each = all_take (λ x. rounded dims x ≤ room) n vars fit.each;
  together = omega (arith, record_sum_first dims n vars, fit.together);
}

not_sooner : (s : Schema) (m n : ℕ) → FirstTooLarge s m → FirstTooLarge s n → m < n → ⊥
not_sooner s m n h k less = h.here (subst (NoneTooLarge s.dims) (take-take (m + 1) n s.vars (omega (arith, less))) (fit_take s.dims (take n s.vars) (m + 1) k.before))

one_number : (m n : ℕ) → (m < n → ⊥) → (n < m → ⊥) → m ≡ n
one_number m n h k = by_order (cases_lt m n) (cases_lt n m)
  where
    by_order : (m < n) ⊎ (n ≤ m) → (n < m) ⊎ (m ≤ n) → m ≡ n
    by_order (inl l) b = absurd (h l)
    by_order (inr l) (inl j) = absurd (k j)
    by_order (inr l) (inr j) = omega (arith, l, j)

-- ---- shared bytes

one_extent : (es : List Extent) (x y : Extent) → NumberedFrom 0 es → In es x → In es y → x.variable ≡ y.variable → x ≡ y
one_extent es x y h = one_numbered (λ e. e) 0 es x y (subst (NumberedFrom 0) (sym (map-id es)) h)

pub not_before_itself : (x : Extent) → Before x x → ⊥
not_before_itself x (inl l) = omega (arith, l)
not_before_itself x (inr l) = omega (arith, l.1)

pub order : (x y : Extent) → Before x y ⊎ (Before y x ⊎ (x.variable ≡ y.variable))
order x y = by_begin (cases_lt x.begin y.begin) (cases_lt y.begin x.begin) (cases_lt x.variable y.variable) (cases_lt y.variable x.variable)
  where
    by_begin : (x.begin < y.begin) ⊎ (y.begin ≤ x.begin) → (y.begin < x.begin) ⊎ (x.begin ≤ y.begin) → (x.variable < y.variable) ⊎ (y.variable ≤ x.variable) → (y.variable < x.variable) ⊎ (x.variable ≤ y.variable)
        → Before x y ⊎ (Before y x ⊎ (x.variable ≡ y.variable))
    by_begin (inl a) b c d = inl (inl a)
    by_begin (inr a) (inl b) c d = inr (inl (inl b))
    by_begin (inr a) (inr b) (inl c) d = inl (inr (omega (arith, a, b), c))
    by_begin (inr a) (inr b) (inr c) (inl d) = inr (inl (inr (omega (arith, a, b), d)))
    by_begin (inr a) (inr b) (inr c) (inr d) = inr (inr (omega (arith, c, d)))

pub one_shared : (es : List Extent) (m n : ℕ) → FirstShared es m → FirstShared es n → m ≡ n
one_shared es m n h k = by_order (order h.later k.later)
  where
    by_order : Before h.later k.later ⊎ (Before k.later h.later ⊎ (h.later.variable ≡ k.later.variable)) → m ≡ n
    by_order (inl before) = absurd (h.shared (k.first h.earlier h.later h.earlier_there h.later_there h.ordered before))
    by_order (inr (inl before)) = absurd (k.shared (h.first k.earlier k.later k.earlier_there k.later_there k.ordered before))
    by_order (inr (inr same)) = sym h.number_is ∙ same ∙ k.number_is

shared_not_apart : (p : Extent → Bool) (es : List Extent) (n : ℕ) → NumberedFrom 0 es → FirstShared (filter p es) n → NoOverlap (filter p es) → ⊥
shared_not_apart p es n h shared apart =
    shared.shared (apart shared.earlier shared.later shared.earlier_there shared.later_there (λ same.
    let x = (filter_in p es shared.earlier (in_from_contains (filter p es) shared.earlier shared.earlier_there)).0 in
    let y = (filter_in p es shared.later (in_from_contains (filter p es) shared.later shared.later_there)).0 in
    let one = one_extent es shared.earlier shared.later h x y same in
    not_before_itself shared.later (subst (λ (z : Extent). Before z shared.later) one shared.ordered)))

overlap_not_apart : (es : List Extent) (n : ℕ) → NumberedFrom 0 es → FirstOverlap es n → NoOverlap (fixed_of es) × NoOverlap (records_of es) → ⊥
overlap_not_apart es n h (inl shared) apart = shared_not_apart (λ (e : Extent). not e.is_record) es n h shared apart.0
overlap_not_apart es n h (inr shared) apart = shared_not_apart (λ (e : Extent). e.is_record) es n h shared.1 apart.1

one_overlap : (es : List Extent) (m n : ℕ) → NumberedFrom 0 es → FirstOverlap es m → FirstOverlap es n → m ≡ n
one_overlap es m n h (inl a) (inl b) = one_shared (fixed_of es) m n a b
one_overlap es m n h (inl a) (inr b) = absurd (shared_not_apart (λ (e : Extent). not e.is_record) es m h a b.0)
one_overlap es m n h (inr a) (inl b) = absurd (shared_not_apart (λ (e : Extent). not e.is_record) es n h b a.0)
one_overlap es m n h (inr a) (inr b) = one_shared (records_of es) m n a.1 b.1

-- ---- the rules by their places

place_of_rule : LayoutFaultKind → ℕ
place_of_rule TooLarge = 0
place_of_rule InHeader = 1
place_of_rule Overlap = 2
place_of_rule RecordWindow = 3
place_of_rule FixedAfterRecords = 4
place_of_rule Truncated = 5

rule_at : ℕ → LayoutFaultKind
rule_at zero = TooLarge
rule_at (suc zero) = InHeader
rule_at (suc (suc zero)) = Overlap
rule_at (suc (suc (suc zero))) = RecordWindow
rule_at (suc (suc (suc (suc zero)))) = FixedAfterRecords
rule_at (suc (suc (suc (suc (suc n))))) = Truncated

there_and_back : (kind : LayoutFaultKind) → rule_at (place_of_rule kind) ≡ kind
unfolding rule_at place_of_rule
there_and_back TooLarge = refl
there_and_back InHeader = refl
there_and_back Overlap = refl
there_and_back RecordWindow = refl
there_and_back FixedAfterRecords = refl
there_and_back Truncated = refl

module _ (s : Schema) (places : List Place) (header file : ℕ) where
  abbrev es : List Extent
  es = extents_of s places

  abbrev within : Extent → Type 0
  within = NotTruncated file (record_size_of s) (record_count s places file)

  RuleHolds : LayoutFaultKind → Type 0
  RuleHolds TooLarge = NoneTooLarge s.dims s.vars
  RuleHolds InHeader = AllByRecursion (NotInHeader header) es
  RuleHolds Overlap = NoOverlap (fixed_of es) × NoOverlap (records_of es)
  RuleHolds RecordWindow = AllByRecursion (InRecordWindow (record_size_of s) es) es
  RuleHolds FixedAfterRecords = AllByRecursion (NotFixedAfterRecords es) es
  RuleHolds Truncated = AllByRecursion within es

  in_order : NumberedFrom 0 es
  in_order = numbered s.dims 0 s.vars places

  broken : (kind : LayoutFaultKind) (n : ℕ) → FirstFault s places header file kind n → RuleHolds kind → ⊥
  unfolding RuleHolds
  broken TooLarge n h holds = h.here (fit_take s.dims s.vars (n + 1) holds)
  broken InHeader n h holds = fails_not_all (NotInHeader header) es n h.1 holds
  broken Overlap n h holds = overlap_not_apart es n in_order h.1.1 holds
  broken RecordWindow n h holds = fails_not_all (InRecordWindow (record_size_of s) es) es n h.1.3 holds
  broken FixedAfterRecords n h holds = fails_not_all (NotFixedAfterRecords es) es n h.1.4 holds
  broken Truncated n h holds = fails_not_all within es n h.1.5 holds

  all_hold : (kind : LayoutFaultKind) → IsPlaced s places header file → RuleHolds kind
  unfolding RuleHolds
  all_hold TooLarge h = h.none_too_large
  all_hold InHeader h = h.rules.not_in_header
  all_hold Overlap h = (h.rules.no_fixed_overlap, h.rules.no_record_overlap)
  all_hold RecordWindow h = h.rules.in_record_window
  all_hold FixedAfterRecords h = h.rules.not_fixed_after_records
  all_hold Truncated h = h.rules.not_truncated

  pub no_fault : (kind : LayoutFaultKind) (n : ℕ) → IsPlaced s places header file → FirstFault s places header file kind n → ⊥
  no_fault kind n placed h = broken kind n h (all_hold kind placed)

  -- the rules before the one that fails hold
  before : (kind : LayoutFaultKind) (n : ℕ) → FirstFault s places header file kind n → (p : ℕ) → p < place_of_rule kind → RuleHolds (rule_at p)
  unfolding RuleHolds rule_at place_of_rule
  before TooLarge n h p less = absurd (omega (arith, less))
  before InHeader n h zero less = h.0
  before InHeader n h (suc p) less = absurd (omega (arith, less))
  before Overlap n h zero less = h.0
  before Overlap n h (suc zero) less = h.1.0
  before Overlap n h (suc (suc p)) less = absurd (omega (arith, less))
  before RecordWindow n h zero less = h.0
  before RecordWindow n h (suc zero) less = h.1.0
  before RecordWindow n h (suc (suc zero)) less = (h.1.1, h.1.2)
  before RecordWindow n h (suc (suc (suc p))) less = absurd (omega (arith, less))
  before FixedAfterRecords n h zero less = h.0
  before FixedAfterRecords n h (suc zero) less = h.1.0
  before FixedAfterRecords n h (suc (suc zero)) less = (h.1.1, h.1.2)
  before FixedAfterRecords n h (suc (suc (suc zero))) less = h.1.3
  before FixedAfterRecords n h (suc (suc (suc (suc p)))) less = absurd (omega (arith, less))
  before Truncated n h zero less = h.0
  before Truncated n h (suc zero) less = h.1.0
  before Truncated n h (suc (suc zero)) less = (h.1.1, h.1.2)
  before Truncated n h (suc (suc (suc zero))) less = h.1.3
  before Truncated n h (suc (suc (suc (suc zero)))) less = h.1.4
  before Truncated n h (suc (suc (suc (suc (suc p))))) less = absurd (omega (arith, less))

  not_later : (kind other : LayoutFaultKind) (m n : ℕ) → FirstFault s places header file kind m → FirstFault s places header file other n → place_of_rule kind < place_of_rule other → ⊥
  not_later kind other m n h k less = broken kind m h (subst RuleHolds (there_and_back kind) (before other n k (place_of_rule kind) less))

  one_kind : (kind other : LayoutFaultKind) (m n : ℕ) → FirstFault s places header file kind m → FirstFault s places header file other n → kind ≡ other
  one_kind kind other m n h k =
      let same : place_of_rule kind ≡ place_of_rule other = one_number (place_of_rule kind) (place_of_rule other) (not_later kind other m n h k) (not_later other kind n m k h) in
      sym (there_and_back kind) ∙ ap rule_at same ∙ there_and_back other

  one_variable : (kind : LayoutFaultKind) (m n : ℕ) → FirstFault s places header file kind m → FirstFault s places header file kind n → m ≡ n
  one_variable TooLarge m n h k = one_number m n (not_sooner s m n h k) (not_sooner s n m k h)
  one_variable InHeader m n h k = fails_once (NotInHeader header) es m n h.1 k.1
  one_variable Overlap m n h k = one_overlap es m n in_order h.1.1 k.1.1
  one_variable RecordWindow m n h k = fails_once (InRecordWindow (record_size_of s) es) es m n h.1.3 k.1.3
  one_variable FixedAfterRecords m n h k = fails_once (NotFixedAfterRecords es) es m n h.1.4 k.1.4
  one_variable Truncated m n h k = fails_once within es m n h.1.5 k.1.5

  pub one_first_fault : (kind other : LayoutFaultKind) (m n : ℕ) → FirstFault s places header file kind m → FirstFault s places header file other n → (kind ≡ other) × (m ≡ n)
  one_first_fault kind other m n h k =
      let same = one_kind kind other m n h k in
      (same, one_variable other m n (subst (λ (l : LayoutFaultKind). FirstFault s places header file l m) same h) k)
