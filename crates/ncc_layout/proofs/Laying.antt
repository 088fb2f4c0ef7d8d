-- The extents and the placed variables of a schema.
use Rattle.std.proofs.Common.{◌≡◌, ℕ, zero, suc, ◌+◌, ◌*◌, ◌<◌, ◌≤◌, ◌^◌, Bool, true, false, not, cond, List, [], ◌∷◌, ◌++◌, map, length, get_or, drop, drop-cons, Option, Some, None, refl, sym, ap, ap₂, subst, ◌∙◌, append_assoc, arith, inl, inr}
use Rattle.std.specs.Prelude.{filter, sum_by, ◌==◌, if◌then◌else◌}
use Rattle.std.specs.List.{AllByRecursion, IsDistinct}
use Rattle.std.proofs.lemmas.List.{get_or-map, length-map}
use Rattle.std.proofs.lemmas.List.Sums.{sum_by-cons}
use Rattle.std.proofs.lemmas.Map.Keys.{IsDistinct-cons}
use Rattle.ncc_values.specs.XType.{size_of}
use Rattle.ncc_schema.specs.declared.schema.Dim.{Dim}
use Rattle.ncc_schema.specs.declared.schema.Var.{Var}
use Rattle.ncc_schema.specs.declared.schema.VarPlace.{VarPlace}
use Rattle.ncc_schema.specs.declared.schema.Schema.{Schema}
use Rattle.ncc_schema.specs.Schema.{Place, place_of, places_of, count_limit, LegalDims, LegalVar, Sound, is_record_var}
use Rattle.ncc_layout.specs.declared.extent.Extent.{Extent}
use Rattle.ncc_layout.specs.declared.placed_var.PlacedVar.{PlacedVar}
use Rattle.ncc_layout.specs.Sizes.{up, product, inner, slab, rounded, record_vars, record_slabs, record_bytes, record_size_of, room, NoneTooLarge}
use Rattle.ncc_layout.specs.Extents.{extent_of, extents_from, extents_of, NumberedFrom, records_of, slabs_of_records, record_count}
use Rattle.ncc_layout.specs.Rules.InHeader.{NotInHeader}
use Rattle.ncc_layout.specs.Rules.RecordWindow.{InRecordWindow}
use Rattle.ncc_layout.specs.Rules.FixedAfterRecords.{NotFixedAfterRecords}
use Rattle.ncc_layout.specs.Rules.Truncated.{NotTruncated}
use Rattle.ncc_layout.specs.Rules.{Rules}
use Rattle.ncc_layout.specs.Faults.{FailsFirst, RuleFails, PlaceFails, FirstFault}
use Rattle.ncc_layout.specs.Rules.Overlap.{FirstShared, FirstOverlap}
use Rattle.ncc_layout.specs.declared.fault.LayoutFaultKind.{LayoutFaultKind}
use Rattle.ncc_layout.specs.declared.fault.LayoutFaultKind.TheVariants.{TooLarge, InHeader, Overlap, RecordWindow, FixedAfterRecords, Truncated}
use Rattle.ncc_values.specs.declared.version.Version.{Version}
use Rattle.ncc_values.specs.declared.version.Version.TheVariants.{V1, V2, V5}
use Rattle.ncc_layout.specs.Bounds.{HasBytes, AreNumbered, Judged}
use Rattle.ncc_layout.specs.declared.judging.Frame.{Frame}
use Rattle.ncc_layout.specs.declared.placed_file.Placed.{Placed}
use Rattle.ncc_layout.specs.Placed.{IsFrame, HasLaid, Holds}
use Rattle.ncc_layout.specs.Elements.{placed_var, placed_from, placed_on, placed_with, placed_vars, IsShaped, HasShape, AreLaid, AreSized}
use Rattle.ncc_layout.proofs.Membership.{In, in_from_contains, in_filter, filter_in, all_in}
use Rattle.ncc_layout.proofs.Positive.{slab_positive}
use Rattle.ncc_layout.proofs.Summing.{sum_of_slabs}

-- ---- one extent more

abbrev extent_with : (begin variable slab : ℕ) (b : Bool) → Extent
extent_with begin variable slab b = record { begin = begin; slab = slab; variable = variable; is_record = b }

pushed_is : (begin variable m n : ℕ) (b c : Bool) → m ≡ n → b ≡ c → extent_with begin variable m b ≡ extent_with begin variable n c
pushed_is begin variable m n b c e f = ap (λ (k : ℕ). extent_with begin variable k b) e ∙ ap (extent_with begin variable n) f

pub extent_pushed : (dims : List Dim) (vars : List Var) (places : List VarPlace) (slabs : List ℕ) (k : ℕ) (x : Var) (d : VarPlace) (b : Bool) (items total : List Extent)
    → k < length vars → k < length places → slabs ≡ map (slab dims) vars → x ≡ get_or vars k x → b ≡ is_record_var dims x
    → items ++ extents_from dims k (drop k vars) (drop k (places_of places)) ≡ total
    → (items ++ record { begin = (get_or places k d).begin; slab = get_or slabs k 0; variable = k; is_record = b } ∷ []) ++ extents_from dims (k + 1) (drop (k + 1) vars) (drop (k + 1) (places_of places)) ≡ total
extent_pushed dims vars places slabs k x d b items total below also sizes x_is b_is so_far =
    let v = get_or places k d in
    let next : suc k ≡ k + 1 = omega arith in
    let vars_split : drop k vars ≡ x ∷ drop (k + 1) vars = drop-cons vars k x below ∙ ap (λ (y : Var). y ∷ drop (suc k) vars) (sym x_is) ∙ ap (λ (n : ℕ). x ∷ drop n vars) next in
    let long : k < length (places_of places) = omega (arith, also, length-map places place_of) in
    let place_is : get_or (places_of places) k (place_of d) ≡ place_of v = get_or-map place_of places k d (place_of d) also in
    let places_split : drop k (places_of places) ≡ place_of v ∷ drop (k + 1) (places_of places) =
    drop-cons (places_of places) k (place_of d) long ∙ ap (λ (y : Place). y ∷ drop (suc k) (places_of places)) place_is ∙ ap (λ (n : ℕ). place_of v ∷ drop n (places_of places)) next in
    let slab_is : get_or slabs k 0 ≡ slab dims x = ap (λ (l : List ℕ). get_or l k 0) sizes ∙ get_or-map (slab dims) vars k x 0 below ∙ ap (slab dims) (sym x_is) in
    let rest = extents_from dims (k + 1) (drop (k + 1) vars) (drop (k + 1) (places_of places)) in
    let head : extents_from dims k (drop k vars) (drop k (places_of places)) ≡ extent_of dims k x (place_of v) ∷ rest =
    ap (λ (l : List Var). extents_from dims k l (drop k (places_of places))) vars_split
    ∙ ap (extents_from dims k (x ∷ drop (k + 1) vars)) places_split
    ∙ ap (λ (n : ℕ). extent_of dims k x (place_of v) ∷ extents_from dims n (drop (k + 1) vars) (drop (k + 1) (places_of places))) next in
    let pushed : extent_with v.begin k (get_or slabs k 0) b ≡ extent_of dims k x (place_of v) = pushed_is v.begin k (get_or slabs k 0) (slab dims x) b (is_record_var dims x) slab_is b_is in
    ap (λ (e : Extent). (items ++ e ∷ []) ++ rest) pushed
    ∙ append_assoc items (extent_of dims k x (place_of v) ∷ []) rest
    ∙ ap (λ (l : List Extent). items ++ l) (sym head)
    ∙ so_far

-- ---- numbers

pub numbered : (dims : List Dim) (n : ℕ) (vars : List Var) (places : List Place) → NumberedFrom n (extents_from dims n vars places)
numbered dims n [] places = tt
numbered dims n (x ∷ vars) [] = tt
numbered dims n (x ∷ vars) (p ∷ places) = (refl, numbered dims (suc n) vars places)

later_differ : (m n : ℕ) (es : List Extent) → m < n → NumberedFrom n es → AllByRecursion (λ e. (m == e.variable) ≡ false) es
later_differ m n [] less h = tt
later_differ m n (e ∷ es) less h = (grind (arith, h.0, less), later_differ m (suc n) es (omega (arith, less)) h.1)

pub numbers_differ : (n : ℕ) (es : List Extent) → NumberedFrom n es → AreNumbered es
unfolding IsDistinct
numbers_differ n [] h = tt
numbers_differ n (e ∷ es) h = IsDistinct-cons (λ (x y : Extent). x.variable == y.variable) e es (later_differ e.variable (suc n) es (omega (arith, h.0)) h.1) (numbers_differ (suc n) es h.1)

-- ---- placed variables

pub placed_same : (dims : List Dim) (records n : ℕ) (vars : List Var) (places : List Place) → placed_on dims records vars (extents_from dims n vars places) ≡ placed_from dims records n vars places
placed_same dims records n [] places = refl
placed_same dims records n (x ∷ vars) [] = refl
placed_same dims records n (x ∷ vars) (p ∷ places) = ap (λ (l : List PlacedVar). placed_var dims records n x p ∷ l) (placed_same dims records (suc n) vars places)

pub extents_same : (dims : List Dim) (records n : ℕ) (vars : List Var) (places : List Place) → map (λ y. y.extent) (placed_from dims records n vars places) ≡ extents_from dims n vars places
extents_same dims records n [] places = refl
extents_same dims records n (x ∷ vars) [] = refl
extents_same dims records n (x ∷ vars) (p ∷ places) = ap (λ (l : List Extent). extent_of dims n x p ∷ l) (extents_same dims records (suc n) vars places)

shaped_by : (b : Bool) (records size : ℕ) (ls : List ℕ) → IsShaped records size (product ls * size) b (if b then records ∷ ls else ls)
shaped_by true records size ls = (refl, refl)
shaped_by false records size ls = refl

shaped : (dims : List Dim) (records n : ℕ) (vars : List Var) (places : List Place) → AllByRecursion (HasShape records) (placed_from dims records n vars places)
shaped dims records n [] places = tt
shaped dims records n (x ∷ vars) [] = tt
shaped dims records n (x ∷ vars) (p ∷ places) = (shaped_by (is_record_var dims x) records (size_of x.xtype) (inner dims x), shaped dims records (suc n) vars places)

pub laid : (header length record_size records : ℕ) (s : Schema) (places : List Place) → Rules header length record_size records (extents_of s places) → AreLaid header length record_size records (placed_with s places records)
laid header length record_size records s places rules =
    let same = sym (extents_same s.dims records 0 s.vars places) in
    record {
      shaped = shaped s.dims records 0 s.vars places;
      numbered = subst (NumberedFrom 0) same (numbered s.dims 0 s.vars places);
      rules = subst (Rules header length record_size records) same rules;
    }

-- ---- sizes of placed variables

pub slab_kept : (dims : List Dim) (b : Bool) (e : Extent) (x : Var) (es : List Extent) (vars : List Var) → e.slab ≡ slab dims x → map (λ d. d.slab) es ≡ map (slab dims) vars
    → map (λ d. d.slab) (cond b (e ∷ es) es) ≡ map (slab dims) (cond b (x ∷ vars) vars)
slab_kept dims true e x es vars same rest = ap₂ (λ (m : ℕ) (l : List ℕ). m ∷ l) same rest
slab_kept dims false e x es vars same rest = rest

pub slabs_same : (dims : List Dim) (n : ℕ) (vars : List Var) (places : List Place) → length places ≡ length vars → slabs_of_records (extents_from dims n vars places) ≡ record_slabs dims vars
slabs_same dims n [] places e = refl
slabs_same dims n (x ∷ vars) [] e = absurd (omega (arith, e))
slabs_same dims n (x ∷ vars) (p ∷ places) e =
    slab_kept dims (is_record_var dims x) (extent_of dims n x p) x (records_of (extents_from dims (suc n) vars places)) (record_vars dims vars) refl
    (slabs_same dims (suc n) vars places (omega (arith, e)))

each_sized : (dims : List Dim) (records n : ℕ) (vars : List Var) (places : List Place) → AllByRecursion (λ x. rounded dims x ≤ room) vars → AllByRecursion (λ y. up y.extent.slab ≤ room) (placed_from dims records n vars places)
each_sized dims records n [] places all = tt
each_sized dims records n (x ∷ vars) [] all = tt
each_sized dims records n (x ∷ vars) (p ∷ places) all = (all.0, each_sized dims records (suc n) vars places all.1)

pub sized : (s : Schema) (places : List Place) (records : ℕ) → length places ≡ length s.vars → NoneTooLarge s.dims s.vars → AreSized (record_size_of s) (placed_with s places records)
sized s places records long fit =
    let slabs : slabs_of_records (map (λ y. y.extent) (placed_with s places records)) ≡ record_slabs s.dims s.vars =
    ap slabs_of_records (extents_same s.dims records 0 s.vars places) ∙ slabs_same s.dims 0 s.vars places long in
    record {
      each = each_sized s.dims records 0 s.vars places fit.each;
      together = omega (arith, fit.together, ap (sum_by up) slabs, sum_of_slabs s.dims (record_vars s.dims s.vars));
      record_size_is = ap record_bytes (sym slabs);
    }

-- ---- what holds of each extent

all_in_list : {A : Type 0} (P : A → Type 0) (xs : List A) → ((a : A) → In xs a → P a) → AllByRecursion P xs
all_in_list P [] h = tt
all_in_list P (x ∷ xs) h = (h x (inl refl), all_in_list P xs (λ a there. h a (inr there)))

dims_legal : (v : Version) (dims : List Dim) (vars : List Var) → AllByRecursion (LegalVar v dims) vars → AllByRecursion (λ x. LegalDims dims x.dims) vars
dims_legal v dims [] all = tt
dims_legal v dims (x ∷ vars) all = (all.0.dimids, dims_legal v dims vars all.1)

small_count : (v : Version) → count_limit v ≤ 2 ^ 63
small_count V1 = omega arith
small_count V2 = omega arith
small_count V5 = omega arith

bytes_from : (dims : List Dim) (n : ℕ) (vars : List Var) (places : List Place) → AllByRecursion (λ x. LegalDims dims x.dims) vars → n + length vars ≤ 2 ^ 63 → AllByRecursion HasBytes (extents_from dims n vars places)
bytes_from dims n [] places all few = tt
bytes_from dims n (x ∷ vars) [] all few = tt
bytes_from dims n (x ∷ vars) (p ∷ places) all few =
    ((slab_positive dims x all.0, omega (arith, few)), bytes_from dims (suc n) vars places all.1 (omega (arith, few)))

pub extents_have_bytes : (s : Schema) (places : List Place) → Sound s → AllByRecursion HasBytes (extents_of s places)
extents_have_bytes s places sound = bytes_from s.dims 0 s.vars places (dims_legal s.version s.dims s.vars sound.vars) (omega (arith, sound.vars_number, small_count s.version))

slabs_have_bytes : (es : List Extent) → AllByRecursion HasBytes es → AllByRecursion (λ e. 0 < e.slab) es
slabs_have_bytes [] all = tt
slabs_have_bytes (e ∷ es) all = (all.0.0, slabs_have_bytes es all.1)

pub none_is_empty : (s : Schema) (places : List Place) → Sound s → AllByRecursion (λ e. 0 < e.slab) (extents_of s places)
none_is_empty s places sound = slabs_have_bytes (extents_of s places) (extents_have_bytes s places sound)

record_bytes_positive : (dims : List Dim) (rs : List Var) (x : Var) → In rs x → AllByRecursion (λ y. 0 < slab dims y) rs → 0 < record_bytes (map (slab dims) rs)
record_bytes_positive dims [] x there all = absurd there
record_bytes_positive dims (y ∷ []) x there all = all.0
record_bytes_positive dims (y ∷ z ∷ rs) x there all = omega (arith, all.0, sum_by-cons up (slab dims y) (map (slab dims) (z ∷ rs)))

extent_var : (dims : List Dim) (n : ℕ) (vars : List Var) (places : List Place) (e : Extent) → In (extents_from dims n vars places) e → (x : Var) × In vars x × (is_record_var dims x ≡ e.is_record)
extent_var dims n [] places e there = absurd there
extent_var dims n (x ∷ vars) [] e there = absurd there
extent_var dims n (x ∷ vars) (p ∷ places) e (inl same) = (x, inl refl, ap (λ (d : Extent). d.is_record) same)
extent_var dims n (x ∷ vars) (p ∷ places) e (inr there) =
    let found = extent_var dims (suc n) vars places e there in
    (found.0, inr found.1, found.2)

pub records_have_bytes : (s : Schema) (places : List Place) → Sound s → AllByRecursion (λ e. 0 < record_size_of s) (records_of (extents_of s places))
records_have_bytes s places sound = all_in_list (λ (e : Extent). 0 < record_size_of s) (records_of (extents_of s places)) (λ e there.
    let kept = filter_in (λ (d : Extent). d.is_record) (extents_of s places) e there in
    let found = extent_var s.dims 0 s.vars places e kept.0 in
    let record_var = in_filter (is_record_var s.dims) s.vars found.0 (found.2 ∙ kept.1) found.1 in
    let legal = dims_legal s.version s.dims s.vars sound.vars in
    record_bytes_positive s.dims (record_vars s.dims s.vars) found.0 record_var
    (all_in_list (λ (y : Var). 0 < slab s.dims y) (record_vars s.dims s.vars) (λ y h.
    slab_positive s.dims y (all_in (λ (x : Var). LegalDims s.dims x.dims) s.vars y legal (filter_in (is_record_var s.dims) s.vars y h).0))))

-- ---- faults

fails_below : (rule : Extent → Type 0) (es : List Extent) (n : ℕ) → FailsFirst rule es n → n < length es
fails_below rule [] n h = absurd h
fails_below rule (e ∷ es) zero h = omega arith
fails_below rule (e ∷ es) (suc n) h = omega (arith, fails_below rule es n h.1)

number_below : (m : ℕ) (es : List Extent) (e : Extent) → NumberedFrom m es → In es e → e.variable < m + length es
number_below m [] e h there = absurd there
number_below m (d ∷ es) e h (inl same) = omega (arith, h.0, ap (λ (x : Extent). x.variable) same)
number_below m (d ∷ es) e h (inr there) = omega (arith, number_below (suc m) es e h.1 there)

shared_below : (p : Extent → Bool) (es : List Extent) (n : ℕ) → NumberedFrom 0 es → FirstShared (filter p es) n → n < length es
shared_below p es n h shared =
    omega (arith, shared.number_is, number_below 0 es shared.later h (filter_in p es shared.later (in_from_contains (filter p es) shared.later shared.later_there)).0)

overlap_below : (es : List Extent) (n : ℕ) → NumberedFrom 0 es → FirstOverlap es n → n < length es
overlap_below es n h (inl shared) = shared_below (λ (e : Extent). not e.is_record) es n h shared
overlap_below es n h (inr shared) = shared_below (λ (e : Extent). e.is_record) es n h shared.1

rule_below : (header file record_size records : ℕ) (es : List Extent) (kind : LayoutFaultKind) (n : ℕ) → NumberedFrom 0 es → RuleFails header file record_size records es kind n → n < length es
rule_below header file record_size records es TooLarge n h fails = absurd fails
rule_below header file record_size records es InHeader n h fails = fails_below (NotInHeader header) es n fails
rule_below header file record_size records es Overlap n h fails = overlap_below es n h fails.1
rule_below header file record_size records es RecordWindow n h fails = fails_below (InRecordWindow record_size es) es n fails.3
rule_below header file record_size records es FixedAfterRecords n h fails = fails_below (NotFixedAfterRecords es) es n fails.4
rule_below header file record_size records es Truncated n h fails = fails_below (NotTruncated file record_size records) es n fails.5

length_from : (dims : List Dim) (n : ℕ) (vars : List Var) (places : List Place) → length places ≡ length vars → length (extents_from dims n vars places) ≡ length vars
length_from dims n [] places e = refl
length_from dims n (x ∷ vars) [] e = absurd (omega (arith, e))
length_from dims n (x ∷ vars) (p ∷ places) e = ap suc (length_from dims (suc n) vars places (omega (arith, e)))

pub extents_long : (s : Schema) (places : List Place) → length places ≡ length s.vars → length (extents_of s places) ≡ length s.vars
extents_long s places e = length_from s.dims 0 s.vars places e

pub fault_below : (header file record_size records : ℕ) (s : Schema) (places : List Place) (kind : LayoutFaultKind) (n : ℕ) → length places ≡ length s.vars
    → RuleFails header file record_size records (extents_of s places) kind n → n < length places
fault_below header file record_size records s places kind n e fails =
    omega (arith, e, extents_long s places e, rule_below header file record_size records (extents_of s places) kind n (numbered s.dims 0 s.vars places) fails)

pub as_first_fault : (s : Schema) (places : List Place) (header file : ℕ) (kind : LayoutFaultKind) (n : ℕ) → PlaceFails s places header file kind n → FirstFault s places header file kind n
as_first_fault s places header file TooLarge n h = absurd h.1
as_first_fault s places header file InHeader n h = h
as_first_fault s places header file Overlap n h = h
as_first_fault s places header file RecordWindow n h = h
as_first_fault s places header file FixedAfterRecords n h = h
as_first_fault s places header file Truncated n h = h

-- ---- the answer

module _ (s : Schema) (places : List Place) (header file : ℕ) (es : List Extent) (f : Frame) (frame : IsFrame s places header file f) (is : es ≡ extents_of s places) where
  judged_so : (found : Option (LayoutFaultKind × ℕ)) → Judged f.header_length f.file_length f.record_size f.records es found
      → Judged header file (record_size_of s) (record_count s places file) (extents_of s places) found
  judged_so found h =
      subst (λ (xs : List Extent). Judged header file (record_size_of s) (record_count s places file) xs found) is
      (subst (λ (n : ℕ). Judged header file (record_size_of s) n es found) frame.records_are
      (subst (λ (n : ℕ). Judged header file n f.records es found) frame.size_is
      (subst (λ (n : ℕ). Judged header n f.record_size f.records es found) frame.length_is
      (subst (λ (n : ℕ). Judged n f.file_length f.record_size f.records es found) frame.header_is h))))

  pub fault_found : NoneTooLarge s.dims s.vars → (found : Option (LayoutFaultKind × ℕ)) (kind : LayoutFaultKind) (n : ℕ) → Judged f.header_length f.file_length f.record_size f.records es found → found ≡ Some (kind, n)
      → FirstFault s places header file kind n
  fault_found fit found kind n h some =
      as_first_fault s places header file kind n (fit, subst (Judged header file (record_size_of s) (record_count s places file) (extents_of s places)) some (judged_so found h))

  pub fault_there : length places ≡ length s.vars → (found : Option (LayoutFaultKind × ℕ)) (kind : LayoutFaultKind) (n : ℕ) → Judged f.header_length f.file_length f.record_size f.records es found → found ≡ Some (kind, n)
      → n < length places
  fault_there long found kind n h some =
      fault_below header file (record_size_of s) (record_count s places file) s places kind n long
      (subst (Judged header file (record_size_of s) (record_count s places file) (extents_of s places)) some (judged_so found h))

  pub rules_hold : (found : Option (LayoutFaultKind × ℕ)) → Judged f.header_length f.file_length f.record_size f.records es found → found ≡ None
      → Rules header file (record_size_of s) (record_count s places file) (extents_of s places)
  rules_hold found h none = subst (Judged header file (record_size_of s) (record_count s places file) (extents_of s places)) none (judged_so found h)

  vars_so : placed_on s.dims f.records s.vars es ≡ placed_vars s places file
  vars_so =
      ap (λ (n : ℕ). placed_on s.dims n s.vars es) frame.records_are
      ∙ ap (placed_on s.dims (record_count s places file) s.vars) is
      ∙ placed_same s.dims (record_count s places file) 0 s.vars places

  pub laid_so : Rules header file (record_size_of s) (record_count s places file) (extents_of s places)
      → AreLaid f.header_length f.file_length f.record_size f.records (placed_on s.dims f.records s.vars es)
  laid_so rules =
      let xs = extents_of s places in
      let own : Rules f.header_length f.file_length f.record_size f.records xs =
      subst (λ (n : ℕ). Rules n f.file_length f.record_size f.records xs) (sym frame.header_is)
      (subst (λ (n : ℕ). Rules header n f.record_size f.records xs) (sym frame.length_is)
      (subst (λ (n : ℕ). Rules header file n f.records xs) (sym frame.size_is)
      (subst (λ (n : ℕ). Rules header file (record_size_of s) n xs) (sym frame.records_are) rules))) in
      subst (AreLaid f.header_length f.file_length f.record_size f.records)
      (sym (ap (placed_on s.dims f.records s.vars) is ∙ placed_same s.dims f.records 0 s.vars places))
      (laid f.header_length f.file_length f.record_size f.records s places own)

  pub sized_so : length places ≡ length s.vars → NoneTooLarge s.dims s.vars → AreSized f.record_size (placed_on s.dims f.records s.vars es)
  sized_so long fit =
      subst (AreSized f.record_size) (sym (ap (placed_on s.dims f.records s.vars) is ∙ placed_same s.dims f.records 0 s.vars places))
      (subst (λ (n : ℕ). AreSized n (placed_with s places f.records)) (sym frame.size_is) (sized s places f.records long fit))

  pub holds : (p : Placed) → HasLaid f (placed_on s.dims f.records s.vars es) p → Holds s places header file p
  holds p h = record {
    header_is = h.header_is ∙ frame.header_is;
    length_is = h.length_is ∙ frame.length_is;
    size_is = h.size_is ∙ frame.size_is;
    records_are = h.records_are ∙ frame.records_are;
    vars_are = h.vars_are ∙ vars_so;
  }
