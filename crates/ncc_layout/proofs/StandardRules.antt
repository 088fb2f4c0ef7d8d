-- A standard placement lies packed, and keeps all rules.
use Rattle.std.proofs.Common.{◌≡◌, ℕ, zero, suc, ◌+◌, ◌*◌, ◌%◌, ◌≤◌, Bool, true, false, cond, not, List, [], ◌∷◌, ◌++◌, map, length, take, refl, sym, ap, subst, ◌∙◌, arith, append_assoc, length-append, inl, inr}
use Rattle.std.specs.Prelude.{AllPairs, filter, sum_by, if◌then◌else◌}
use Rattle.std.specs.List.{AllByRecursion}
use Rattle.std.proofs.Math.Seq.{take-append_seam}
use Rattle.std.proofs.lemmas.List.{append-nil}
use Rattle.std.proofs.lemmas.List.Elements.{filter-append, All-from_recursion}
use Rattle.std.proofs.lemmas.List.Kept.{AllPairs-cons}
use Rattle.std.proofs.lemmas.List.Sums.{sum_by-cons, sum_by_push}
use Rattle.ncc_schema.specs.declared.schema.Count.{Count}
use Rattle.ncc_schema.specs.declared.schema.Count.TheVariants.{Known}
use Rattle.ncc_schema.specs.declared.schema.Dim.{Dim}
use Rattle.ncc_schema.specs.declared.schema.Schema.{Schema}
use Rattle.ncc_schema.specs.declared.schema.Var.{Var}
use Rattle.ncc_schema.specs.Schema.{Place, is_record_var}
use Rattle.ncc_schema.specs.Names.{header_length}
use Rattle.ncc_layout.specs.declared.extent.Extent.{Extent}
use Rattle.ncc_layout.specs.Sizes.{up, slab, rounded, record_sum, record_bytes, record_size_of}
use Rattle.ncc_layout.specs.Extents.{extent_of, extents_from, extents_of, end, fixed_of, records_of, slabs_of_records, number_of_records}
use Rattle.ncc_layout.specs.Rules.ByKind.{ByKind, EndsBy}
use Rattle.ncc_layout.specs.Rules.InHeader.{NotInHeader}
use Rattle.ncc_layout.specs.Rules.Truncated.{LastNotTruncated}
use Rattle.ncc_layout.specs.Rules.Overlap.{Apart, NoOverlap}
use Rattle.ncc_layout.specs.Rules.{Rules, IsPlaced}
use Rattle.ncc_layout.specs.Standard.{fixed_sum, standard_begin, standard_place, standard_from, standard_places, file_length, FitsVersion, PackedFrom, ArePacked, AreInTurn, AreAligned}
use Rattle.ncc_layout.proofs.Membership.{In, in_from_contains}
use Rattle.ncc_layout.proofs.TestsOfRules.{all_from}
use Rattle.ncc_layout.proofs.Summing.{sum_of_slabs}
use Rattle.ncc_layout.proofs.Laying.{slab_kept, slabs_same}
use Rattle.ncc_layout.proofs.StandardPlaces.{length-standard_from}

-- ---- what packed extents keep

packed_begins : (b : ℕ) (es : List Extent) → PackedFrom b es → AllByRecursion (λ e. b ≤ e.begin) es
packed_begins b [] h = tt
packed_begins b (e ∷ es) h = (
  omega (arith, h.0),
  all_from (λ (x : Extent). b + up e.slab ≤ x.begin) (λ (x : Extent). b ≤ x.begin) (λ x le. omega (arith, le)) es (packed_begins (b + up e.slab) es h.1),
)

abbrev slabs : List Extent → List ℕ
slabs es = map (λ e. e.slab) es

packed_ends : (b : ℕ) (es : List Extent) → PackedFrom b es → AllByRecursion (λ e. end e ≤ b + sum_by up (slabs es)) es
packed_ends b [] h = tt
packed_ends b (e ∷ es) h =
    let total = sum_by-cons up e.slab (slabs es) in (
      omega (arith, h.0, total),
      all_from (λ (x : Extent). end x ≤ b + up e.slab + sum_by up (slabs es)) (λ (x : Extent). end x ≤ b + sum_by up (slabs (e ∷ es))) (λ x le. omega (arith, le, total)) es (packed_ends (b + up e.slab) es h.1),
    )

-- behind one record of them
packed_record : (b : ℕ) (es : List Extent) → PackedFrom b es → AllByRecursion (λ e. end e ≤ b + record_bytes (slabs es)) es
packed_record b [] h = tt
packed_record b (e ∷ []) h = (omega (arith, h.0), tt)
packed_record b (d ∷ e ∷ es) h = packed_ends b (d ∷ e ∷ es) h

after_apart : (d e : Extent) → end d ≤ e.begin → Apart d e
after_apart d e after byte p q r s = omega (arith, after, q, r)

packed_after : (b : ℕ) (x : Extent) (es : List Extent) → PackedFrom b (x ∷ es) → AllByRecursion (λ e. end x ≤ e.begin) es
packed_after b x es h = all_from (λ (e : Extent). b + up x.slab ≤ e.begin) (λ (e : Extent). end x ≤ e.begin) (λ e le. omega (arith, le, h.0)) es (packed_begins (b + up x.slab) es h.1)

module _ (x : Extent) (es : List Extent) (after : AllByRecursion (λ e. end x ≤ e.begin) es) where
  apart_from_first : (e : Extent) → In es e → Apart x e
  apart_from_first e there = after_apart x e (all_there es after e there)
    where
      all_there : (ds : List Extent) → AllByRecursion (λ d. end x ≤ d.begin) ds → (d : Extent) → In ds d → end x ≤ d.begin
      all_there [] all d there = absurd there
      all_there (y ∷ ds) all d (inl same) = subst (λ (z : Extent). end x ≤ z.begin) same all.0
      all_there (y ∷ ds) all d (inr there) = all_there ds all.1 d there

packed_apart_in : (b : ℕ) (es : List Extent) → PackedFrom b es → (d e : Extent) → In es d → In es e → (d.variable ≡ e.variable → ⊥) → Apart d e
packed_apart_in b [] h d e m n differ = absurd m
packed_apart_in b (x ∷ es) h d e (inl same) (inl also) differ = absurd (differ (ap (λ (y : Extent). y.variable) (sym same ∙ also)))
packed_apart_in b (x ∷ es) h d e (inl same) (inr n) differ = subst (λ (y : Extent). Apart y e) same (apart_from_first x es (packed_after b x es h) e n)
packed_apart_in b (x ∷ es) h d e (inr m) (inl also) differ =
    let apart : Apart e d = subst (λ (y : Extent). Apart y d) also (apart_from_first x es (packed_after b x es h) d m) in
    λ byte p q r s. apart byte r s p q
packed_apart_in b (x ∷ es) h d e (inr m) (inr n) differ = packed_apart_in (b + up x.slab) es h.1 d e m n differ

packed_apart : (b : ℕ) (es : List Extent) → PackedFrom b es → NoOverlap es
packed_apart b es h d e m n differ = packed_apart_in b es h d e (in_from_contains es d m) (in_from_contains es e n) differ

packed_in_turn : (b : ℕ) (es : List Extent) → PackedFrom b es → AllPairs (λ d e. d.begin ≤ e.begin) es
packed_in_turn b [] h = λ i j d less below. absurd (omega (arith, below))
packed_in_turn b (x ∷ es) h =
    AllPairs-cons (λ (d e : Extent). d.begin ≤ e.begin) x es
    (All-from_recursion (λ (e : Extent). x.begin ≤ e.begin) es (all_from (λ (e : Extent). end x ≤ e.begin) (λ (e : Extent). x.begin ≤ e.begin) (λ e le. omega (arith, le)) es (packed_after b x es h)))
    (packed_in_turn (b + up x.slab) es h.1)

up_aligned : (n : ℕ) → up n % 4 ≡ 0
up_aligned n = omega arith

sum_aligned : (m n : ℕ) → m % 4 ≡ 0 → n % 4 ≡ 0 → (m + n) % 4 ≡ 0
sum_aligned m n h k = omega (arith, h, k)

packed_aligned : (b : ℕ) (es : List Extent) → b % 4 ≡ 0 → PackedFrom b es → AllByRecursion (λ e. e.begin % 4 ≡ 0) es
packed_aligned b [] aligned h = tt
packed_aligned b (e ∷ es) aligned h = (
  ap (λ (n : ℕ). n % 4) h.0 ∙ aligned,
  packed_aligned (b + up e.slab) es (sum_aligned b (up e.slab) aligned (up_aligned e.slab)) h.1,
)

slabs_aligned : (ns : List ℕ) → sum_by up ns % 4 ≡ 0
slabs_aligned [] = refl
slabs_aligned (n ∷ ns) = ap (λ (m : ℕ). m % 4) (sum_by-cons up n ns) ∙ sum_aligned (up n) (sum_by up ns) (up_aligned n) (slabs_aligned ns)

-- ---- two kinds of extents

abbrev Both : (P Q : Extent → Type 0) → List Extent → Type 0
Both P Q es = AllByRecursion (λ e. ByKind e.is_record (P e) (Q e)) es

first_by_kind : (P Q : Extent → Type 0) (b : Bool) (e : Extent) (rs fs : List Extent) → AllByRecursion P (cond b (e ∷ rs) rs) → AllByRecursion Q (cond (not b) (e ∷ fs) fs) → ByKind b (P e) (Q e) × (AllByRecursion P rs × AllByRecursion Q fs)
first_by_kind P Q true e rs fs h k = (h.0, (h.1, k))
first_by_kind P Q false e rs fs h k = (k.0, (h, k.1))

by_kind : (P Q : Extent → Type 0) (es : List Extent) → AllByRecursion P (records_of es) → AllByRecursion Q (fixed_of es) → Both P Q es
by_kind P Q [] h k = tt
by_kind P Q (e ∷ es) h k =
    let both = first_by_kind P Q e.is_record e (records_of es) (fixed_of es) h k in
    (both.0, by_kind P Q es both.1.0 both.1.1)

any_kind : (b : Bool) (T : Type 0) → ByKind b T T → T
any_kind true T h = h
any_kind false T h = h

all_kinds : (P : Extent → Type 0) (es : List Extent) → AllByRecursion P (records_of es) → AllByRecursion P (fixed_of es) → AllByRecursion P es
all_kinds P es h k = all_from (λ (e : Extent). ByKind e.is_record (P e) (P e)) P (λ e both. any_kind e.is_record (P e) both) es (by_kind P P es h k)

always : (es : List Extent) → AllByRecursion (λ e. Unit {0}) es
always [] = tt
always (e ∷ es) = (tt, always es)

-- ---- packed variables keep the rules

record PackedFile (header : ℕ) (es : List Extent) (behind : ℕ) : Type 0 where
  fixed : PackedFrom header (fixed_of es)
  records : PackedFrom behind (records_of es)
  ends : AllByRecursion (λ e. end e ≤ behind) (fixed_of es)
  past : header ≤ behind

module _ (header behind n file : ℕ) (es : List Extent) (packed : PackedFile header es behind) (long : file ≡ behind + n * record_bytes (slabs_of_records es)) where
  abbrev stride : ℕ
  stride = record_bytes (slabs_of_records es)

  begins : AllByRecursion (λ r. behind ≤ r.begin) (records_of es)
  begins = packed_begins behind (records_of es) packed.records

  ends : AllByRecursion (λ r. end r ≤ behind + stride) (records_of es)
  ends = packed_record behind (records_of es) packed.records

  by_begins : (further : ℕ) (e : Extent) → end e ≤ behind + further → EndsBy further (records_of es) e
  by_begins further e h = all_from (λ (r : Extent). behind ≤ r.begin) (λ (r : Extent). end e ≤ r.begin + further) (λ r le. omega (arith, h, le)) (records_of es) begins

  last_in : (k : ℕ) (e : Extent) → k ≡ n → end e ≤ behind + stride → LastNotTruncated file stride k e
  last_in zero e same h = tt
  last_in (suc k) e same h =
      let many : (suc k) * stride ≡ n * stride = ap (λ (m : ℕ). m * stride) same in
      omega (arith, h, long, many)

  kept : Rules header file stride n es
  kept = record {
    not_in_header = all_kinds (NotInHeader header) es
        (all_from (λ (r : Extent). behind ≤ r.begin) (NotInHeader header) (λ r le. omega (arith, le, packed.past)) (records_of es) begins)
        (packed_begins header (fixed_of es) packed.fixed);
    no_fixed_overlap = packed_apart header (fixed_of es) packed.fixed;
    no_record_overlap = packed_apart behind (records_of es) packed.records;
    in_record_window = by_kind (EndsBy stride (records_of es)) (λ e. Unit {0}) es
        (all_from (λ (e : Extent). end e ≤ behind + stride) (EndsBy stride (records_of es)) (by_begins stride) (records_of es) ends) (always (fixed_of es));
    not_fixed_after_records = by_kind (λ e. Unit {0}) (EndsBy 0 (records_of es)) es (always (records_of es))
        (all_from (λ (e : Extent). end e ≤ behind) (EndsBy 0 (records_of es)) (λ e le. by_begins 0 e (omega (arith, le))) (fixed_of es) packed.ends);
    not_truncated = by_kind (LastNotTruncated file stride n) (λ e. end e ≤ file) es
        (all_from (λ (e : Extent). end e ≤ behind + stride) (LastNotTruncated file stride n) (λ e le. last_in n e refl le) (records_of es) ends)
        (all_from (λ (e : Extent). end e ≤ behind) (λ (e : Extent). end e ≤ file) (λ e le. omega (arith, le, long)) (fixed_of es) packed.ends);
  }

-- ---- a standard placement is packed

packed_next : (b : Bool) (begin next : ℕ) (e : Extent) (es : List Extent) → (b ≡ true → e.begin ≡ begin) → next ≡ begin + cond b (up e.slab) 0 → PackedFrom next es → PackedFrom begin (cond b (e ∷ es) es)
packed_next true begin next e es is next_is h = (is refl, subst (λ (n : ℕ). PackedFrom n es) next_is h)
packed_next false begin next e es is next_is h =
    let same : next ≡ begin = omega (arith, next_is) in
    subst (λ (n : ℕ). PackedFrom n es) same h

sum_next : (dims : List Dim) (p : Var → Bool) (pre : List Var) (x : Var) (b : Bool) → p x ≡ b → sum_by (rounded dims) (filter p (pre ++ x ∷ [])) ≡ sum_by (rounded dims) (filter p pre) + cond b (rounded dims x) 0
sum_next dims p pre x true is =
    ap (sum_by (rounded dims)) (filter-append p pre (x ∷ []) ∙ ap (λ (b : Bool). filter p pre ++ cond b (x ∷ []) []) is) ∙ sum_by_push (rounded dims) (filter p pre) x
sum_next dims p pre x false is =
    let none : filter p pre ++ cond (p x) (x ∷ []) [] ≡ filter p pre ++ [] = ap (λ (b : Bool). filter p pre ++ cond b (x ∷ []) []) is in
    ap (sum_by (rounded dims)) (filter-append p pre (x ∷ []) ∙ none ∙ append-nil (filter p pre)) ∙ omega arith

module _ (s : Schema) where
  abbrev dims : List Dim
  dims = s.dims

  abbrev es : List Extent
  es = extents_of s (standard_places s)

  abbrev header : ℕ
  header = header_length s

  -- behind the fixed variables
  abbrev behind : ℕ
  behind = header + fixed_sum dims s.vars

  abbrev rest_of : ℕ → List Var → List Extent
  rest_of n vars = extents_from dims n vars (standard_from s n vars)

  taken : (pre rest : List Var) → s.vars ≡ pre ++ rest → take (length pre) s.vars ≡ pre
  taken pre rest e = ap (take (length pre)) e ∙ take-append_seam pre rest

  next_number : (pre : List Var) (x : Var) → length (pre ++ x ∷ []) ≡ suc (length pre)
  next_number pre x = length-append pre (x ∷ []) ∙ omega arith

  next_vars : (pre rest : List Var) (x : Var) → s.vars ≡ pre ++ x ∷ rest → s.vars ≡ (pre ++ x ∷ []) ++ rest
  next_vars pre rest x e = e ∙ sym (append_assoc pre (x ∷ []) rest)

  fixed_packed : (pre rest : List Var) → s.vars ≡ pre ++ rest → PackedFrom (header + fixed_sum dims pre) (fixed_of (rest_of (length pre) rest))
  fixed_packed pre [] e = tt
  fixed_packed pre (x ∷ rest) e =
      let n = length pre in
      let b = is_record_var dims x in
      let later : PackedFrom (header + fixed_sum dims (pre ++ x ∷ [])) (fixed_of (rest_of (suc n) rest)) =
      subst (λ (k : ℕ). PackedFrom (header + fixed_sum dims (pre ++ x ∷ [])) (fixed_of (rest_of k rest))) (next_number pre x) (fixed_packed (pre ++ x ∷ []) rest (next_vars pre rest x e)) in
      packed_next (not b) (header + fixed_sum dims pre) (header + fixed_sum dims (pre ++ x ∷ [])) (extent_of dims n x (standard_place s n x)) (fixed_of (rest_of (suc n) rest))
      (λ fixed. begin_is b refl fixed)
      (omega (arith, sum_next dims (λ y. not (is_record_var dims y)) pre x (not b) refl))
      later
    where
      begin_is : (b : Bool) → is_record_var dims x ≡ b → not b ≡ true → standard_begin s (length pre) x ≡ header + fixed_sum dims pre
      begin_is true is fixed = absurd cc
      begin_is false is fixed =
          ap (λ (c : Bool). if c then header + fixed_sum dims s.vars + record_sum dims (take (length pre) s.vars) else header + fixed_sum dims (take (length pre) s.vars)) is
          ∙ ap (λ (vars : List Var). header + fixed_sum dims vars) (taken pre (x ∷ rest) e)

  records_packed : (pre rest : List Var) → s.vars ≡ pre ++ rest → PackedFrom (behind + record_sum dims pre) (records_of (rest_of (length pre) rest))
  records_packed pre [] e = tt
  records_packed pre (x ∷ rest) e =
      let n = length pre in
      let b = is_record_var dims x in
      let later : PackedFrom (behind + record_sum dims (pre ++ x ∷ [])) (records_of (rest_of (suc n) rest)) =
      subst (λ (k : ℕ). PackedFrom (behind + record_sum dims (pre ++ x ∷ [])) (records_of (rest_of k rest))) (next_number pre x) (records_packed (pre ++ x ∷ []) rest (next_vars pre rest x e)) in
      packed_next b (behind + record_sum dims pre) (behind + record_sum dims (pre ++ x ∷ [])) (extent_of dims n x (standard_place s n x)) (records_of (rest_of (suc n) rest))
      (λ is. begin_is is)
      (omega (arith, sum_next dims (is_record_var dims) pre x b refl))
      later
    where
      begin_is : is_record_var dims x ≡ true → standard_begin s (length pre) x ≡ behind + record_sum dims pre
      begin_is is =
          ap (λ (c : Bool). if c then header + fixed_sum dims s.vars + record_sum dims (take (length pre) s.vars) else header + fixed_sum dims (take (length pre) s.vars)) is
          ∙ ap (λ (vars : List Var). behind + record_sum dims vars) (taken pre (x ∷ rest) e)

  fixed : PackedFrom header (fixed_of es)
  fixed =
      let start : header + fixed_sum dims [] ≡ header = omega arith in
      subst (λ (b : ℕ). PackedFrom b (fixed_of es)) start (fixed_packed [] s.vars refl)

  records : PackedFrom behind (records_of es)
  records =
      let start : behind + record_sum dims [] ≡ behind = omega arith in
      subst (λ (b : ℕ). PackedFrom b (records_of es)) start (records_packed [] s.vars refl)

  -- ---- sums over the extents

  fixed_slabs : (n : ℕ) (vars : List Var) (places : List Place) → length places ≡ length vars
      → map (λ e. e.slab) (fixed_of (extents_from dims n vars places)) ≡ map (slab dims) (filter (λ x. not (is_record_var dims x)) vars)
  fixed_slabs n [] places e = refl
  fixed_slabs n (x ∷ vars) [] e = absurd (omega (arith, e))
  fixed_slabs n (x ∷ vars) (p ∷ places) e =
      slab_kept dims (not (is_record_var dims x)) (extent_of dims n x p) x (fixed_of (extents_from dims (suc n) vars places)) (filter (λ y. not (is_record_var dims y)) vars) refl
      (fixed_slabs (suc n) vars places (omega (arith, e)))

  fixed_total : sum_by up (slabs (fixed_of es)) ≡ fixed_sum dims s.vars
  fixed_total = ap (sum_by up) (fixed_slabs 0 s.vars (standard_places s) (length-standard_from s 0 s.vars)) ∙ sum_of_slabs dims (filter (λ x. not (is_record_var dims x)) s.vars)

  stride_is : record_size_of s ≡ record_bytes (slabs_of_records es)
  stride_is = ap record_bytes (sym (slabs_same dims 0 s.vars (standard_places s) (length-standard_from s 0 s.vars)))

  packed_file : PackedFile header es behind
  packed_file = record {
    fixed = fixed;
    records = records;
    ends = all_from (λ (e : Extent). end e ≤ header + sum_by up (slabs (fixed_of es))) (λ (e : Extent). end e ≤ behind) (λ e le. omega (arith, le, fixed_total)) (fixed_of es) (packed_ends header (fixed_of es) fixed);
    past = omega arith;
  }

  -- ---- what is told of it

  pub are_packed : ArePacked header es
  are_packed = record {
    fixed = fixed;
    records = subst (λ (b : ℕ). PackedFrom (header + b) (records_of es)) (sym fixed_total) records;
  }

  pub are_in_turn : AreInTurn es
  are_in_turn = record { fixed = packed_in_turn header (fixed_of es) fixed; records = packed_in_turn behind (records_of es) records }

  pub are_aligned : header % 4 ≡ 0 → AreAligned es
  are_aligned aligned =
      let total : fixed_sum dims s.vars % 4 ≡ 0 = ap (λ (n : ℕ). n % 4) (sym fixed_total) ∙ slabs_aligned (slabs (fixed_of es)) in
      all_kinds (λ (e : Extent). e.begin % 4 ≡ 0) es (packed_aligned behind (records_of es) (sum_aligned header (fixed_sum dims s.vars) aligned total) records) (packed_aligned header (fixed_of es) aligned fixed)

  pub is_placed : (n : ℕ) → s.count ≡ Known n → FitsVersion s n → IsPlaced s (standard_places s) header (file_length s n)
  is_placed n known fits =
      let long : file_length s n ≡ behind + n * record_bytes (slabs_of_records es) = ap (λ (m : ℕ). behind + n * m) stride_is in
      let rules = kept header behind n (file_length s n) es packed_file long in
      let strided : Rules header (file_length s n) (record_size_of s) n es = subst (λ (m : ℕ). Rules header (file_length s n) m n es) (sym stride_is) rules in
      record {
        none_too_large = fits.none_too_large;
        rules = subst (λ (c : Count). Rules header (file_length s n) (record_size_of s) (number_of_records (record_size_of s) (file_length s n) es c) es) (sym known) strided;
      }
