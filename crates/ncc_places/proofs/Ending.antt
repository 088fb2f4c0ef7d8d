-- Where extents end, and the numbers by which records are counted.
use Rattle.std.proofs.Common.{◌≡◌, ℕ, suc, ◌<◌, Bool, true, false, cond, List, [], ◌∷◌, map, Some, refl, sym, ap, ◌∙◌, arith}
use Rattle.std.specs.List.{AllByRecursion}
use Rattle.std.proofs.lemmas.List.Sums.{sum_by-cons}
use Rattle.ncc_schema.specs.declared.schema.Count.{Count}
use Rattle.ncc_schema.specs.declared.schema.Count.TheVariants.{Known, Streaming}
use Rattle.ncc_schema.specs.declared.schema.Dim.{Dim}
use Rattle.ncc_schema.specs.declared.schema.Var.{Var}
use Rattle.ncc_schema.specs.declared.schema.Schema.{Schema}
use Rattle.ncc_schema.specs.Schema.{Place, LegalDims, LegalVar, Sound, is_record_var}
use Rattle.ncc_values.specs.declared.version.Version.{Version}
use Rattle.ncc_layout.specs.declared.extent.Extent.{Extent}
use Rattle.ncc_layout.specs.Bounds.{records_by}
use Rattle.ncc_layout.specs.Extents.{number_of_records, extent_of, extents_from, extents_of, greatest_end, least_begin, records_of, streamed}
use Rattle.ncc_layout.specs.Sizes.{record_bytes, record_size_of, record_vars, slab, up}
use Rattle.ncc_layout.proofs.Positive.{slab_positive}
use Rattle.ncc_places.specs.Ends.{known_or, last_end, records_from, records_with}

-- ---- records are counted where the last slab of the first ends

streamed_is : (size file begin : ℕ) (es : List Extent) → least_begin es ≡ Some begin → records_by (greatest_end es) size file ≡ streamed size file es
streamed_is size file begin [] is = absurd cc
streamed_is size file begin (e ∷ es) is = refl

pub count_is : (size file begin : ℕ) (es : List Extent) (count : Count) → least_begin (records_of es) ≡ Some begin
    → known_or count (records_by (greatest_end (records_of es)) size file) ≡ number_of_records size file es count
count_is size file begin es (Known n) is = refl
count_is size file begin es Streaming is = streamed_is size file begin (records_of es) is

-- the numbers that were found are those of the records
pub records_are : (size file begin : ℕ) (es : List Extent) (count : Count) (z last n past : ℕ) → least_begin (records_of es) ≡ Some begin
    → z ≡ size → last ≡ greatest_end (records_of es) → n ≡ known_or count (records_by last z file) → past ≡ last_end z n begin last
    → Some (record { count = n; begin = begin; size = z; end = past }) ≡ records_with size (number_of_records size file es count) (records_of es)
records_are size file begin es count z last n past is same ends counts passes =
    let due = number_of_records size file es count in
    let number : n ≡ due =
    counts
    ∙ ap (λ (l : ℕ). known_or count (records_by l z file)) ends
    ∙ ap (λ (m : ℕ). known_or count (records_by (greatest_end (records_of es)) m file)) same
    ∙ count_is size file begin es count is in
    let by : past ≡ last_end size due begin (greatest_end (records_of es)) =
    passes
    ∙ ap (λ (m : ℕ). last_end m n begin last) same
    ∙ ap (λ (k : ℕ). last_end size k begin last) number
    ∙ ap (last_end size due begin) ends in
    let made : Some (record { count = n; begin = begin; size = z; end = past }) ≡ records_from size due (records_of es) (Some begin) =
    λ i. Some (record { count = number i; begin = begin; size = same i; end = by i }) in
    made ∙ ap (records_from size due (records_of es)) (sym is)

-- ---- there are bytes in each record

dims_legal : (v : Version) (dims : List Dim) (vars : List Var) → AllByRecursion (LegalVar v dims) vars → AllByRecursion (λ x. LegalDims dims x.dims) vars
dims_legal v dims [] all = tt
dims_legal v dims (x ∷ vars) all = (all.0.dimids, dims_legal v dims vars all.1)

abbrev HasRecord : List Extent → Type 0
HasRecord [] = ⊥
HasRecord (e ∷ es) = Unit {0}

has_record : (es : List Extent) (begin : ℕ) → least_begin es ≡ Some begin → HasRecord es
has_record [] begin is = absurd cc
has_record (e ∷ es) begin is = tt

pub end_positive : (es : List Extent) (begin : ℕ) → least_begin es ≡ Some begin → AllByRecursion (λ e. 0 < e.slab) es → 0 < greatest_end es
end_positive [] begin is all = absurd cc
end_positive (e ∷ es) begin is all = omega (arith, all.0)

all_kept : (P : Extent → Type 0) (b : Bool) (e : Extent) (es : List Extent) → P e → AllByRecursion P es → AllByRecursion P (cond b (e ∷ es) es)
all_kept P true e es h all = (h, all)
all_kept P false e es h all = all

pub records_all : (P : Extent → Type 0) (es : List Extent) → AllByRecursion P es → AllByRecursion P (records_of es)
records_all P [] all = tt
records_all P (e ∷ es) all = all_kept P e.is_record e (records_of es) all.0 (records_all P es all.1)

abbrev HasVar : List Var → Type 0
HasVar [] = ⊥
HasVar (x ∷ vars) = Unit {0}

var_kept : (b : Bool) (e : Extent) (x : Var) (es : List Extent) (vars : List Var) → (HasRecord es → HasVar vars) → HasRecord (cond b (e ∷ es) es) → HasVar (cond b (x ∷ vars) vars)
var_kept true e x es vars h k = tt
var_kept false e x es vars h k = h k

has_var : (dims : List Dim) (n : ℕ) (vars : List Var) (places : List Place) → HasRecord (records_of (extents_from dims n vars places)) → HasVar (record_vars dims vars)
has_var dims n [] places h = absurd h
has_var dims n (x ∷ vars) [] h = absurd h
has_var dims n (x ∷ vars) (p ∷ places) h =
    var_kept (is_record_var dims x) (extent_of dims n x p) x (records_of (extents_from dims (suc n) vars places)) (record_vars dims vars) (has_var dims (suc n) vars places) h

vars_kept : (P : Var → Type 0) (b : Bool) (x : Var) (vars : List Var) → P x → AllByRecursion P vars → AllByRecursion P (cond b (x ∷ vars) vars)
vars_kept P true x vars h all = (h, all)
vars_kept P false x vars h all = all

slabs_positive : (dims : List Dim) (vars : List Var) → AllByRecursion (λ x. LegalDims dims x.dims) vars → AllByRecursion (λ x. 0 < slab dims x) (record_vars dims vars)
slabs_positive dims [] all = tt
slabs_positive dims (x ∷ vars) all =
    vars_kept (λ (y : Var). 0 < slab dims y) (is_record_var dims x) x (record_vars dims vars) (slab_positive dims x all.0) (slabs_positive dims vars all.1)

bytes_positive : (dims : List Dim) (vars : List Var) → HasVar vars → AllByRecursion (λ x. 0 < slab dims x) vars → 0 < record_bytes (map (slab dims) vars)
bytes_positive dims [] h all = absurd h
bytes_positive dims (x ∷ []) h all = all.0
bytes_positive dims (x ∷ y ∷ vars) h all = omega (arith, all.0, sum_by-cons up (slab dims x) (map (slab dims) (y ∷ vars)))

pub size_positive : (s : Schema) (places : List Place) (begin : ℕ) → Sound s → least_begin (records_of (extents_of s places)) ≡ Some begin → 0 < record_size_of s
size_positive s places begin sound is =
    bytes_positive s.dims (record_vars s.dims s.vars)
    (has_var s.dims 0 s.vars places (has_record (records_of (extents_of s places)) begin is))
    (slabs_positive s.dims s.vars (dims_legal s.version s.dims s.vars sound.vars))
