-- Dimensions, and the numbers of dimensions: their rules are exact.
use Rattle.std.proofs.Common.{◌≡◌, ℕ, suc, ◌+◌, ◌<◌, ◌≤◌, Bool, true, false, ltb, ◌&&◌, List, [], ◌∷◌, ◌++◌, length, refl, arith, length-append}
use Rattle.std.specs.List.{AllByRecursion}
use Rattle.std.specs.Prelude.{◌==◌, if◌then◌else◌}
use Rattle.std.proofs.lemmas.Bool.{ltb-false, le-ltb, lt-ltb}
use Rattle.ncc_values.specs.Numbers.{IsBytes}
use Rattle.ncc_values.specs.Version.{count_width_of}
use Rattle.ncc_values.specs.declared.version.Version.{Version}
use Rattle.ncc_header.specs.declared.fault.FaultKind.TheVariants.{NegativeCount, TwoRecordDims, BadDimId, RecordDimNotFirst}
use Rattle.ncc_schema.specs.declared.schema.Dim.{Dim}
use Rattle.ncc_header.specs.Grammar.{Plain}
use Rattle.ncc_schema.specs.Schema.{count_limit, length_limit, record_dims, is_record, IsFixed, LegalDim, LegalDims}
use Rattle.ncc_schema.specs.Header as spelled
use Rattle.ncc_header.specs.Fields.{dim_length_wrong, dimid_wrong, dim, dimid, dimids}
use Rattle.ncc_header.proofs.Exact.{Exact, exact_then, exact_into, exact_fits, exact_counted, AllAfter, exact_number}
use Rattle.ncc_header.proofs.Judgements.{unless-none, first-none, below-none, not-true, count_limit-fits, length_limit-fits}
use Rattle.ncc_header.proofs.ExactLists.{exact_nelems, exact_name}

abbrev pub AfterDim : Version → List Dim → Dim → Type 0
AfterDim v before d = (LegalDim v d × IsBytes d.name) × (((d.length == 0) && ltb 0 (record_dims before)) ≡ false)

pub exact_dim : (v : Version) (before : List Dim) → Exact (dim v before) (AfterDim v before) (spelled.dim v)
exact_dim v before = exact_fits (exact_into (λ x. record { name = x.0; length = x.1 }) (λ d. (d.name, d.length))
    (exact_then (exact_name v) (λ _ _. exact_number Plain (count_width_of v) (dim_length_wrong v before)))
    (λ a f. refl))
    (λ d f. let j = first-none _ _ f.0.1.1 in
    ((record { name = f.0.0.0; long = below-none d.length (length_limit v) NegativeCount j.0 }, f.0.0.1), not-true _ (unless-none _ TwoRecordDims j.1)))
    (λ d f. (((f.0.0.name, f.0.1), (omega (arith, f.0.0.long, length_limit-fits v), rw (lt-ltb d.length (length_limit v) f.0.0.long, f.1) refl)), refl))

record_dims-push : (before : List Dim) (d : Dim) → record_dims (before ++ d ∷ []) ≡ record_dims before + record_dims (d ∷ [])
record_dims-push [] d = omega arith
record_dims-push (e ∷ before) d = go (e.length == 0) (record_dims-push before d)
  where
    go : (b : Bool) → record_dims (before ++ d ∷ []) ≡ record_dims before + record_dims (d ∷ []) → (if b then suc (record_dims (before ++ d ∷ [])) else record_dims (before ++ d ∷ [])) ≡ (if b then suc (record_dims before) else record_dims before) + record_dims (d ∷ [])
    go true h = omega (arith, h)
    go false h = h

-- a dimension of length 0 counts one
one_record : (b : Bool) (m n : ℕ) → (b && ltb 0 m) ≡ false → m ≤ 1 → (m + (if b then suc n else n) ≡ m + (if b then 1 else 0) + n) × (m + (if b then 1 else 0) ≤ 1)
one_record true m n h le = let none_before : m ≤ 0 = ltb-false 0 m h in (omega arith, omega (arith, none_before))
one_record false m n h le = (omega arith, omega (arith, le))

-- and the other way
first_record : (b : Bool) (m n : ℕ) → m + (if b then suc n else n) ≤ 1 → ((b && ltb 0 m) ≡ false) × (m + (if b then 1 else 0) + n ≤ 1)
first_record true m n le = (le-ltb 0 m (omega (arith, le)), omega (arith, le))
first_record false m n le = (refl, omega (arith, le))

pub dims_to : (v : Version) (before dims : List Dim) → record_dims before ≤ 1 → AllAfter (AfterDim v) before dims → AllByRecursion (λ d. LegalDim v d × IsBytes d.name) dims × (record_dims before + record_dims dims ≤ 1)
dims_to v before [] le h = (tt, omega (arith, le))
dims_to v before (d ∷ dims) le h =
    let o = one_record (d.length == 0) (record_dims before) (record_dims dims) h.0.1 le in
    let pushed : record_dims (before ++ d ∷ []) ≡ record_dims before + (if d.length == 0 then 1 else 0) = record_dims-push before d in
    let rest = dims_to v (before ++ d ∷ []) dims (omega (arith, pushed, o.1)) h.1 in
    ((h.0.0, rest.0), omega (arith, rest.1, pushed, o.0))

pub dims_from : (v : Version) (before dims : List Dim) → AllByRecursion (λ d. LegalDim v d × IsBytes d.name) dims → record_dims before + record_dims dims ≤ 1 → AllAfter (AfterDim v) before dims
dims_from v before [] h le = tt
dims_from v before (d ∷ dims) h le =
    let o = first_record (d.length == 0) (record_dims before) (record_dims dims) le in
    let pushed : record_dims (before ++ d ∷ []) ≡ record_dims before + (if d.length == 0 then 1 else 0) = record_dims-push before d in
    ((h.0, o.0), dims_from v (before ++ d ∷ []) dims h.1 (omega (arith, pushed, o.1)))

-- ---- a variable's dimensions

abbrev pub AfterId : List Dim → List ℕ → ℕ → Type 0
AfterId dims before n = (n < length dims) × ((is_record dims n && ltb 0 (length before)) ≡ false)

exact_dimid : (v : Version) (dims : List Dim) → length dims < count_limit v → (before : List ℕ) → Exact (dimid v dims before) (AfterId dims before) (spelled.non_neg v)
exact_dimid v dims few before = exact_fits (exact_number Plain (count_width_of v) (dimid_wrong dims before))
    (λ n f. let j = first-none _ _ f.1 in (below-none n (length dims) BadDimId j.0, not-true _ (unless-none _ RecordDimNotFirst j.1)))
    (λ n f. (omega (arith, f.0, few, count_limit-fits v), rw (lt-ltb n (length dims) f.0, f.1) refl))

and-true : (b : Bool) → (b && true) ≡ false → b ≡ false
and-true true h = h
and-true false h = h

and-false : (b : Bool) → (b && false) ≡ false
and-false true = refl
and-false false = refl

later_to : (dims : List Dim) (before ids : List ℕ) → 0 < length before → AllAfter (AfterId dims) before ids → AllByRecursion (IsFixed dims) ids
later_to dims before [] pos h = tt
later_to dims before (n ∷ ids) pos h =
    ((h.0.0, and-true (is_record dims n) (rw (lt-ltb 0 (length before) pos) at h.0.1)), later_to dims (before ++ n ∷ []) ids (omega (arith, length-append before (n ∷ []), pos)) h.1)

later_from : (dims : List Dim) (before ids : List ℕ) → AllByRecursion (IsFixed dims) ids → AllAfter (AfterId dims) before ids
later_from dims before [] h = tt
later_from dims before (n ∷ ids) h = ((h.0.0, rw h.0.1 refl), later_from dims (before ++ n ∷ []) ids h.1)

ids_to : (dims : List Dim) (ids : List ℕ) → AllAfter (AfterId dims) [] ids → LegalDims dims ids
ids_to dims [] h = tt
ids_to dims (n ∷ ids) h = (h.0.0, later_to dims (n ∷ []) ids (omega arith) h.1)

ids_from : (dims : List Dim) (ids : List ℕ) → LegalDims dims ids → AllAfter (AfterId dims) [] ids
ids_from dims [] h = tt
ids_from dims (n ∷ ids) h = ((h.0, and-false (is_record dims n)), later_from dims (n ∷ []) ids h.1)

pub exact_dimids : (v : Version) (dims : List Dim) → length dims < count_limit v → Exact (dimids v dims) (λ ids. (length ids < count_limit v) × LegalDims dims ids) (spelled.dimids v)
exact_dimids v dims few = exact_fits (exact_counted (exact_nelems v) (exact_dimid v dims few)) (λ ids f. (f.0, ids_to dims ids f.1)) (λ ids f. (f.0, ids_from dims ids f.1))
