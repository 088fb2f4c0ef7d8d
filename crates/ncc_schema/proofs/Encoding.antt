-- The parts of the canonical spelling.
use Rattle.std.proofs.Common.{◌≡◌, ℕ, zero, suc, ◌+◌, ◌*◌, ◌%◌, ◌<◌, ◌≤◌, List, [], ◌∷◌, ◌++◌, length, get_or, take, drop, refl, sym, ap, ap₂, subst, ◌∙◌, arith, add-one, drop-cons, mul-le-mul_right}
use Rattle.std.specs.List.{AllByRecursion, flat_map}
use Rattle.std.specs.Prelude.{◌==◌, if◌then◌else◌, zip, Option, Result, Err}
use Rattle.std.specs.Result.{IsErrAnd}
use Rattle.std.proofs.lemmas.Bool.{ne_eqb}
use Rattle.std.proofs.lemmas.List.{take-append-drop, drop-drop, drop_all, length-map, get_or-map}
use Rattle.std.proofs.lemmas.Slice.Zip.{length-zip, get_or-zip}
use Rattle.std.proofs.Math.Nat.{add-mul}
use Rattle.std.proofs.lemmas.Result.{err_from_is_err_and}
use Rattle.ncc_values.specs.Numbers.{big_endian}
use Rattle.ncc_values.specs.Values.{type_of, count_of, bytes_of}
use Rattle.ncc_values.specs.XType.{size_of}
use Rattle.ncc_values.specs.declared.values.Values.{Values}
use Rattle.ncc_values.proofs.ValuesLemmas.{length-bytes_of}
use Rattle.ncc_values.specs.Version.{byte_of, count_width_of}
use Rattle.ncc_values.specs.declared.version.Version.{Version}
use Rattle.ncc_values.specs.declared.version.Version.TheVariants.{V1, V2, V5}
use Rattle.ncc_values.specs.declared.failures.Device.{Device}
use Rattle.ncc_schema.specs.declared.schema.Dim.{Dim}
use Rattle.ncc_schema.specs.declared.schema.Var.{Var}
use Rattle.ncc_schema.specs.declared.schema.VarPlace.{VarPlace}
use Rattle.ncc_schema.specs.Schema.{Place, place_of, places_of, count_limit, IsFixed, LegalDims, LegalPlace}
use Rattle.ncc_schema.specs.Device.{Puts, WritesAll}
use Rattle.ncc_schema.specs.Header.{canon_head}
use Rattle.ncc_schema.proofs.Writing.{SoFar, so_far_more, writes_front_so_far}

pub head_parts : (v : Version) (tag n : ℕ) → canon_head v tag n ≡ big_endian 4 (if n == 0 then 0 else tag) ++ big_endian (count_width_of v) n
head_parts v tag zero = refl
head_parts v tag (suc n) = rw (ne_eqb (suc n) 0 (omega arith)) refl

-- ---- items of a list, one by one

-- the next item and those behind it
pub next_item : {A : Type 0} (xs : List A) (i : ℕ) (x d : A) → i < length xs → x ≡ get_or xs i d → drop i xs ≡ x ∷ drop (i + 1) xs
next_item {A = A} xs i x d h e = rw (add-one, drop-cons xs i d) (ap (λ (y : A). y ∷ drop (suc i) xs) (sym e))

pub next_all : {A : Type 0} (P : A → Type 0) (xs : List A) (i : ℕ) (x d : A) → i < length xs → x ≡ get_or xs i d → AllByRecursion P (drop i xs) → P x × AllByRecursion P (drop (i + 1) xs)
next_all {A = A} P xs i x d h e all = subst (λ (rest : List A). AllByRecursion P rest) (next_item xs i x d h e) all

-- the next item went out
pub item_sent : {A : Type 0} (c : A → List ℕ) (xs : List A) (i : ℕ) (x d : A) (old now new : Option (List ℕ)) (text : List ℕ) → i < length xs → x ≡ get_or xs i d → SoFar old now text (flat_map c (drop i xs)) → Puts now new (c x)
    → SoFar old new text (flat_map c (drop (i + 1) xs))
item_sent c xs i x d old now new text h e s p = so_far_more old now new text (flat_map c (drop i xs)) (c x) (flat_map c (drop (i + 1) xs)) s (ap (flat_map c) (next_item xs i x d h e)) p

-- it didn't
pub item_fails : {A : Type 0} (Q : Device → Type 0) (c : A → List ℕ) (xs : List A) (i : ℕ) (x d : A) (old now new : Option (List ℕ)) (text : List ℕ) (r : Result (Unit {0}) Device) (e : Device) → i < length xs → x ≡ get_or xs i d
    → SoFar old now text (flat_map c (drop i xs)) → IsErrAnd r Q → WritesAll now new (Err e) (c x) → WritesAll old new r text
item_fails Q c xs i x d old now new text r e h is s exit w =
    let p = err_from_is_err_and r exit in
    subst (λ (q : Result (Unit {0}) Device). WritesAll old new q text) (sym p.1)
    (writes_front_so_far old now new text (flat_map c (drop i xs)) (c x) (flat_map c (drop (i + 1) xs)) p.0 s (ap (flat_map c) (next_item xs i x d h is)) w)

-- the numbers of dimensions fit where the number of dimensions does
pub ids_fit : (v : Version) (dims : List Dim) (ids : List ℕ) → length dims < count_limit v → LegalDims dims ids → AllByRecursion (λ n. n < count_limit v) ids
ids_fit v dims [] few h = tt
ids_fit v dims (n ∷ ids) few h = (omega (arith, few, h.0), fixed_fit ids h.1)
  where
    fixed_fit : (ids : List ℕ) → AllByRecursion (IsFixed dims) ids → AllByRecursion (λ n. n < count_limit v) ids
    fixed_fit [] h = tt
    fixed_fit (n ∷ ids) h = (omega (arith, few, h.0.0), fixed_fit ids h.1)

-- ---- values

-- the bytes of the next values and those behind them
pub next_bytes : (bytes piece : List ℕ) (first some size n : ℕ) → n ≡ some * size → piece ≡ take n (drop (first * size) bytes) → drop (first * size) bytes ≡ piece ++ drop ((first + some) * size) bytes
next_bytes bytes piece first some size n e is =
    let behind : first * size + n ≡ (first + some) * size = omega (arith, e, add-mul first some size) in
    sym (take-append-drop n (drop (first * size) bytes))
    ∙ ap₂ (λ (a b : List ℕ). a ++ b) (sym is) (drop-drop n (first * size) bytes ∙ ap (λ (m : ℕ). drop m bytes) behind)

-- none are behind the last
pub no_bytes : (values : Values) (first size : ℕ) → count_of values ≤ first → size ≡ size_of (type_of values) → drop (first * size) (bytes_of values) ≡ []
no_bytes values first size last e =
    let long : length (bytes_of values) ≡ count_of values * size = length-bytes_of values ∙ ap (λ (m : ℕ). count_of values * m) (sym e) in
    drop_all (first * size) (bytes_of values) (omega (arith, long, mul-le-mul_right size last))

-- ---- variables and their places

pub all_at : {A : Type 0} (P : A → Type 0) (xs : List A) (i : ℕ) (d : A) → i < length xs → AllByRecursion P xs → P (get_or xs i d)
all_at P [] i d h all = absurd (omega (arith, h))
all_at P (x ∷ xs) zero d h all = all.0
all_at P (x ∷ xs) (suc i) d h all = all_at P xs i d (omega (arith, h)) all.1

pub length_placed : (vars : List Var) (places : List Place) → length places ≡ length vars → length (zip vars places) ≡ length vars
length_placed vars places e = omega (arith, length-zip vars places, e)

-- a variable with its place
pub placed_at : (vars : List Var) (places : List VarPlace) (i : ℕ) (x : Var) (d : VarPlace) → length (places_of places) ≡ length vars → i < length vars → x ≡ get_or vars i x
    → (x, place_of (get_or places i d)) ≡ get_or (zip vars (places_of places)) i (x, place_of (get_or places i d))
placed_at vars places i x d e h is =
    let within : i < length places = omega (arith, h, e, length-map places place_of) in
    let place : get_or (places_of places) i (place_of (get_or places i d)) ≡ place_of (get_or places i d) = get_or-map place_of places i d (place_of (get_or places i d)) within in
    let pair = get_or-zip vars (places_of places) i (x, place_of (get_or places i d)) h (omega (arith, h, e)) in
    sym (pair ∙ λ k. (sym is k, place k))

pub place_at : (v : Version) (places : List VarPlace) (i : ℕ) (d : VarPlace) → i < length places → AllByRecursion (LegalPlace v) (places_of places) → LegalPlace v (place_of (get_or places i d))
place_at v places i d h all =
    subst (LegalPlace v) (get_or-map place_of places i d (place_of d) h) (all_at (LegalPlace v) (places_of places) i (place_of d) (omega (arith, h, length-map places place_of)) all)

-- ---- the version

pub byte_fits : (v : Version) → byte_of v % 256 ≡ byte_of v
byte_fits V1 = refl
byte_fits V2 = refl
byte_fits V5 = refl
