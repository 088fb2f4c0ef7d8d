-- What a call that isn't refused has.
use Rattle.std.proofs.Common.{◌≡◌, ℕ, ◌+◌, ◌<◌, ◌≤◌, Bool, true, false, ◌||◌, List, [], ◌∷◌, ◌++◌, length, Option, Some, None, refl, arith, true≢false}
use Rattle.std.specs.Prelude.{if◌then◌else◌, leb}
use Rattle.std.specs.List.{AllByRecursion, list_any}
use Rattle.std.proofs.lemmas.Bool.{ltb-false, leb-false, or_parts}
use Rattle.ncc_values.specs.declared.version.Version.{Version}
use Rattle.ncc_values.specs.declared.version.Version.TheVariants.{V1, V2, V5}
use Rattle.ncc_values.specs.declared.xtype.XType.{XType}
use Rattle.ncc_values.specs.declared.xtype.XType.TheVariants.{Byte, Char, Short, Int, Float, Double, UByte, UShort, UInt, Int64, UInt64}
use Rattle.ncc_schema.specs.declared.schema.Dim.{Dim}
use Rattle.ncc_schema.specs.Schema.{count_limit, length_limit, streaming_mark, is_record, IsFixed, IsTypeOf, LegalDims}
use Rattle.ncc_build.specs.declared.fault.WriteFault.{WriteFault}
use Rattle.ncc_build.specs.declared.fault.WriteFault.TheVariants.{BadName, DuplicateName, TwoRecordDims, BadDimId, RecordDimNotFirst, TypeForVersion, CountForVersion}
use Rattle.ncc_build.specs.Building.{first_refusal, name_limit, is_bad_name, is_duplicate_name, makes_two_record_dims, is_past, lacks_type_for_version, has_bad_dim_id, has_record_dim_not_first}
use Rattle.ncc_build.specs.Judging.{name_refusals, dim_refusals, dims_refusals, kind_refusals, exceeds_count_for_version}

-- ---- limits

pub names_fit : (v : Version) (n : ℕ) → n ≤ name_limit → n < count_limit v
names_fit V1 n le = omega arith
names_fit V2 n le = omega arith
names_fit V5 n le = omega arith

pub lengths_fit : (v : Version) (n : ℕ) → n < count_limit v → n < length_limit v
lengths_fit V1 n less = omega arith
lengths_fit V2 n less = omega arith
lengths_fit V5 n less = less

pub counts_fit : (v : Version) (n : ℕ) → n < count_limit v → n < streaming_mark v
counts_fit V1 n less = omega arith
counts_fit V2 n less = omega arith
counts_fit V5 n less = omega arith

-- ---- refusals that don't hold

none_by : (b : Bool) (f : WriteFault) (rest : Option WriteFault) → (if b then Some f else rest) ≡ None → (b ≡ false) × (rest ≡ None)
none_by true f rest e = absurd cc
none_by false f rest e = (refl, e)

one_none : (r : Bool × WriteFault) (rs : List (Bool × WriteFault)) → first_refusal (r ∷ rs) ≡ None → (r.0 ≡ false) × (first_refusal rs ≡ None)
one_none r rs e = none_by r.0 r.1 (first_refusal rs) e

room_there : (v : Version) (items number : ℕ) → exceeds_count_for_version v items number ≡ false → (items + 1 < count_limit v) × (number < count_limit v)
room_there v items number e =
    let p = or_parts (is_past v (items + 1)) (is_past v number || false) e in
    (leb-false (count_limit v) (items + 1) p.0, leb-false (count_limit v) number (or_parts (is_past v number) false p.1).0)

-- the name is short and new
pub name_passes : (names : List (List ℕ)) (name : List ℕ) (rest : List (Bool × WriteFault)) → first_refusal (name_refusals true names name ++ rest) ≡ None
    → (length name ≤ name_limit) × (is_duplicate_name name names ≡ false) × (first_refusal rest ≡ None)
name_passes names name rest e =
    let bad = one_none (is_bad_name true name, BadName) ((is_duplicate_name name names, DuplicateName) ∷ rest) e in
    let among = one_none (is_duplicate_name name names, DuplicateName) rest bad.1 in
    (ltb-false name_limit (length name) bad.0, among.0, among.1)

-- ---- types

typed : (v : Version) (t : XType) → lacks_type_for_version v t ≡ false → IsTypeOf v t
typed V1 Byte e = refl
typed V1 Char e = refl
typed V1 Short e = refl
typed V1 Int e = refl
typed V1 Float e = refl
typed V1 Double e = refl
typed V1 UByte e = absurd (true≢false e)
typed V1 UShort e = absurd (true≢false e)
typed V1 UInt e = absurd (true≢false e)
typed V1 Int64 e = absurd (true≢false e)
typed V1 UInt64 e = absurd (true≢false e)
typed V2 Byte e = refl
typed V2 Char e = refl
typed V2 Short e = refl
typed V2 Int e = refl
typed V2 Float e = refl
typed V2 Double e = refl
typed V2 UByte e = absurd (true≢false e)
typed V2 UShort e = absurd (true≢false e)
typed V2 UInt e = absurd (true≢false e)
typed V2 Int64 e = absurd (true≢false e)
typed V2 UInt64 e = absurd (true≢false e)
typed V5 Byte e = refl
typed V5 Char e = refl
typed V5 Short e = refl
typed V5 Int e = refl
typed V5 Float e = refl
typed V5 Double e = refl
typed V5 UByte e = refl
typed V5 UShort e = refl
typed V5 UInt e = refl
typed V5 Int64 e = refl
typed V5 UInt64 e = refl

-- ---- what follows the judging of the name

pub dim_passes : (v : Version) (dims : List Dim) (n : ℕ) → first_refusal (dim_refusals v dims n) ≡ None → (makes_two_record_dims dims n ≡ false) × (length dims + 1 < count_limit v) × (n < count_limit v)
dim_passes v dims n e =
    let second = one_none (makes_two_record_dims dims n, TwoRecordDims) ((exceeds_count_for_version v (length dims) n, CountForVersion) ∷ []) e in
    let past = one_none (exceeds_count_for_version v (length dims) n, CountForVersion) [] second.1 in
    let room = room_there v (length dims) n past.0 in
    (second.0, room.0, room.1)

pub kind_passes : (v : Version) (t : XType) (items number : ℕ) → first_refusal (kind_refusals v t items number) ≡ None → IsTypeOf v t × (items + 1 < count_limit v) × (number < count_limit v)
kind_passes v t items number e =
    let foreign = one_none (lacks_type_for_version v t, TypeForVersion) ((exceeds_count_for_version v items number, CountForVersion) ∷ []) e in
    let past = one_none (exceeds_count_for_version v items number, CountForVersion) [] foreign.1 in
    let room = room_there v items number past.0 in
    (typed v t foreign.0, room.0, room.1)

-- ---- dimensions of a variable

all_there : (dims : List Dim) (ids : List ℕ) → list_any (leb (length dims)) ids ≡ false → AllByRecursion (λ n. n < length dims) ids
all_there dims [] e = tt
all_there dims (n ∷ ids) e =
    let p = or_parts (leb (length dims) n) (list_any (leb (length dims)) ids) e in
    (leb-false (length dims) n p.0, all_there dims ids p.1)

all_fixed : (dims : List Dim) (ids : List ℕ) → AllByRecursion (λ n. n < length dims) ids → list_any (is_record dims) ids ≡ false → AllByRecursion (IsFixed dims) ids
all_fixed dims [] there e = tt
all_fixed dims (n ∷ ids) there e =
    let p = or_parts (is_record dims n) (list_any (is_record dims) ids) e in
    ((there.0, p.0), all_fixed dims ids there.1 p.1)

ids_legal : (dims : List Dim) (ids : List ℕ) → has_bad_dim_id dims ids ≡ false → has_record_dim_not_first dims ids ≡ false → LegalDims dims ids
ids_legal dims [] there fixed = tt
ids_legal dims (n ∷ ids) there fixed =
    let all = all_there dims (n ∷ ids) there in
    (all.0, all_fixed dims ids all.1 fixed)

pub ids_pass : (dims : List Dim) (ids : List ℕ) (rest : List (Bool × WriteFault)) → first_refusal (dims_refusals dims ids ++ rest) ≡ None → LegalDims dims ids × (first_refusal rest ≡ None)
ids_pass dims ids rest e =
    let missing = one_none (has_bad_dim_id dims ids, BadDimId) ((has_record_dim_not_first dims ids, RecordDimNotFirst) ∷ rest) e in
    let behind = one_none (has_record_dim_not_first dims ids, RecordDimNotFirst) rest missing.1 in
    (ids_legal dims ids missing.0 behind.0, behind.1)
