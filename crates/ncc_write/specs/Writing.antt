-- What a writer has taken, what it puts out for that, which values come next, and what it refuses.
use Rattle.std.specs.Prelude.{◌≡◌, ◌<◌, ◌≤◌, Result, Ok, Err, ℕ, zero, suc, ◌+◌, ◌-◌, ◌/◌, ◌%◌, ltb, not, Bool, true, false, Option, Some, None, List, [], ◌∷◌, ◌++◌, length, take, drop, if◌then◌else◌, sum_by, filter}
use Rattle.std.specs.List.{flat_map, range_with_len}
use Rattle.ncc_values.specs.Values.{type_of, count_of, bytes_of, values_of}
use Rattle.ncc_values.specs.XType.{size_of}
use Rattle.ncc_values.specs.declared.values.Values.{Values}
use Rattle.ncc_schema.specs.declared.schema.Dim.{Dim}
use Rattle.ncc_schema.specs.declared.schema.Var.{Var}
use Rattle.ncc_schema.specs.declared.schema.Schema.{Schema}
use Rattle.ncc_layout.specs.Sizes.{slab, record_vars}
use Rattle.ncc_layout.specs.Plans.{known}
use Rattle.ncc_values.specs.Failures.{Rose}
use Rattle.ncc_schema.specs.Device.{Puts}
use Rattle.ncc_build.specs.declared.fault.WriteFault.{WriteFault}
use Rattle.ncc_build.specs.declared.fault.WriteFault.TheVariants.{WrongType, TooManyValues, Unfinished, Failed, Complete, Device, Memory}
use Rattle.ncc_build.specs.Fill.{same_type, fills}
use Rattle.ncc_schema.specs.Schema.{is_record_var}
use Rattle.ncc_build.specs.Dataset.{Slab, elements, slabs_from, record_slabs, fixed_vars, slabs_of, Dataset, IsDataset, data_of}
use Rattle.ncc_build.specs.File.{padding_bytes, header_of, file_of}

-- ---- a writer

-- where a writer stands
pub record WriterState : Type 0 where
  pub schema : Schema
  -- the bytes of the values that it has taken, in writing order, without padding
  pub taken : List ℕ
  -- its sink failed
  pub failed : Bool

-- ---- the place of the next value

pub record Next : Type 0 where
  pub slab : Slab
  -- the elements of the slab that are still to come
  pub left : ℕ

-- the first of these slabs that so many bytes don't fill
abbrev pub next_in : Schema → List Slab → (taken : ℕ) → Option Next
next_in s [] n = None
next_in s (b ∷ slabs) n =
    let size = slab s.dims b.var in
    if ltb n size then Some (record { slab = b; left = (size - n) / size_of b.var.xtype })
    else next_in s slabs (n - size)

-- the bytes after the last whole element
abbrev pub part_in : Schema → List Slab → (taken : ℕ) → ℕ
part_in s [] n = 0
part_in s (b ∷ slabs) n =
    let size = slab s.dims b.var in
    if ltb n size then n % size_of b.var.xtype else part_in s slabs (n - size)

-- None where all values have been taken
abbrev pub next_of : Schema → (taken : List ℕ) → Option Next
next_of s taken = next_in s (slabs_of s) (length taken)

-- the bytes taken end after a whole element
abbrev pub IsWhole : Schema → (taken : List ℕ) → Type 0
IsWhole s taken = part_in s (slabs_of s) (length taken) ≡ 0

-- the first of these slabs, with all its elements
abbrev pub first_of : Schema → List Slab → Option Next
first_of s [] = None
first_of s (b ∷ slabs) = Some (record { slab = b; left = elements s.dims b.var })

-- the slabs of the fixed variables, and of one record, from a variable on
abbrev pub fixed_from : Schema → (number : ℕ) → List Slab
fixed_from s n = filter (λ b. not (is_record_var s.dims b.var)) (slabs_from 0 n (drop n s.vars))

abbrev pub record_from : Schema → (in_record number : ℕ) → List Slab
record_from s r n = filter (λ b. is_record_var s.dims b.var) (slabs_from r n (drop n s.vars))

-- the slabs after this one in writing order
abbrev pub slabs_behind : Schema → Slab → List Slab
slabs_behind s b =
    if is_record_var s.dims b.var
    then record_from s b.in_record (suc b.number)
    ++ flat_map (record_slabs s) (range_with_len (b.in_record + 1) (known s.count - (b.in_record + 1)))
    else fixed_from s (suc b.number) ++ flat_map (record_slabs s) (range_with_len 0 (known s.count))

-- the variable, the record, and how many elements of the slab are left
abbrev pub told : Option Next → Option (ℕ × ℕ × ℕ)
told None = None
told (Some n) = Some (n.slab.number, n.slab.in_record, n.left)

-- nothing after a failure
abbrev pub expected : WriterState → Option (ℕ × ℕ × ℕ)
expected w = if w.failed then None else told (next_of w.schema w.taken)

-- ---- refusals

abbrev pub refuses_next : Option Next → Values → Option WriteFault
refuses_next None values = Some Complete
refuses_next (Some n) values =
    if not (same_type (type_of values) n.slab.var.xtype) then Some WrongType
    else if ltb n.left (count_of values) then Some TooManyValues
    else None

abbrev pub refuses_put : WriterState → Values → Option WriteFault
refuses_put w values = if w.failed then Some Failed else refuses_next (next_of w.schema w.taken) values

abbrev pub refuses_fill : WriterState → Option WriteFault
refuses_fill w = if w.failed then Some Failed else None

abbrev pub refuses_unfinished : Option Next → Option WriteFault
refuses_unfinished None = None
refuses_unfinished (Some n) = Some Unfinished

abbrev pub refuses_finish : WriterState → Option WriteFault
refuses_finish w = if w.failed then Some Failed else refuses_unfinished (next_of w.schema w.taken)

-- ---- what is taken

abbrev pub with_taken : WriterState → List ℕ → WriterState
with_taken w bytes = record { schema = w.schema; taken = bytes; failed = w.failed }

-- with these bytes after those before
abbrev pub with_more : WriterState → List ℕ → WriterState
with_more w bytes = with_taken w (w.taken ++ bytes)

-- with these values after those before
abbrev pub with_values : WriterState → Values → WriterState
with_values w values = with_more w (bytes_of values)

-- the bytes taken, and fill values for all that is left of these slabs
abbrev pub filled_in : Schema → List Slab → (taken : List ℕ) → List ℕ
filled_in s [] taken = []
filled_in s (b ∷ slabs) taken =
    let size = slab s.dims b.var in
    take size taken ++ fills ((size - length taken) / size_of b.var.xtype) b.var ++ filled_in s slabs (drop size taken)

abbrev pub with_fills : WriterState → WriterState
with_fills w = with_taken w (filled_in w.schema (slabs_of w.schema) w.taken)

abbrev pub as_failed : WriterState → WriterState
as_failed w = record { schema = w.schema; taken = w.taken; failed = true }

-- the bytes of all values of a schema
abbrev pub data_length : Schema → ℕ
data_length s = sum_by (λ b. slab s.dims b.var) (slabs_of s)

-- a writer that has taken nothing
abbrev pub starting : Schema → WriterState
starting s = record { schema = s; taken = []; failed = false }

-- ---- what goes out

-- the slabs that these bytes fill, each with its padding, and what there is of the next
abbrev pub laid_in : Schema → List Slab → (taken : List ℕ) → List ℕ
laid_in s [] taken = []
laid_in s (b ∷ slabs) taken =
    let size = slab s.dims b.var in
    if ltb (length taken) size then taken
    else take size taken ++ padding_bytes s b.var ++ laid_in s slabs (drop size taken)

-- the header, and what was taken with its padding
abbrev pub written : Schema → (taken : List ℕ) → List ℕ
written s taken = header_of s ++ laid_in s (slabs_of s) taken

-- what is written once k more elements were taken, of those that are left of a slab: with the last of them its padding
abbrev pub grown : Schema → Next → (old bytes : List ℕ) → (k : ℕ) → List ℕ
grown s n old bytes k = if ltb k n.left then old ++ bytes else old ++ bytes ++ padding_bytes s n.slab.var

-- where a writer stands once k more elements were taken
pub record Grows (s : Schema) (taken bytes : List ℕ) (k : ℕ) (n : Next) : Type 0 where
  pub whole : IsWhole s (taken ++ bytes)
  pub written_is : written s (taken ++ bytes) ≡ grown s n (written s taken) bytes k
  pub within : length (taken ++ bytes) ≤ data_length s
  pub next_is : k < n.left → next_of s (taken ++ bytes) ≡ Some (record { slab = n.slab; left = n.left - k })

-- ---- the dataset of what was taken

abbrev pub values_from : List Dim → List Var → List ℕ → List Values
values_from dims [] bytes = []
values_from dims (x ∷ vars) bytes =
    values_of x.xtype (take (slab dims x) bytes) ∷ values_from dims vars (drop (slab dims x) bytes)

-- the bytes of a slab of each variable
abbrev pub slabs_size : List Dim → List Var → ℕ
slabs_size dims [] = 0
slabs_size dims (x ∷ vars) = slab dims x + slabs_size dims vars

abbrev pub records_from : List Dim → List Var → (number : ℕ) → List ℕ → List (List Values)
records_from dims vars zero bytes = []
records_from dims vars (suc n) bytes =
    values_from dims vars bytes ∷ records_from dims vars n (drop (slabs_size dims vars) bytes)

-- the dataset whose values have these bytes in writing order
abbrev pub dataset_from : Schema → (fixed record_vars : List Var) → List ℕ → Dataset
dataset_from s fixed records bytes = record {
  schema = s;
  fixed = values_from s.dims fixed bytes;
  records = records_from s.dims records (known s.count) (drop (slabs_size s.dims fixed) bytes);
}

abbrev pub dataset_of : Schema → List ℕ → Dataset
dataset_of s bytes = dataset_from s (fixed_vars s.dims s.vars) (record_vars s.dims s.vars) bytes

-- ---- after a failure

abbrev pub IsFront : (front whole : List ℕ) → Type 0
IsFront front whole = (rest : List ℕ) × (whole ≡ front ++ rest)

-- what went out is a front of the file of every dataset whose values begin with these
abbrev pub IsFrontOfFiles : Schema → (values out : List ℕ) → Type 0
IsFrontOfFiles s values out = (d : Dataset) → IsDataset d → d.schema ≡ s → IsFront values (data_of d)
    → IsFront out (file_of d)

-- ---- what a sink has got

-- some bytes went out since the start, of which the sink had put out these then, and has put out those now
abbrev pub Went : (start put : Option (List ℕ)) → (List ℕ → Type 0) → Type 0
Went start put P = (out : List ℕ) × Puts start put out × P out

-- what went out, and what still stands in the buffer, is what the writer has written; after a failure what went
-- out is a front of that, whatever would follow
abbrev pub IsOutBy : (failed : Bool) → WriterState → (buffer out : List ℕ) → Type 0
IsOutBy false w buffer out = out ++ buffer ≡ written w.schema w.taken
IsOutBy true w buffer out = IsFrontOfFiles w.schema w.taken out

abbrev pub IsOut : WriterState → (buffer out : List ℕ) → Type 0
IsOut w buffer out = IsOutBy w.failed w buffer out

-- a writer that isn't started: with no memory nothing went out, and after a failure of the sink a front of the header
abbrev pub StartFails : (old new : Option (List ℕ)) → (old_count new_count : ℕ) → (header : List ℕ)
    → WriteFault → Type 0
StartFails old new m n header Memory = (new ≡ old) × (n ≡ m)
StartFails old new m n header Device = Went old new (λ out. IsFront out header) × Rose m n
StartFails old new m n header _ = ⊥

-- ---- answers of a call

-- refused exactly so, unless the sink failed
abbrev pub IsAnswer : {T E : Type 0} → (fault_of : E → WriteFault) → Option WriteFault → Result T E → Type 0
IsAnswer fault_of None (Ok x) = Unit {0}
IsAnswer fault_of (Some f) (Ok x) = ⊥
IsAnswer fault_of None (Err e) = fault_of e ≡ Device
IsAnswer fault_of (Some f) (Err e) = fault_of e ≡ f

-- refused exactly so
abbrev pub IsExactly : {T E : Type 0} → (fault_of : E → WriteFault) → Option WriteFault → Result T E → Type 0
IsExactly fault_of None (Ok x) = Unit {0}
IsExactly fault_of (Some f) (Ok x) = ⊥
IsExactly fault_of None (Err e) = ⊥
IsExactly fault_of (Some f) (Err e) = fault_of e ≡ f

-- where a writer stands after a call that takes these values: only a failure of the sink is kept
abbrev pub StandsAfter : (old taking new : WriterState) → Result (Unit {0}) WriteFault → Type 0
StandsAfter old taking new (Ok x) = new ≡ taking
StandsAfter old taking new (Err Device) = new ≡ as_failed taking
StandsAfter old taking new (Err e) = new ≡ old

-- a failure of the sink is counted, and nothing else
abbrev pub CountsFailure : (old new : ℕ) → Result (Unit {0}) WriteFault → Type 0
CountsFailure old new (Err Device) = Rose old new
CountsFailure old new result = new ≡ old
