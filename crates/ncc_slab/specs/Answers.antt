-- What the calls that select answer.
use Rattle.std.specs.Prelude.{◌≡◌, ℕ, ◌/◌, min, drop, length, Some, None, Result, Ok, Err, List}
use Rattle.ncc_values.specs.Failures.{Rose}
use Rattle.ncc_layout.specs.declared.placed_var.PlacedVar.{PlacedVar}
use Rattle.ncc_slab.specs.declared.slab.Slab.{Slab}
use Rattle.ncc_slab.specs.declared.fault.SlabFault.{SlabFault}
use Rattle.ncc_slab.specs.declared.fault.SlabFault.TheVariants.{Device, Memory}
use Rattle.ncc_slab.specs.Refusals.{slab_fault}

-- of a call without a store: exactly the selection's fault; and only where there is none a value, of which P holds, or
-- want of memory
abbrev pub SelectsAs : {A : Type 0} → List PlacedVar → (number : ℕ) → Slab → (P : A → Type 0) → Result A SlabFault → Type 0
SelectsAs vars n s P (Ok a) = (slab_fault vars n s ≡ None) × P a
SelectsAs vars n s P (Err Device) = ⊥
SelectsAs vars n s P (Err Memory) = slab_fault vars n s ≡ None
SelectsAs vars n s P (Err fault) = slab_fault vars n s ≡ Some fault

-- of a call that reads: exactly the selection's fault; and only where there is none a value, or a failure
abbrev pub ReadsAs : {A : Type 0} → List PlacedVar → (number : ℕ) → Slab → Result A SlabFault → Type 0
ReadsAs vars n s (Ok a) = slab_fault vars n s ≡ None
ReadsAs vars n s (Err Device) = slab_fault vars n s ≡ None
ReadsAs vars n s (Err Memory) = slab_fault vars n s ≡ None
ReadsAs vars n s (Err fault) = slab_fault vars n s ≡ Some fault

-- the store failed exactly where the answer is Device
abbrev pub SlabCounts : {A : Type 0} → (old new : ℕ) → Result A SlabFault → Type 0
SlabCounts old new (Err Device) = Rose old new
SlabCounts old new answer = new ≡ old

-- the same of a call that has no selection to refuse
abbrev pub PartCounts : {A : Type 0} → (old new : ℕ) → Result A SlabFault → Type 0
PartCounts old new (Ok a) = new ≡ old
PartCounts old new (Err Device) = Rose old new
PartCounts old new (Err Memory) = new ≡ old
PartCounts old new (Err fault) = ⊥

-- the bytes of a reader's buffer
abbrev pub buffer_length : ℕ
buffer_length = 65536

-- how many elements of this size the next part has, where these places are left
abbrev pub part_count : (size : ℕ) → (left : List ℕ) → ℕ
part_count size left = min (length left) (buffer_length / size)

-- the next part was taken: so many elements, and the places after them are left
abbrev pub TakesPart : (size : ℕ) → (old new : List ℕ) → (count : ℕ) → Type 0
TakesPart size old new n = (n ≡ part_count size old) × (new ≡ drop n old)
