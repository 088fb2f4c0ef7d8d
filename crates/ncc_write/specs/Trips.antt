-- A dataset goes into a file in memory, which is checked and read back.
use Rattle.std.specs.Prelude.{◌≡◌, ℕ, ◌+◌, ◌%◌, ◌<◌, ◌≤◌, false, Result, Ok, Err, Option, Some, None, List, [], ◌++◌, length, take, drop}
use Rattle.ncc_values.specs.XType.{size_of}
use Rattle.ncc_schema.specs.declared.schema.Schema.{Schema}
use Rattle.ncc_layout.specs.Elements.{var_at}
use Rattle.ncc_layout.specs.Placed.{record_size_of_file, vars_of}
use Rattle.ncc_layout.specs.Plans.{known}
use Rattle.ncc_layout.specs.declared.placed_file.Placed.{Placed}
use Rattle.ncc_check.specs.declared.report.Report.{Report}
use Rattle.ncc_slab.specs.Selected.{bytes_at}
use Rattle.ncc_slab.specs.SlabPlaces.{HasSlab, slab_begin}
use Rattle.ncc_slab.specs.declared.fault.SlabFault.{SlabFault}
use Rattle.ncc_slab.specs.declared.fault.SlabFault.TheVariants as slab_fault
use Rattle.ncc_build.specs.Dataset.{slabs_of}
use Rattle.ncc_build.specs.File.{header_of}
use Rattle.ncc_build.specs.declared.fault.WriteFault.{WriteFault}
use Rattle.ncc_build.specs.declared.fault.WriteFault.TheVariants as write
use Rattle.ncc_layout.specs.Sizes.{slab}
use Rattle.ncc_write.specs.declared.slab_order.SlabOrder.{SlabOrder}
use Rattle.ncc_write.specs.declared.trip_checking.Due.{Due}
use Rattle.ncc_write.specs.declared.trip_fault.TripFault.{TripFault}
use Rattle.ncc_write.specs.declared.trip_fault.TripFault.TheVariants as fault
use Rattle.ncc_write.specs.declared.writer.FileWriter.{FileWriter}
use Rattle.ncc_write.specs.Laws.{IsCompleted}
use Rattle.ncc_write.specs.Positions.{end_of, slab_at}
use Rattle.ncc_write.specs.VarSlabs.{IsSlabOrder}
use Rattle.ncc_write.specs.Writer.{Stands}
use Rattle.ncc_write.specs.Writing.{WriterState, data_length, expected, next_of, with_more}

-- ---- the whole

-- all is the same exactly where the header isn't longer than the limit and the bytes are as many as the values have;
-- nothing differs; memory may be refused
abbrev pub TripsAs : Schema → (bytes : List ℕ) → (limit : ℕ) → Result (Unit {0}) TripFault → Type 0
TripsAs s bytes limit (Ok x) = (length (header_of s) ≤ limit) × (length bytes ≡ data_length s)
TripsAs s bytes limit (Err fault.HeaderTooLong) = limit < length (header_of s)
TripsAs s bytes limit (Err fault.WrongLength) = (length (header_of s) ≤ limit) × (length bytes ≡ data_length s → ⊥)
TripsAs s bytes limit (Err fault.Differs) = ⊥
TripsAs s bytes limit (Err fault.Memory) = Unit {0}

-- ---- putting

-- a sink in memory fails where memory is refused; nothing else is refused
abbrev pub of_write : WriteFault → TripFault
of_write write.Device = fault.Memory
of_write write.Memory = fault.Memory
of_write _ = fault.Differs

-- a writer whose sink hasn't failed
abbrev pub Stood : {W : Type 0} → (put : Option (List ℕ)) → FileWriter W → Type 0
Stood put x = (start : Option (List ℕ)) × (w : WriterState) × Stands start put x w × (w.failed ≡ false)

-- it expects the slab of this variable, of which so many elements are left
abbrev pub Awaits : {W : Type 0} → (put : Option (List ℕ)) → FileWriter W → (var left : ℕ) → Type 0
Awaits put x var left = (number : ℕ)
    × ((start : Option (List ℕ)) (w : WriterState) → Stands start put x w → Some (var, number, left) ≡ expected w)

-- some of the bytes were taken; or they are too few
abbrev pub PutsSlab : {W : Type 0} → (start put : Option (List ℕ)) → FileWriter W → WriterState → (bytes : List ℕ)
    → Result ℕ TripFault → Type 0
PutsSlab start put x w bytes (Ok n) = (0 < n) × (n ≤ length bytes) × Stands start put x (with_more w (take n bytes))
PutsSlab start put x w bytes (Err fault.WrongLength) = length (w.taken ++ bytes) < data_length w.schema
PutsSlab start put x w bytes (Err fault.Memory) = Unit {0}
PutsSlab start put x w bytes (Err _) = ⊥

-- all bytes were taken, and no value is missing; or they are too few or too many
abbrev pub PutsAll : {W : Type 0} → (start put : Option (List ℕ)) → FileWriter W → WriterState → (bytes : List ℕ)
    → Result (Unit {0}) TripFault → Type 0
PutsAll start put x w bytes (Ok u) = Stands start put x (with_more w bytes) × (next_of w.schema (w.taken ++ bytes) ≡ None)
PutsAll start put x w bytes (Err fault.WrongLength) = length (w.taken ++ bytes) ≡ data_length w.schema → ⊥
PutsAll start put x w bytes (Err fault.Memory) = Unit {0}
PutsAll start put x w bytes (Err _) = ⊥

-- the completed file, exactly where the bytes are as many as the values have
abbrev pub WritesAs : {T : Type 0} → (items : T → List ℕ) → Schema → (bytes : List ℕ) → Result T TripFault → Type 0
WritesAs items s bytes (Ok file) = (length bytes ≡ data_length s) × ∥ IsCompleted s bytes (items file) ∥₁
WritesAs items s bytes (Err fault.WrongLength) = length bytes ≡ data_length s → ⊥
WritesAs items s bytes (Err fault.Memory) = Unit {0}
WritesAs items s bytes (Err _) = ⊥

-- ---- checking

pub record IsDue (s : Schema) (d : Due) : Type 0 where
  pub version : d.version ≡ s.version
  pub records : d.records ≡ known s.count
  pub variables : d.variables ≡ length s.vars

pub record IsSaid (d : Due) (r : Report) : Type 0 where
  pub version : r.version ≡ d.version
  pub records : r.records ≡ d.records
  pub variables : r.variables ≡ d.variables
  pub notes : r.notes ≡ []

-- ---- reading

-- a store in memory fails where memory is refused; nothing else is refused
abbrev pub of_slab : SlabFault → TripFault
of_slab slab_fault.Device = fault.Memory
of_slab slab_fault.Memory = fault.Memory
of_slab _ = fault.Differs

-- the slab with this number in writing order is in the file, and its bytes there are those that were put for it
pub record SlabReads (file : List ℕ) (p : Placed) (s : Schema) (bytes : List ℕ) (k : ℕ) : Type 0 where
  pub has : HasSlab p (slab_at s k).number (slab_at s k).in_record
  pub long : (var_at (vars_of p) (slab_at s k).number).extent.slab ≡ slab s.dims (slab_at s k).var
  pub whole : slab s.dims (slab_at s k).var % size_of (var_at (vars_of p) (slab_at s k).number).xtype ≡ 0
  pub room : end_of s k + slab s.dims (slab_at s k).var ≤ length bytes
  pub next : end_of s (k + 1) ≡ end_of s k + slab s.dims (slab_at s k).var
  pub there : bytes_at file
      (slab_begin (record_size_of_file p) (var_at (vars_of p) (slab_at s k).number) (slab_at s k).in_record)
      (var_at (vars_of p) (slab_at s k).number).extent.slab
      ≡ take (slab s.dims (slab_at s k).var) (drop (end_of s k) bytes)

-- so it is of all slabs, in their order
pub record AllRead (file : List ℕ) (p : Placed) (c : SlabOrder) (bytes : List ℕ) : Type 0 where
  pub schema : Schema
  pub slab_order : IsSlabOrder schema c
  pub each : (k : ℕ) → k < length (slabs_of schema) → SlabReads file p schema bytes k
