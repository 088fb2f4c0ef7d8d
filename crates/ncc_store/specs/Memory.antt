-- What a store in memory holds.
use Rattle.std.specs.Prelude.{ℕ, List}
use Rattle.ncc_store.specs.declared.memory.MemStore.{MemStore}

abbrev pub memory_bytes : MemStore → List ℕ
memory_bytes m = m.bytes.items

abbrev pub memory_failures : MemStore → ℕ
memory_failures m = m.failures
