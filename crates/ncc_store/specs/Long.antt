-- What a store of any length holds.
use Rattle.std.specs.Prelude.{ℕ, List}
use Rattle.ncc_store.specs.declared.long.LongStore.{LongStore}

-- the bytes that it begins with; the others are zero
abbrev pub long_front : LongStore → List ℕ
long_front s = s.front.items

-- its number of bytes
abbrev pub long_length : LongStore → ℕ
long_length s = s.length

abbrev pub long_failures : LongStore → ℕ
long_failures s = s.failures
