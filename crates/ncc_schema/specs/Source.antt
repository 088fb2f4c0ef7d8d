-- What a source over a reader is made of.
use Rattle.std.specs.Prelude.{ℕ}
use Rattle.ncc_schema.specs.declared.source.ReadSource.{ReadSource}

abbrev pub reader_of : {R : Type 0} → ReadSource R → R
reader_of s = s.inner

abbrev pub read_failures : {R : Type 0} → ReadSource R → ℕ
read_failures s = s.failures
