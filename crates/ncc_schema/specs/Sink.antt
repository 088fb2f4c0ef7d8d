-- What a sink over a writer is made of.
use Rattle.std.specs.Prelude.{ℕ}
use Rattle.ncc_schema.specs.declared.sink.WriteSink.{WriteSink}

abbrev pub writer_of : {W : Type 0} → WriteSink W → W
writer_of s = s.inner

abbrev pub write_failures : {W : Type 0} → WriteSink W → ℕ
write_failures s = s.failures
