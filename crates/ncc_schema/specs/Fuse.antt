-- What a source and a sink that fail from some call on are made of.
use Rattle.std.specs.Prelude.{ℕ}
use Rattle.ncc_schema.specs.declared.fuse.FuseSource.{FuseSource}
use Rattle.ncc_schema.specs.declared.fuse.FuseSink.{FuseSink}

-- ---- the source

abbrev pub source_of : {R : Type 0} → FuseSource R → R
source_of s = s.inner

-- the calls that it still passes
abbrev pub reads_left : {R : Type 0} → FuseSource R → ℕ
reads_left s = s.fuse.calls

-- the bytes that it reads at most in a call
abbrev pub most_read : {R : Type 0} → FuseSource R → ℕ
most_read s = s.fuse.most

-- how often it failed of itself
abbrev pub own_read_failures : {R : Type 0} → FuseSource R → ℕ
own_read_failures s = s.fuse.failures

-- ---- the sink

abbrev pub sink_of : {W : Type 0} → FuseSink W → W
sink_of s = s.inner

-- the calls that it still passes
abbrev pub writes_left : {W : Type 0} → FuseSink W → ℕ
writes_left s = s.fuse.calls

-- the bytes that it writes at most in a call
abbrev pub most_written : {W : Type 0} → FuseSink W → ℕ
most_written s = s.fuse.most

-- how often it failed of itself
abbrev pub own_write_failures : {W : Type 0} → FuseSink W → ℕ
own_write_failures s = s.fuse.failures
