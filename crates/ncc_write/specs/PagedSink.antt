-- A sink with a buffer before it.
use Rattle.std.specs.Prelude.{◌≡◌, ℕ, ◌+◌, ◌*◌, ◌/◌, max, List, take}
use Rattle.ncc_write.specs.declared.paged_sink.PagedSink.{PagedSink}

-- the bytes that go out at once
abbrev pub page_size : ℕ
page_size = 65536

abbrev pub sink_of : {W : Type 0} → PagedSink W → W
sink_of o = o.sink

-- the bytes that wait in the buffer
abbrev pub waiting : {W : Type 0} → PagedSink W → List ℕ
waiting o = take o.filled o.buffer.items

-- of so many bytes that were given since the start, the first ones at once, those that are out: the first ones, or all
-- whole pages where that is more
abbrev pub out_of : (first given : ℕ) → ℕ
out_of first given = max first (given / page_size * page_size)

-- the others wait, and go out where they fill the page
pub record IsPaged (first given filled full : ℕ) : Type 0 where
  pub waits : out_of first given + filled ≡ given
  pub page : out_of first given + full ≡ (given / page_size + 1) * page_size

abbrev pub Paged : {W : Type 0} → (first given : ℕ) → PagedSink W → Type 0
Paged first given o = IsPaged first given o.filled o.full
