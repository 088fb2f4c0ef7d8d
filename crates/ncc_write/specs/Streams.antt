-- Bytes on their way to a sink, through a buffer.
use Rattle.std.specs.Prelude.{◌≡◌, ℕ, List, ◌++◌, Option, Result, Ok, Err}
use Rattle.ncc_schema.specs.Device.{Puts}
use Rattle.ncc_values.specs.declared.failures.Device.{Device}

-- some more bytes were put after those that wait: what went out, and what waits now, are all of them; after a failure
-- a front of them went out
abbrev pub Streams : (old new : Option (List ℕ)) → (waits waiting : List ℕ) → (more : List ℕ)
    → Result (Unit {0}) Device → Type 0
Streams old new waits waiting more (Ok x) = (out : List ℕ) × Puts old new out × (waits ++ more ≡ out ++ waiting)
Streams old new waits waiting more (Err e) =
    (out : List ℕ) × (rest : List ℕ) × Puts old new out × (waits ++ more ≡ out ++ rest)
