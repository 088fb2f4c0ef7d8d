-- Lists of bytes.
use Rattle.std.specs.Prelude.{ℕ, List, ◌<◌, get_or}

-- each is a byte: as `IsBytes`, in a form that a struct can keep as a fact
abbrev pub AreBytes : List ℕ → Type 0
AreBytes bytes = (i : ℕ) → get_or bytes i 0 < 256
