-- What an open file tells of its bytes.
use Rattle.std.specs.Prelude.{Bool, true, false}

-- its header is that of the bytes, where they are told: after a failed append their count may be one more
abbrev pub tells_header : (tells_bytes must_reopen : Bool) → Bool
tells_header tells false = tells
tells_header tells true = false
