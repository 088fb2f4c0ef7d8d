-- What reads and writes do to the bytes that are told.
use Rattle.std.specs.Prelude.{◌≡◌, ℕ, ◌+◌, ◌<◌, ◌≤◌, List, [], ◌++◌, length, take, Option, Some, None, Result, Ok, Err}
use Rattle.std.specs.Io.KnownBytes.{IsAtEnd}
use Rattle.ncc_values.specs.declared.failures.Device.{Device}

-- told bytes are still told, and begin with these no more
abbrev pub Loses : (old new : Option (List ℕ)) → (bytes : List ℕ) → Type 0
Loses None new bytes = Unit {0}
Loses (Some xs) new bytes = (rest : List ℕ) × (new ≡ Some rest) × (xs ≡ bytes ++ rest)

-- told bytes are still told, and so many of them were taken at most
abbrev pub LosesAtMost : (old new : Option (List ℕ)) → (most : ℕ) → Type 0
LosesAtMost old new most = (bytes : List ℕ) × Loses old new bytes × (length bytes ≤ most)

-- told bytes are still told, and between these two counts there is at most one call more than bytes were taken
abbrev pub AsksFew : (old new : Option (List ℕ)) → (before after : ℕ) → Type 0
AsksFew old new before after = (bytes : List ℕ) × Loses old new bytes × (after ≤ before + length bytes + 1)

-- told bytes are still told, and end with these
abbrev pub Puts : (old new : Option (List ℕ)) → (bytes : List ℕ) → Type 0
Puts None new bytes = Unit {0}
Puts (Some xs) new bytes = new ≡ Some (xs ++ bytes)

-- a read into a buffer, which holds this afterwards: no byte only at the end, or where there is no room
abbrev pub Reads : (old new : Option (List ℕ)) → Result ℕ Device → (buffer : List ℕ) → Type 0
Reads old new (Ok n) buffer = (n ≤ length buffer) × Loses old new (take n buffer) × (n ≡ 0 → 0 < length buffer → IsAtEnd new)
Reads old new (Err e) buffer = Loses old new []

-- a write of these bytes: at least one, where there is one
abbrev pub Writes : (old new : Option (List ℕ)) → Result ℕ Device → (bytes : List ℕ) → Type 0
Writes old new (Ok n) bytes = (n ≤ length bytes) × (0 < length bytes → 0 < n) × Puts old new (take n bytes)
Writes old new (Err e) bytes = Puts old new []

-- a write of all of a text: all of it, or a front
abbrev pub WritesAll : (old new : Option (List ℕ)) → Result (Unit {0}) Device → (text : List ℕ) → Type 0
WritesAll old new (Ok x) text = Puts old new text
WritesAll old new (Err e) text = (front : List ℕ) × (rest : List ℕ) × (text ≡ front ++ rest) × Puts old new front
