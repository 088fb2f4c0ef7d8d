-- A page of a store's bytes.
use Rattle.std.specs.Prelude.{◌≡◌, ℕ, List, take, drop}

-- it holds at its front so many of the bytes, from this place on
abbrev pub Holds : (bytes page : List ℕ) (start held : ℕ) → Type 0
Holds bytes page start held = take held page ≡ take held (drop start bytes)
