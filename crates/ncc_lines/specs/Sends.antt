-- Sending a text.
use Rattle.std.specs.Prelude.{◌≡◌, ℕ, List, ◌++◌, Option, Result, Ok, Err}
use Rattle.ncc_schema.specs.Device.{Puts}
use Rattle.ncc_values.specs.Failures.{Rose}
use Rattle.ncc_lines.specs.declared.send_error.SendError.{SendError}
use Rattle.ncc_lines.specs.declared.send_error.SendError.TheVariants.{Device}

-- a front of the text went out
abbrev pub PutsFront : (old new : Option (List ℕ)) → (text : List ℕ) → Type 0
PutsFront old new text = (front : List ℕ) × (rest : List ℕ) × (text ≡ front ++ rest) × Puts old new front

-- all of the text went out, or a front of it
abbrev pub SendsAll : (old new : Option (List ℕ)) → (text : List ℕ) → Result (Unit {0}) SendError → Type 0
SendsAll old new text (Ok x) = Puts old new text
SendsAll old new text (Err e) = PutsFront old new text

-- a front of the text went out, and these bytes of it are left
pub record SentUpTo (old new : Option (List ℕ)) (text rest : List ℕ) : Type 0 where
  pub sent : List ℕ
  pub joined : text ≡ sent ++ rest
  pub puts : Puts old new sent

-- Of a text, which begins with what a page held, a front went out and the rest is on the page; or, after an
-- error, a front went out.
abbrev pub Sends : (old new : Option (List ℕ)) → (text page : List ℕ) → Result (Unit {0}) SendError → Type 0
Sends old new text page (Ok x) = SentUpTo old new text page
Sends old new text page (Err e) = PutsFront old new text

-- the device is blamed only where it failed
abbrev pub Blames : (old new : ℕ) → Result (Unit {0}) SendError → Type 0
Blames old new (Err Device) = Rose old new
Blames old new result = new ≡ old
