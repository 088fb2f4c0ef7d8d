use Rattle.std.proofs.Common.{◌≡◌, ℕ, List, Bool, true, false, refl, sym}
use Rattle.std.specs.Str.{IsUtf8, is_utf8}
use Rattle.std.proofs.lemmas.Str.{IsUtf8-from_is_utf8, is_utf8-from_IsUtf8}
use Rattle.ncc_answers.proofs.objects.is_text.Goals as goal

pub returns-in-Ok : goal.returns-in-Ok
returns-in-Ok c = sym (is_utf8-from_IsUtf8 c.args.path.now c.in-Ok.ensures.cases.1)

by_test : (bytes : List ℕ) (b : Bool) → is_utf8 bytes ≡ b → (IsUtf8 bytes → ⊥) → false ≡ is_utf8 bytes
by_test bytes true e other = absurd (other (IsUtf8-from_is_utf8 bytes e))
by_test bytes false e other = sym e

pub returns-in-Err : goal.returns-in-Err
returns-in-Err c = by_test c.args.path.now (is_utf8 c.args.path.now) refl c.in-Err.ensures.cases.0
