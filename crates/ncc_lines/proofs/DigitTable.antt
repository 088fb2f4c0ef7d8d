-- The table of digits is held against the definition at each of the 256 bytes, by computing.
use Rattle.std.proofs.Common.{◌≡◌, ℕ, ◌<◌, [], get_or, refl, bytes_eq}
use Rattle.std.proofs.lemmas.Slice.Eq.{bytes_eq-Decides}
use Rattle.ncc_lines.specs.Words.{byte_digits}
use Rattle.ncc_lines.proofs.NameTable.{all_below, all_at}
use Rattle.ncc_lines.specs.declared.hex.TheConstants.{DIGITS}

pub digits_at : (b : ℕ) → b < 256 → get_or DIGITS b [] ≡ byte_digits b
unfolding all_below
digits_at b lt = (bytes_eq-Decides (get_or DIGITS b []) (byte_digits b)).0 (all_at (λ k. bytes_eq (get_or DIGITS k []) (byte_digits k)) 256 refl b lt)
