-- What `byteorder` reads, as the numbers of `Numbers`.
use Rattle.std.proofs.Common.{◌≡◌, ℕ, suc, ◌+◌, ◌*◌, ◌^◌, ◌<◌, List, [], ◌∷◌, length, slice_index, ap, ◌∙◌, arith}
use Rattle.std.proofs.Math.Nat.{pow-suc}
use Rattle.std.specs.Int.{w64, cast_signed}
use Rattle.std.proofs.lemmas.Int.{ints}
use Rattle.byteorder.specs.Endian.{big_from, big_number}
use Rattle.byteorder.specs.Numbers.{big_from-cons, big_from-lt}
use Rattle.ncc_values.specs.Numbers.{number_onto, number_of}
use Rattle.ncc_values.specs.External.{signed_of}

number_onto-big_from : (before : ℕ) (bytes : List ℕ) → number_onto before bytes ≡ before * 256 ^ length bytes + big_from 0 (length bytes) bytes
number_onto-big_from before [] = omega arith
number_onto-big_from before (b ∷ bytes) =
    let p = 256 ^ length bytes in
    let wider : before * 256 ^ suc (length bytes) ≡ before * (p * 256) = ap (λ (m : ℕ). before * m) (pow-suc 256 (length bytes)) in
    omega (arith, wider, number_onto-big_from (before * 256 + b) bytes, big_from-cons 0 (length bytes) b bytes)

pub number_of-big_number : (n : ℕ) (bytes : List ℕ) → length bytes ≡ n → big_number n bytes ≡ number_of bytes
number_of-big_number n bytes e = rw (← e) (omega (arith, number_onto-big_from 0 bytes))

cast_signed-signed_of : (n : ℕ) → n < 2 ^ 64 → cast_signed w64 n ≡ signed_of 8 n
cast_signed-signed_of n lt = grind (arith, ints)

pub signed_of-read : (bytes : List ℕ) → ((i : ℕ) → slice_index bytes i < 256) → length bytes ≡ 8 → cast_signed w64 (big_number 8 bytes) ≡ signed_of 8 (number_of bytes)
signed_of-read bytes h e =
    ap (cast_signed w64) (number_of-big_number 8 bytes e)
    ∙ cast_signed-signed_of (number_of bytes) (rw (← number_of-big_number 8 bytes e) (big_from-lt 0 8 bytes h))
