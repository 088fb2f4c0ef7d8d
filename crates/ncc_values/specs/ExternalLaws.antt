-- The laws of `External`, in terms of numbers and bytes: each of the two goes back to the other. An
-- implementation can cite them only in specs/.
use Rattle.std.proofs.Common.{◌≡◌, ℕ, ◌-◌, ◌*◌, ◌^◌, ◌<◌, List, length, refl, sym, ap, ◌∙◌, arith}
use Rattle.std.specs.Prelude.{ℤ, pos, negsuc, ◌-ℤ◌, ◌≤ℤ◌}
use Rattle.std.proofs.lemmas.Int.{ints}
use Rattle.ncc_values.specs.Numbers.{IsBytes, big_endian, number_of}
use Rattle.ncc_values.specs.BigEndian.{number_of-big_endian, big_endian-number_of, number_of-lt}
use Rattle.ncc_values.specs.declared.xtype.XType.{XType}
use Rattle.ncc_values.specs.declared.xtype.XType.TheVariants.{Byte, Char, Short, Int, Float, Double, UByte, UShort, UInt, Int64, UInt64}
use Rattle.ncc_values.specs.XType.{size_of}
use Rattle.ncc_values.specs.External.{signed_of, unsigned_of, number_in, bytes_in, IsNumberOf}

-- ---- two's complement in w bytes, of which half stand for negative numbers

unsigned_of-lt : (w half : ℕ) (z : ℤ) → 256 ^ w ≡ half * 2 → 0 < half → (pos 0 -ℤ pos half) ≤ℤ z → z ≤ℤ pos (half - 1) → unsigned_of w z < 256 ^ w
unsigned_of-lt w half (pos n) e some low high = omega (arith, ints)
unsigned_of-lt w half (negsuc n) e some low high = omega (arith, ints)

signed_of-unsigned_of : (w half : ℕ) (z : ℤ) → 256 ^ w ≡ half * 2 → 0 < half → (pos 0 -ℤ pos half) ≤ℤ z → z ≤ℤ pos (half - 1) → signed_of w (unsigned_of w z) ≡ z
signed_of-unsigned_of w half (pos n) e some low high = grind (arith, ints)
signed_of-unsigned_of w half (negsuc n) e some low high = grind (arith, ints)

unsigned_of-below : (w n : ℕ) (z : ℤ) → z ≡ pos n -ℤ pos (256 ^ w) → n < 256 ^ w → unsigned_of w z ≡ n
unsigned_of-below w n (pos k) is lt = absurd (omega (arith, ints))
unsigned_of-below w n (negsuc k) is lt = omega (arith, ints)

unsigned_of-signed_of : (w half n : ℕ) → 256 ^ w ≡ half * 2 → n < 256 ^ w → unsigned_of w (signed_of w n) ≡ n
unsigned_of-signed_of w half n e lt = grind (arith, unsigned_of-below w n (pos n -ℤ pos (256 ^ w)) refl lt)

-- ---- one element

-- the same for a number with a sign and for one without
pub signed_back : (w half : ℕ) (z : ℤ) → 256 ^ w ≡ half * 2 → 0 < half → (pos 0 -ℤ pos half) ≤ℤ z → z ≤ℤ pos (half - 1) → signed_of w (number_of (big_endian w (unsigned_of w z))) ≡ z
signed_back w half z e some low high =
    ap (signed_of w) (number_of-big_endian w (unsigned_of w z) (unsigned_of-lt w half z e some low high))
    ∙ signed_of-unsigned_of w half z e some low high

unsigned_back : (w : ℕ) (z : ℤ) → 0 < 256 ^ w → pos 0 ≤ℤ z → z ≤ℤ pos (256 ^ w - 1) → pos (number_of (big_endian w (unsigned_of w z))) ≡ z
unsigned_back w (pos n) some low high = ap pos (number_of-big_endian w n (omega (arith, ints)))
unsigned_back w (negsuc n) some low high = absurd (omega (arith, ints))

pub number_in-bytes_in : (t : XType) (z : ℤ) → IsNumberOf t z → number_in t (bytes_in t z) ≡ z
number_in-bytes_in Byte z h = signed_back 1 (2 ^ 7) z refl (omega arith) h.0 h.1
number_in-bytes_in Char z h = unsigned_back 1 z (omega arith) h.0 h.1
number_in-bytes_in Short z h = signed_back 2 (2 ^ 15) z refl (omega arith) h.0 h.1
number_in-bytes_in Int z h = signed_back 4 (2 ^ 31) z refl (omega arith) h.0 h.1
number_in-bytes_in Float z h = unsigned_back 4 z (omega arith) h.0 h.1
number_in-bytes_in Double z h = unsigned_back 8 z (omega arith) h.0 h.1
number_in-bytes_in UByte z h = unsigned_back 1 z (omega arith) h.0 h.1
number_in-bytes_in UShort z h = unsigned_back 2 z (omega arith) h.0 h.1
number_in-bytes_in UInt z h = unsigned_back 4 z (omega arith) h.0 h.1
number_in-bytes_in Int64 z h = signed_back 8 (2 ^ 63) z refl (omega arith) h.0 h.1
number_in-bytes_in UInt64 z h = unsigned_back 8 z (omega arith) h.0 h.1

-- the bytes of a number that has the number of these bytes are these
bytes_back : (w n : ℕ) (bytes : List ℕ) → IsBytes bytes → length bytes ≡ w → n ≡ number_of bytes → big_endian w n ≡ bytes
bytes_back w n bytes h e is =
    rw is (ap (λ (k : ℕ). big_endian k (number_of bytes)) (sym e) ∙ big_endian-number_of bytes h)

signed_bytes : (w half : ℕ) (bytes : List ℕ) → IsBytes bytes → length bytes ≡ w → 256 ^ w ≡ half * 2 → big_endian w (unsigned_of w (signed_of w (number_of bytes))) ≡ bytes
signed_bytes w half bytes h e is =
    bytes_back w _ bytes h e (unsigned_of-signed_of w half (number_of bytes) is (number_of-lt w bytes h e))

pub bytes_in-number_in : (t : XType) (bytes : List ℕ) → IsBytes bytes → length bytes ≡ size_of t → bytes_in t (number_in t bytes) ≡ bytes
bytes_in-number_in Byte bytes h e = signed_bytes 1 (2 ^ 7) bytes h e refl
bytes_in-number_in Char bytes h e = bytes_back 1 _ bytes h e refl
bytes_in-number_in Short bytes h e = signed_bytes 2 (2 ^ 15) bytes h e refl
bytes_in-number_in Int bytes h e = signed_bytes 4 (2 ^ 31) bytes h e refl
bytes_in-number_in Float bytes h e = bytes_back 4 _ bytes h e refl
bytes_in-number_in Double bytes h e = bytes_back 8 _ bytes h e refl
bytes_in-number_in UByte bytes h e = bytes_back 1 _ bytes h e refl
bytes_in-number_in UShort bytes h e = bytes_back 2 _ bytes h e refl
bytes_in-number_in UInt bytes h e = bytes_back 4 _ bytes h e refl
bytes_in-number_in Int64 bytes h e = signed_bytes 8 (2 ^ 63) bytes h e refl
bytes_in-number_in UInt64 bytes h e = bytes_back 8 _ bytes h e refl

-- ---- what bytes spell is a number of the type

signed_number : (w half n : ℕ) → 256 ^ w ≡ half * 2 → 0 < half → n < 256 ^ w → ((pos 0 -ℤ pos half) ≤ℤ signed_of w n) × (signed_of w n ≤ℤ pos (half - 1))
signed_number w half n e some lt = (grind (arith, ints), grind (arith, ints))

unsigned_number : (p n : ℕ) → n < p → (pos 0 ≤ℤ pos n) × (pos n ≤ℤ pos (p - 1))
unsigned_number p n lt = (omega (arith, ints), omega (arith, ints))

pub number_in-IsNumberOf : (t : XType) (bytes : List ℕ) → IsBytes bytes → length bytes ≡ size_of t → IsNumberOf t (number_in t bytes)
number_in-IsNumberOf Byte bytes h e = signed_number 1 (2 ^ 7) _ refl (omega arith) (number_of-lt 1 bytes h e)
number_in-IsNumberOf Char bytes h e = unsigned_number (256 ^ 1) _ (number_of-lt 1 bytes h e)
number_in-IsNumberOf Short bytes h e = signed_number 2 (2 ^ 15) _ refl (omega arith) (number_of-lt 2 bytes h e)
number_in-IsNumberOf Int bytes h e = signed_number 4 (2 ^ 31) _ refl (omega arith) (number_of-lt 4 bytes h e)
number_in-IsNumberOf Float bytes h e = unsigned_number (256 ^ 4) _ (number_of-lt 4 bytes h e)
number_in-IsNumberOf Double bytes h e = unsigned_number (256 ^ 8) _ (number_of-lt 8 bytes h e)
number_in-IsNumberOf UByte bytes h e = unsigned_number (256 ^ 1) _ (number_of-lt 1 bytes h e)
number_in-IsNumberOf UShort bytes h e = unsigned_number (256 ^ 2) _ (number_of-lt 2 bytes h e)
number_in-IsNumberOf UInt bytes h e = unsigned_number (256 ^ 4) _ (number_of-lt 4 bytes h e)
number_in-IsNumberOf Int64 bytes h e = signed_number 8 (2 ^ 63) _ refl (omega arith) (number_of-lt 8 bytes h e)
number_in-IsNumberOf UInt64 bytes h e = unsigned_number (256 ^ 8) _ (number_of-lt 8 bytes h e)
