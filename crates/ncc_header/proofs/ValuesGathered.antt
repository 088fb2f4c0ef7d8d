-- Values that are gathered from their bytes.
use Rattle.std.proofs.Common.{◌≡◌, ℕ, ◌*◌, ◌/◌, ◌%◌, List, ◌++◌, length, sym, ap, ◌∙◌, arith}
use Rattle.ncc_values.specs.Numbers.{IsBytes}
use Rattle.ncc_values.specs.declared.values.Values.{Values}
use Rattle.ncc_values.specs.declared.xtype.XType.{XType}
use Rattle.ncc_values.specs.Values.{type_of, count_of, bytes_of, with_bytes, values_of}
use Rattle.ncc_values.specs.XType.{size_of}
use Rattle.std.proofs.Math.Nat.{div-mul-le_self, mul-mod_left, add-mul-mod_self_right, mod-eq-sub-div-mul}
use Rattle.std.proofs.lemmas.List.{length-append}
use Rattle.ncc_values.proofs.ValuesLemmas.{type_of-with_bytes, length-bytes_of, bytes_of-with_bytes, values_of-append}

-- the values that the bytes of these values spell are these
abbrev pub AreFromBytes : Values → Type 0
AreFromBytes v = values_of (type_of v) (bytes_of v) ≡ v

-- so many whole elements
whole_number : (n s : ℕ) → n % s ≡ 0 → n ≡ n / s * s
whole_number n s h = omega (arith, sym h ∙ mod-eq-sub-div-mul n s, div-mul-le_self n s)

-- the bytes that were added stand behind those of before
pub added_bytes : (v : Values) (bytes : List ℕ) → IsBytes bytes → length bytes % size_of (type_of v) ≡ 0 → bytes_of (with_bytes v bytes) ≡ bytes_of v ++ bytes
added_bytes v bytes are whole = bytes_of-with_bytes v (length bytes / size_of (type_of v)) bytes are (whole_number (length bytes) (size_of (type_of v)) whole)

pub added_from_bytes : (v : Values) (bytes : List ℕ) → IsBytes bytes → length bytes % size_of (type_of v) ≡ 0 → AreFromBytes v → AreFromBytes (with_bytes v bytes)
added_from_bytes v bytes are whole from =
    ap (λ (t : XType). values_of t (bytes_of (with_bytes v bytes))) (type_of-with_bytes v bytes)
    ∙ ap (values_of (type_of v)) (added_bytes v bytes are whole)
    ∙ values_of-append (type_of v) (count_of v) (length bytes / size_of (type_of v)) (bytes_of v) bytes (length-bytes_of v) (whole_number (length bytes) (size_of (type_of v)) whole)
    ∙ ap (λ (u : Values). with_bytes u bytes) from

-- the last bytes are those of whole values
pub rest_whole : (v : Values) (rest : List ℕ) (k : ℕ) → length (bytes_of v ++ rest) ≡ k * size_of (type_of v) → length rest % size_of (type_of v) ≡ 0
rest_whole v rest k long =
    let s = size_of (type_of v) in
    sym (add-mul-mod_self_right (length rest) (count_of v) s)
    ∙ ap (λ (n : ℕ). n % s) (omega (arith, sym (length-append (bytes_of v) rest) ∙ long, length-bytes_of v))
    ∙ mul-mod_left k s
