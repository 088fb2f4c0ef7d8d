-- Elements one after the other, and their bytes.
use Rattle.std.proofs.Common.{◌≡◌, ℕ, zero, suc, ◌+◌, ◌*◌, ◌/◌, ◌≤◌, ◌<◌, List, [], ◌∷◌, ◌++◌, length, take, drop, refl, sym, ap, subst, ◌∙◌, arith, append_assoc, mul-div_cancel, length-append, length-drop}
use Rattle.std.specs.Prelude.{ℤ}
use Rattle.std.specs.List.{AllByRecursion}
use Rattle.std.proofs.lemmas.List.{drop-drop, nil_from_length, take_at, drop_at, take-append-le, drop-append-le, take-append-drop, length-take-le}
use Rattle.ncc_values.specs.declared.xtype.XType.{XType}
use Rattle.ncc_values.specs.declared.xtype.XType.TheVariants.{Byte, Char, Short, Int, Float, Double, UByte, UShort, UInt, Int64, UInt64}
use Rattle.ncc_values.specs.Numbers.{IsBytes}
use Rattle.ncc_values.specs.XType.{size_of}
use Rattle.ncc_values.specs.External.{unsigned_of, number_in, bytes_in, IsNumberOf}
use Rattle.ncc_values.specs.Values.{elements_from, elements_of, bytes_by, AreNumbersOf}
use Rattle.ncc_values.specs.ExternalLaws.{number_in-IsNumberOf}
use Rattle.ncc_values.specs.BigEndian.{bytes-take, bytes-drop, bytes-append, length-big_endian, bytes-big_endian}

pub size_of-some : (t : XType) → 0 < size_of t
size_of-some Byte = omega arith
size_of-some Char = omega arith
size_of-some Short = omega arith
size_of-some Int = omega arith
size_of-some Float = omega arith
size_of-some Double = omega arith
size_of-some UByte = omega arith
size_of-some UShort = omega arith
size_of-some UInt = omega arith
size_of-some Int64 = omega arith
size_of-some UInt64 = omega arith

pub length-bytes_in : (t : XType) (z : ℤ) → length (bytes_in t z) ≡ size_of t
length-bytes_in t z = length-big_endian (size_of t) (unsigned_of (size_of t) z)

-- ---- elements from bytes

pub length-elements_from : {A : Type 0} (element : ℤ → A) (t : XType) (k : ℕ) (bytes : List ℕ) → length (elements_from element t k bytes) ≡ k
length-elements_from element t zero bytes = refl
length-elements_from element t (suc k) bytes = ap suc (length-elements_from element t k (drop (size_of t) bytes))

pub elements_from-append : {A : Type 0} (element : ℤ → A) (t : XType) (j k : ℕ) (a b : List ℕ) → length a ≡ j * size_of t → elements_from element t (j + k) (a ++ b) ≡ elements_from element t j a ++ elements_from element t k b
elements_from-append element t zero k a b e =
    let none : a ≡ [] = nil_from_length a (omega (arith, e)) in
    let same : 0 + k ≡ k = omega arith in
    rw (none, same) refl
elements_from-append element t (suc j) k a b e =
    let long : size_of t ≤ length a = omega (arith, e) in
    let same : suc j + k ≡ suc (j + k) = omega arith in
    let first : take (size_of t) (a ++ b) ≡ take (size_of t) a = take-append-le (size_of t) a b long in
    let after : drop (size_of t) (a ++ b) ≡ drop (size_of t) a ++ b = drop-append-le (size_of t) a b long in
    rw (same, first, after, elements_from-append element t j k (drop (size_of t) a) b (omega (arith, e, length-drop (size_of t) a))) refl

-- one element more
pub elements_from-more : {A : Type 0} (element : ℤ → A) (t : XType) (k : ℕ) (bytes : List ℕ) → elements_from element t (k + 1) bytes ≡ elements_from element t k bytes ++ element (number_in t (take (size_of t) (drop (k * size_of t) bytes))) ∷ []
elements_from-more element t zero bytes =
    let none : 0 * size_of t ≡ 0 = omega arith in
    rw none refl
elements_from-more element t (suc k) bytes =
    let more : suc k + 1 ≡ suc (k + 1) = omega arith in
    let later : suc k * size_of t ≡ size_of t + k * size_of t = omega arith in
    rw (more, later, ← drop-drop (k * size_of t) (size_of t) bytes, elements_from-more element t k (drop (size_of t) bytes)) refl

-- what a loop reads: one element more, which is told by its number
pub read_more : {A : Type 0} (element : ℤ → A) (number : A → ℤ) (t : XType) (old items : List A) (x : A) (k width start : ℕ) (bytes : List ℕ)
    → ((y : A) → element (number y) ≡ y)
    → items ≡ old ++ elements_from element t k bytes
    → number x ≡ number_in t (take width (drop start bytes))
    → width ≡ size_of t → start ≡ k * size_of t
    → items ++ x ∷ [] ≡ old ++ elements_from element t (k + 1) bytes
read_more element number t old items x k width start bytes same before is at_width at_start =
    let cut = subst (λ (w : ℕ). number x ≡ number_in t (take w (drop start bytes))) at_width is in
    let placed = subst (λ (s : ℕ). number x ≡ number_in t (take (size_of t) (drop s bytes))) at_start cut in
    let read : element (number_in t (take (size_of t) (drop (k * size_of t) bytes))) ≡ x = ap element (sym placed) ∙ same x in
    rw (elements_from-more element t k bytes, read, before) (append_assoc old (elements_from element t k bytes) (x ∷ []))

-- ---- bytes of elements

pub length-bytes_by : {A : Type 0} (number : A → ℤ) (t : XType) (items : List A) → length (bytes_by number t items) ≡ length items * size_of t
length-bytes_by number t [] = omega arith
length-bytes_by number t (x ∷ items) =
    omega (arith, length-append (bytes_in t (number x)) (bytes_by number t items), length-bytes_in t (number x), length-bytes_by number t items)

pub bytes-bytes_by : {A : Type 0} (number : A → ℤ) (t : XType) (items : List A) → IsBytes (bytes_by number t items)
bytes-bytes_by number t [] = tt
bytes-bytes_by number t (x ∷ items) =
    bytes-append (bytes_in t (number x)) (bytes_by number t items) (bytes-big_endian (size_of t) (unsigned_of (size_of t) (number x))) (bytes-bytes_by number t items)

pub bytes_by-append : {A : Type 0} (number : A → ℤ) (t : XType) (a b : List A) → bytes_by number t (a ++ b) ≡ bytes_by number t a ++ bytes_by number t b
bytes_by-append number t [] b = refl
bytes_by-append number t (x ∷ a) b =
    rw (bytes_by-append number t a b) (sym (append_assoc (bytes_in t (number x)) (bytes_by number t a) (bytes_by number t b)))

bytes_by-cut : {A : Type 0} (number : A → ℤ) (t : XType) (k : ℕ) (items : List A) → bytes_by number t items ≡ bytes_by number t (take k items) ++ bytes_by number t (drop k items)
bytes_by-cut number t k items =
    ap (bytes_by number t) (sym (take-append-drop k items)) ∙ bytes_by-append number t (take k items) (drop k items)

length-front : {A : Type 0} (number : A → ℤ) (t : XType) (k : ℕ) (items : List A) → k ≤ length items → length (bytes_by number t (take k items)) ≡ k * size_of t
length-front number t k items fits =
    length-bytes_by number t (take k items) ∙ ap (λ (n : ℕ). n * size_of t) (length-take-le k items fits)

pub drop-bytes_by : {A : Type 0} (number : A → ℤ) (t : XType) (k : ℕ) (items : List A) → k ≤ length items → drop (k * size_of t) (bytes_by number t items) ≡ bytes_by number t (drop k items)
drop-bytes_by number t k items fits =
    ap (drop (k * size_of t)) (bytes_by-cut number t k items)
    ∙ drop_at (bytes_by number t (take k items)) (bytes_by number t (drop k items)) (k * size_of t) (length-front number t k items fits)

pub take-bytes_by : {A : Type 0} (number : A → ℤ) (t : XType) (k : ℕ) (items : List A) → k ≤ length items → take (k * size_of t) (bytes_by number t items) ≡ bytes_by number t (take k items)
take-bytes_by number t k items fits =
    ap (take (k * size_of t)) (bytes_by-cut number t k items)
    ∙ take_at (bytes_by number t (take k items)) (bytes_by number t (drop k items)) (k * size_of t) (length-front number t k items fits)

-- the bytes of the elements from first on, as many as fill the room
pub bytes_by-between : {A : Type 0} (number : A → ℤ) (t : XType) (items : List A) (first count size width room : ℕ)
    → width ≡ size_of t → room ≡ count * width → size ≡ count → first + count ≤ length items
    → bytes_by number t (take size (drop first items)) ≡ take room (drop (first * width) (bytes_by number t items))
bytes_by-between number t items first count size width room at_width at_room same fits =
    rw (at_room, at_width, same, drop-bytes_by number t first items (omega arith)) (sym (take-bytes_by number t count (drop first items) (omega (arith, length-drop first items))))

-- ---- both ways

pub bytes_by-elements_from : {A : Type 0} (element : ℤ → A) (number : A → ℤ) (t : XType) (k : ℕ) (bytes : List ℕ)
    → ((b : List ℕ) → IsBytes b → length b ≡ size_of t → bytes_in t (number (element (number_in t b))) ≡ b)
    → IsBytes bytes → length bytes ≡ k * size_of t → bytes_by number t (elements_from element t k bytes) ≡ bytes
bytes_by-elements_from element number t zero bytes back h e = sym (nil_from_length bytes (omega (arith, e)))
bytes_by-elements_from element number t (suc k) bytes back h e =
    let long : size_of t ≤ length bytes = omega (arith, e) in
    let first = back (take (size_of t) bytes) (bytes-take (size_of t) bytes h) (length-take-le (size_of t) bytes long) in
    let after = bytes_by-elements_from element number t k (drop (size_of t) bytes) back (bytes-drop (size_of t) bytes h) (omega (arith, e, length-drop (size_of t) bytes)) in
    rw (first, after) (take-append-drop (size_of t) bytes)

pub elements_from-bytes_by : {A : Type 0} (element : ℤ → A) (number : A → ℤ) (t : XType) (items : List A)
    → ((x : A) → IsNumberOf t (number x) → element (number_in t (bytes_in t (number x))) ≡ x)
    → AllByRecursion (λ x. IsNumberOf t (number x)) items → elements_from element t (length items) (bytes_by number t items) ≡ items
elements_from-bytes_by element number t [] back h = refl
elements_from-bytes_by element number t (x ∷ items) back h =
    let first = bytes_in t (number x) in
    let rest = bytes_by number t items in
    rw (take_at first rest (size_of t) (length-bytes_in t (number x)), drop_at first rest (size_of t) (length-bytes_in t (number x)), back x h.0, elements_from-bytes_by element number t items back h.1) refl

-- ---- all the elements that bytes spell

pub count-length : (t : XType) (k : ℕ) (bytes : List ℕ) → length bytes ≡ k * size_of t → length bytes / size_of t ≡ k
count-length t k bytes e = ap (λ (n : ℕ). n / size_of t) e ∙ mul-div_cancel k (size_of-some t)

pub elements_of-counted : {A : Type 0} (element : ℤ → A) (t : XType) (k : ℕ) (bytes : List ℕ) → length bytes ≡ k * size_of t → elements_of element t bytes ≡ elements_from element t k bytes
elements_of-counted element t k bytes e =
    ap (λ (n : ℕ). elements_from element t n bytes) (count-length t k bytes e)

pub length-elements_of : {A : Type 0} (element : ℤ → A) (t : XType) (k : ℕ) (bytes : List ℕ) → length bytes ≡ k * size_of t → length (elements_of element t bytes) ≡ k
length-elements_of element t k bytes e =
    length-elements_from element t (length bytes / size_of t) bytes ∙ count-length t k bytes e

pub elements_of-append : {A : Type 0} (element : ℤ → A) (t : XType) (j k : ℕ) (a b : List ℕ) → length a ≡ j * size_of t → length b ≡ k * size_of t → elements_of element t (a ++ b) ≡ elements_of element t a ++ elements_of element t b
elements_of-append element t j k a b ea eb =
    let whole : length (a ++ b) ≡ (j + k) * size_of t = omega (arith, ea, eb, length-append a b) in
    elements_of-counted element t (j + k) (a ++ b) whole
    ∙ elements_from-append element t j k a b ea
    ∙ rw (elements_of-counted element t j a ea, elements_of-counted element t k b eb) refl

pub bytes_by-elements_of : {A : Type 0} (element : ℤ → A) (number : A → ℤ) (t : XType) (k : ℕ) (bytes : List ℕ)
    → ((b : List ℕ) → IsBytes b → length b ≡ size_of t → bytes_in t (number (element (number_in t b))) ≡ b)
    → IsBytes bytes → length bytes ≡ k * size_of t → bytes_by number t (elements_of element t bytes) ≡ bytes
bytes_by-elements_of element number t k bytes back h e =
    ap (bytes_by number t) (elements_of-counted element t k bytes e) ∙ bytes_by-elements_from element number t k bytes back h e

pub elements_of-bytes_by : {A : Type 0} (element : ℤ → A) (number : A → ℤ) (t : XType) (items : List A)
    → ((x : A) → IsNumberOf t (number x) → element (number_in t (bytes_in t (number x))) ≡ x)
    → AreNumbersOf number t items → elements_of element t (bytes_by number t items) ≡ items
elements_of-bytes_by element number t items back h =
    elements_of-counted element t (length items) (bytes_by number t items) (length-bytes_by number t items) ∙ elements_from-bytes_by element number t items back h

pub numbers-elements_from : {A : Type 0} (element : ℤ → A) (number : A → ℤ) (t : XType) (k : ℕ) (bytes : List ℕ)
    → ((z : ℤ) → IsNumberOf t z → number (element z) ≡ z)
    → IsBytes bytes → length bytes ≡ k * size_of t → AreNumbersOf number t (elements_from element t k bytes)
numbers-elements_from element number t zero bytes same h e = tt
numbers-elements_from element number t (suc k) bytes same h e =
    let long : size_of t ≤ length bytes = omega (arith, e) in
    let first = number_in-IsNumberOf t (take (size_of t) bytes) (bytes-take (size_of t) bytes h) (length-take-le (size_of t) bytes long) in
    (subst (IsNumberOf t) (sym (same _ first)) first, numbers-elements_from element number t k (drop (size_of t) bytes) same (bytes-drop (size_of t) bytes h) (omega (arith, e, length-drop (size_of t) bytes)))
