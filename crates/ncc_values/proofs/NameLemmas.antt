-- The name rule, character by character, and on ASCII.
use Rattle.std.proofs.Common.{◌≡◌, ◌≢◌, ◌⊎◌, inl, inr, ◌<◌, ◌≤◌, ◌+◌, nat_le, ◌||◌, take, get_or, zero, ℕ, suc, Bool, true, false, not, ◌&&◌, ◌==◌, List, [], ◌∷◌, ◌++◌, length, slice_index, chars, refl, ap, ◌∙◌, arith, encode_utf8}
use Rattle.std.specs.List.{list_all}
use Rattle.std.specs.Int.{is_in_range}
use Rattle.std.proofs.lemmas.Bool.{and_parts, or_left, or_cases, leb-true, eqb-true}
use Rattle.std.proofs.lemmas.List.Folds.{list_all_more}
use Rattle.std.proofs.lemmas.Str.Ascii.{IsAscii-nil}
use Rattle.std.specs.Str.{IsUtf8}
use Rattle.std.proofs.lemmas.Str.{chars_past_char, IsUtf8-past_char, IsUtf8-from_ascii, chars-nil}
use Rattle.std.proofs.lemmas.List.{nil_from_length, take_all}
use native.Mathlib.Numerals.{unary_clauses}
use Rattle.std.specs.Char.{is_ascii_alphanumeric}
use Rattle.std.specs.Str.{IsAscii}
use Rattle.std.proofs.lemmas.Str.{chars-IsAscii}
use Rattle.unicode_normalization.specs.Forms.{Nfc}
use Rattle.unicode_normalization.specs.QuickCheck.{Yes, Maybe, quick_check_text}
use Rattle.unicode_normalization.proofs.FormsLemmas.{quick_check_text-Yes}
use Rattle.unicode_normalization.proofs.QuickCheckLemmas.{checked_after, checked_after-start, checked_after-end, checked_after-ascii}
use Rattle.ncc_values.specs.Name.{space, slash, tilde, underscore, is_multibyte, can_begin_plain, can_follow_plain, can_begin, can_follow, are_name_characters, FitsAsName}

-- the characters can follow, and the last of them, or this one where there is none, is no space
abbrev pub follow : ℕ → List ℕ → Bool
follow last cs = list_all can_follow cs && not (slice_index (last ∷ cs) (length cs) == space)

-- what a text says that is `rest` behind a first character, of which `last` was the last that was read
pub record Left (text : List ℕ) (first last : ℕ) (rest : List ℕ) : Type 0 where
  pub utf8 : IsUtf8 rest
  pub answer : are_name_characters (chars text) ≡ (can_begin first && follow last (chars rest))

pub left_first : (text rest : List ℕ) (c : ℕ) → IsUtf8 text → text ≡ encode_utf8 c ++ rest → Left text c c rest
left_first text rest c h e = record {
  utf8 = IsUtf8-past_char text rest c h e;
  answer = ap are_name_characters (chars_past_char text rest c h e);
}

pub left_next : (text before rest : List ℕ) (first last c : ℕ) → Left text first last before → before ≡ encode_utf8 c ++ rest → can_follow c ≡ true → Left text first c rest
left_next text before rest first last c h e fits = record {
  utf8 = IsUtf8-past_char before rest c h.utf8 e;
  answer = h.answer ∙ rw (chars_past_char before rest c h.utf8 e, fits) refl;
}

and_false : (b : Bool) → (b && false) ≡ false
and_false true = refl
and_false false = refl

pub left_refused : (text before rest : List ℕ) (first last c : ℕ) → Left text first last before → before ≡ encode_utf8 c ++ rest → can_follow c ≡ false → are_name_characters (chars text) ≡ false
left_refused text before rest first last c h e fails =
    h.answer ∙ rw (chars_past_char before rest c h.utf8 e, fails) (and_false (can_begin first))

pub left_none : (text rest : List ℕ) (first last : ℕ) → Left text first last rest → length rest ≡ 0 → are_name_characters (chars text) ≡ (can_begin first && not (last == space))
left_none text rest first last h e = h.answer ∙ rw (nil_from_length rest e, chars-nil) refl

-- ---- bytes that are plain

-- the first i bytes behind the first one can follow, and `read` is the last of them, or the first one
pub record Plain (first read : ℕ) (rest : List ℕ) (i : ℕ) : Type 0 where
  pub follow : list_all can_follow_plain (take i rest) ≡ true
  pub last : read ≡ slice_index (first ∷ rest) i

pub plain_next : (first last c : ℕ) (rest : List ℕ) (i : ℕ) → i < length rest → Plain first last rest i → c ≡ get_or rest i 0 → can_follow_plain c ≡ true → Plain first c rest (i + 1)
plain_next first last c rest i h p e fits = record {
  follow = list_all_more can_follow_plain rest i 0 h ∙ rw (p.follow, ← e) fits;
  last = simp unary_clauses e;
}

plain_can_follow : (c : ℕ) → can_follow_plain c ≡ true → can_follow c ≡ true
plain_can_follow c h = or_left (can_follow_plain c) (is_multibyte c) h

plain_is_small : (c : ℕ) → can_follow_plain c ≡ true → c < 128
plain_is_small c h =
    let range = and_parts (is_in_range space tilde c) (not (c == slash)) h in
    let below = leb-true c tilde (and_parts (nat_le space c) (nat_le c tilde) range.0).1 in
    omega arith

all_can_follow : (cs : List ℕ) → list_all can_follow_plain cs ≡ true → list_all can_follow cs ≡ true
all_can_follow [] h = refl
all_can_follow (c ∷ cs) h =
    let parts = and_parts (can_follow_plain c) (list_all can_follow_plain cs) h in
    rw (plain_can_follow c parts.0, all_can_follow cs parts.1) refl

all_are_small : (cs : List ℕ) → list_all can_follow_plain cs ≡ true → IsAscii cs
all_are_small [] h i = IsAscii-nil i
all_are_small (c ∷ cs) h zero = plain_is_small c (and_parts (can_follow_plain c) (list_all can_follow_plain cs) h).0
all_are_small (c ∷ cs) h (suc i) = all_are_small cs (and_parts (can_follow_plain c) (list_all can_follow_plain cs) h).1 i

ascii_cons : (c : ℕ) (cs : List ℕ) → c < 128 → IsAscii cs → IsAscii (c ∷ cs)
ascii_cons c cs h hs zero = h
ascii_cons c cs h hs (suc i) = hs i

below_range : (lo hi c : ℕ) → is_in_range lo hi c ≡ true → hi < 128 → c < 128
below_range lo hi c h small =
    let below = leb-true c hi (and_parts (nat_le lo c) (nat_le c hi) h).1 in
    omega arith

either : {A B P : Type 0} → A ⊎ B → (A → P) → (B → P) → P
either (inl a) f g = f a
either (inr b) f g = g b

letters_small : (c : ℕ) → is_ascii_alphanumeric c ≡ true → c < 128
letters_small c h =
    either (or_cases (is_in_range 48 57 c || is_in_range 65 90 c) (is_in_range 97 122 c) h)
    (λ large. either (or_cases (is_in_range 48 57 c) (is_in_range 65 90 c) large) (λ d. below_range 48 57 c d (omega arith)) (λ l. below_range 65 90 c l (omega arith)))
    (λ l. below_range 97 122 c l (omega arith))

begins_small : (c : ℕ) → can_begin_plain c ≡ true → c < 128
begins_small c h =
    either (or_cases (is_ascii_alphanumeric c) (c == underscore) h) (letters_small c) (λ same. let e = eqb-true c underscore same in omega (arith, e))

-- where all bytes were read
pub plain_is_ascii : (name rest : List ℕ) (first last i : ℕ) → name ≡ first ∷ rest → length rest ≤ i → Plain first last rest i → can_begin_plain first ≡ true → IsAscii name
plain_is_ascii name rest first last i e end p begins =
    let small = all_are_small rest (rw (take_all i rest end) at p.follow) in
    rw e (ascii_cons first rest (begins_small first begins) small)

pub plain_fits : (name rest : List ℕ) (first last i : ℕ) → name ≡ first ∷ rest → length rest ≤ i → i ≤ length rest → Plain first last rest i → can_begin_plain first ≡ true → not (last == space) ≡ true → are_name_characters name ≡ true
plain_fits name rest first last i e end within p begins ends =
    let begin : can_begin first ≡ true = or_left (can_begin_plain first) (is_multibyte first) begins in
    let follow = all_can_follow rest (rw (take_all i rest end) at p.follow) in
    let at_end : i ≡ length rest = omega arith in
    let is_last : last ≡ slice_index (first ∷ rest) (length rest) = rw at_end at p.last in
    rw (e, begin, follow, ← is_last) ends

-- ---- ASCII passes the quick check

checked_ascii : (last : ℕ) (cs : List ℕ) → IsAscii cs → checked_after false Nfc last 0 Yes cs ≡ Yes
checked_ascii last [] h = checked_after-end false Nfc last 0 Yes
checked_ascii last (c ∷ cs) h =
    checked_after-ascii false Nfc last 0 Yes c cs (h 0) (omega arith) ∙ checked_ascii 0 cs (λ i. h (suc i))

passes_quick_check : (bytes : List ℕ) → IsAscii bytes → quick_check_text Nfc (chars bytes) ≡ Yes
passes_quick_check bytes h =
    let passes : quick_check_text Nfc bytes ≡ Yes = checked_after-start false Nfc bytes ∙ checked_ascii 0 bytes h in
    ap (quick_check_text Nfc) (chars-IsAscii bytes h) ∙ passes

pub ascii_fits : (name : List ℕ) → IsAscii name → are_name_characters name ≡ true → FitsAsName name
ascii_fits name ascii fits = record {
  utf8 = IsUtf8-from_ascii name ascii;
  characters = rw (chars-IsAscii name ascii) fits;
  normal = quick_check_text-Yes Nfc (chars name) (passes_quick_check name ascii);
}

pub quick_check_text-ascii : (bytes : List ℕ) → IsAscii bytes → quick_check_text Nfc (chars bytes) ≢ Maybe
quick_check_text-ascii bytes h maybe =
    let passes = passes_quick_check bytes h in
    cc
