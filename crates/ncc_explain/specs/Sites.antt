-- Where the fault of a header is: what comes before it, and the number there.
use Rattle.std.specs.Prelude.{◌≡◌, ◌⊎◌, ℕ, ◌-◌, ◌<◌, ◌≤◌, ◌==◌, ◌||◌, ltb, min, List, ◌++◌, length, take, drop, IfSome, Option, Some, None, if◌then◌else◌}
use Rattle.ncc_values.specs.Numbers.{number_of}
use Rattle.ncc_schema.specs.declared.schema.Header.{Header as TheHeader}
use Rattle.ncc_header.specs.declared.fault.Fault.{Fault}
use Rattle.ncc_header.specs.declared.decoder.Decoder.{Decoder}
use Rattle.ncc_header.specs.declared.unfinished.Unfinished.{Unfinished}
use Rattle.ncc_header.specs.Answers.{Begins}
use Rattle.ncc_header.specs.Awaited.{AreNamesOf, names_told, unfinished_at}
use Rattle.ncc_header.specs.Decoder.{Took, limit_of}
use Rattle.ncc_header.specs.Fields.{header}
use Rattle.ncc_header.specs.Grammar.{lacking}
use Rattle.ncc_header.specs.State.{IsSettled}
use Rattle.ncc_parts.specs.Parts.{part_at, parts_of}
use Rattle.ncc_explain.specs.declared.site.Site.{Site}

-- the greatest limit of a header's length
abbrev pub longest : ℕ
longest = 18446744073709551615

-- the first bytes up to an end, or fewer, if these settle what the header is
abbrev pub IsFront : (bytes : List ℕ) (end : ℕ) (taken : List ℕ) → Type 0
IsFront bytes end taken =
    (n : ℕ) × (n ≤ end) × (taken ≡ take n bytes) × ((n ≡ end) ⊎ IsSettled taken longest)

-- the size of the field that comes after a front of whole fields; 0 where none can come
abbrev pub field_after : (front : List ℕ) → ℕ
field_after front = lacking header longest 0 front

-- the number in the field of this size at this offset, if it has 1 to 8 bytes, all of them before this end
abbrev pub number_at : (bytes : List ℕ) (offset size end : ℕ) → Option ℕ
number_at bytes offset size end =
    if (size == 0) || (ltb 8 size || ltb (end - offset) size) then None else Some (number_of (take size (drop offset bytes)))

-- The part that the byte after a front is in, in every header that begins with the front and is longer, with names of
-- that header. It is what a decoder tells that took the front (Awaited): each name that was read is told. It is none only
-- where the front is a whole header or has a fault that stays.
pub record GoesOnIn (front : List ℕ) (place : Option Unfinished) : Type 0 where
  pub part : (more : List ℕ) (h : TheHeader) → Begins (front ++ more) longest h → length front < h.length
      → IfSome place (λ u. part_at (length front) (parts_of h.schema) ≡ Some u.part)
  pub names : (more : List ℕ) (h : TheHeader) → Begins (front ++ more) longest h → IfSome place (λ u. AreNamesOf h.schema (names_told u))
  pub told : (d : Decoder) × Took d front × (limit_of d ≡ longest) × (place ≡ unfinished_at d.state)
  pub settled : place ≡ None → IsSettled front longest

-- what is found at the offset of this fault, in bytes whose header may have so many bytes
pub record IsSite (bytes : List ℕ) (limit : ℕ) (f : Fault) (x : Site) : Type 0 where
  pub place : GoesOnIn (take f.offset bytes) x.place
  pub value : x.value ≡ number_at bytes f.offset (field_after (take f.offset bytes)) (min (length bytes) limit)
  pub file : x.file_length ≡ length bytes
