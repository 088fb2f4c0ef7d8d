-- What is surely still to come of a header.
use Rattle.std.proofs.Common.{◌≡◌, ℕ, ◌+◌, ◌-◌, ◌≤◌, ◌<◌, min, List, [], ◌++◌, length, Option, Some, None, refl, sym, ap, subst, ◌∙◌, inl, inr, append-nil, arith}
use Rattle.std.specs.Prelude.{unwrap_or}
use Rattle.std.proofs.lemmas.Bool.{cases_lt, le-ltb, lt-ltb}
use Rattle.std.proofs.lemmas.List.{length-append}
use Rattle.ncc_header.specs.declared.reading.Reading.{Reading}
use Rattle.ncc_header.specs.Fields.{header}
use Rattle.ncc_header.specs.Grammar.{reads, read, lacking}
use Rattle.ncc_header.specs.Least.{rest_of, expects_of}
use Rattle.ncc_header.specs.Reading.{next_of, held_of}
use Rattle.ncc_header.specs.State.{HasTaken, IsSettled, IsWhole, lacks_of}
use Rattle.ncc_header.specs.Steps.{size_of}
use Rattle.ncc_header.proofs.AtLeast.{AtLeast, reads_at_least}
use Rattle.ncc_header.proofs.Feeding.{reading_lacks, reading_settled}
use Rattle.ncc_header.proofs.GrammarLaws.{spelled-is_read}
use Rattle.ncc_header.proofs.HeaderLaws.{fields_spell}
use Rattle.ncc_header.proofs.LeastLaws.{least}

whole_is_read : (bytes : List ℕ) (limit : ℕ) (w : IsWhole bytes limit) → read header limit 0 bytes ≡ reads (w.0, w.1) (0 + length bytes) []
whole_is_read bytes limit w =
    ap (read header limit 0) (sym (append-nil bytes)) ∙ spelled-is_read header (w.0, w.1) bytes [] limit 0 (fields_spell w.0 w.1 bytes w.2) (omega (arith, w.3))

-- the bytes that make the header whole
least_more : (r : Reading) (taken more : List ℕ) (n : ℕ) → HasTaken r taken → size_of (next_of r) ≡ Some n → IsWhole (taken ++ more) r.limit → n + rest_of r.next r.partial.lists ≤ length (held_of r) + length more
least_more r taken more n t is w =
    let long : AtLeast (next_of r) (n + rest_of r.next r.partial.lists) =
    subst (λ (o : Option ℕ). AtLeast (next_of r) (unwrap_or o 0 + rest_of r.next r.partial.lists)) is (least r.next r.partial) in
    let all : read (next_of r) r.limit r.at (held_of r ++ more) ≡ reads (w.0, w.1) (0 + length (taken ++ more)) [] =
    sym (ap (λ c. c.outcome) (t.goes_on more)) ∙ whole_is_read (taken ++ more) r.limit w in
    omega (arith, length-append (held_of r) more, reads_at_least (next_of r) (n + rest_of r.next r.partial.lists) r.limit r.at (held_of r ++ more) (w.0, w.1) (0 + length (taken ++ more)) [] long all)

abbrev expected : Reading → (o : Option ℕ) → ℕ
expected r o = expects_of o (rest_of r.next r.partial.lists) r.limit r.at (length (held_of r))

fewest_all : (r : Reading) (taken more : List ℕ) (o : Option ℕ) → HasTaken r taken → size_of (next_of r) ≡ o → IsWhole (taken ++ more) r.limit → expected r o ≤ length more
fewest_all r taken more None t is w = omega arith
fewest_all r taken more (Some n) t is w =
    elim (cases_lt r.limit (r.at + n)) [
      | inl past ↦ rw (lt-ltb r.limit (r.at + n) past) (omega arith)
      | inr within ↦ rw (le-ltb r.limit (r.at + n) within) (omega (arith, least_more r taken more n t is w))
    ]

-- no header has fewer bytes behind those that were taken
pub reading_fewest : (r : Reading) (taken more : List ℕ) → HasTaken r taken → IsWhole (taken ++ more) r.limit → expected r (size_of (next_of r)) ≤ length more
reading_fewest r taken more t w = fewest_all r taken more (size_of (next_of r)) t refl w

within_all : (r : Reading) (taken : List ℕ) (o : Option ℕ) → HasTaken r taken → 0 < expected r o → length taken + expected r o ≤ r.limit
within_all r taken None t some = absurd (omega (arith, some))
within_all r taken (Some n) t some =
    elim (cases_lt r.limit (r.at + n)) [
      | inl past ↦ absurd (let none : 0 < 0 = rw (lt-ltb r.limit (r.at + n) past) at some in omega (arith, none))
      | inr within ↦
          let more : 0 < min (n + rest_of r.next r.partial.lists) (r.limit - r.at) - length (held_of r) = rw (le-ltb r.limit (r.at + n) within) at some in
          rw (le-ltb r.limit (r.at + n) within) (omega (arith, more, t.long, within))
    ]

pub reading_within : (r : Reading) (taken : List ℕ) → HasTaken r taken → 0 < expected r (size_of (next_of r)) → length taken + expected r (size_of (next_of r)) ≤ r.limit
reading_within r taken t some = within_all r taken (size_of (next_of r)) t some

-- where nothing is expected, nothing lacks
lacks_all : (r : Reading) (o : Option ℕ) → ((n : ℕ) → o ≡ Some n → length (held_of r) < n) → expected r o ≡ 0 → lacks_of o r.limit r.at (length (held_of r)) ≡ 0
lacks_all r None still_short none = refl
lacks_all r (Some n) still_short none =
    elim (cases_lt r.limit (r.at + n)) [
      | inl past ↦ rw (lt-ltb r.limit (r.at + n) past) refl
      | inr within ↦
          let zero : min (n + rest_of r.next r.partial.lists) (r.limit - r.at) - length (held_of r) ≡ 0 = rw (le-ltb r.limit (r.at + n) within) at none in
          absurd (omega (arith, zero, still_short n refl, within))
    ]

pub reading_ends : (r : Reading) (taken : List ℕ) → HasTaken r taken → expected r (size_of (next_of r)) ≡ 0 → IsSettled taken r.limit
reading_ends r taken t none = reading_settled r taken t (lacks_all r (size_of (next_of r)) t.still_short none)

more_all : (r : Reading) (o : Option ℕ) → lacks_of o r.limit r.at (length (held_of r)) ≤ expected r o
more_all r None = omega arith
more_all r (Some n) =
    elim (cases_lt r.limit (r.at + n)) [
      | inl past ↦ rw (lt-ltb r.limit (r.at + n) past) (omega arith)
      | inr within ↦ rw (le-ltb r.limit (r.at + n) within) (omega (arith, within))
    ]

-- the next field lacks no more
pub reading_more : (r : Reading) (taken : List ℕ) → HasTaken r taken → lacking header r.limit 0 taken ≤ expected r (size_of (next_of r))
reading_more r taken t = rw (reading_lacks r taken t) (more_all r (size_of (next_of r)))
