-- Taking a piece field by field.
use Rattle.std.proofs.Common.{◌≡◌, ℕ, zero, suc, ◌+◌, ◌-◌, ◌*◌, ◌<◌, ◌≤◌, List, [], ◌++◌, length, take, drop, Some, refl, sym, ap, subst, ◌∙◌, append_assoc, arith}
use Rattle.std.proofs.lemmas.List.{length-append, length-drop, length-take-le, take-append-drop}
use Rattle.std.proofs.Math.Seq.{take-append-add}
use Rattle.ncc_header.specs.declared.fault.FaultKind.TheVariants.{HeaderTooLong}
use Rattle.ncc_header.specs.declared.reading.Reading.{Reading}
use Rattle.ncc_header.specs.declared.partial.Next.{Next}
use Rattle.ncc_header.specs.declared.partial.Next.TheVariants as nexts
use Rattle.ncc_header.specs.Left.{idle_of}
use Rattle.ncc_header.specs.Steps.{size_of}
use Rattle.ncc_header.specs.Reading.{next_of, held_of, onward, Takes, Went, StopsBehind}
use Rattle.ncc_header.proofs.OneField.{field_too_long}

-- ---- bytes that are taken

takes_both : (old mid new : Reading) (a b : List ℕ) → Takes old mid a → Takes mid new b → Takes old new (a ++ b)
takes_both old mid new a b p q = record {
  limit = q.limit ∙ p.limit;
  goes_on = λ more. ap (onward old) (append_assoc a b more) ∙ p.goes_on (b ++ more) ∙ q.goes_on more;
  long = omega (arith, p.long, q.long, length-append a b);
}

-- used bytes, and then n more
take_more : (used n : ℕ) (piece : List ℕ) → used ≤ length piece → take used piece ++ take n (drop used piece) ≡ take (used + n) piece
take_more used n piece within =
    sym (take-append-add (take used piece) (drop used piece) n)
    ∙ ap (λ (x : List ℕ). take (length (take used piece) + n) x) (take-append-drop used piece)
    ∙ ap (λ (m : ℕ). take (m + n) piece) (length-take-le used piece within)

pub went_more : (old mid new : Reading) (piece : List ℕ) (used n : ℕ) → Went old mid piece used → Went mid new (drop used piece) n → Went old new piece (used + n)
went_more old mid new piece used n w v = record {
  within = omega (arith, w.within, v.within, length-drop used piece);
  takes = subst (Takes old new) (take_more used n piece w.within) (takes_both old mid new (take used piece) (take n (drop used piece)) w.takes v.takes);
}

none_taken : (r : Reading) → Takes r r []
none_taken r = record { limit = refl; goes_on = λ more. refl; long = omega arith }

pub none_went : (r : Reading) (piece : List ℕ) → Went r r piece 0
none_went r piece = record { within = omega arith; takes = none_taken r }

-- ---- faults

-- the next field ends past the limit
pub too_long : (r : Reading) (n : ℕ) (rest : List ℕ) → size_of (next_of r) ≡ Some n → r.limit < r.at + n → StopsBehind r rest (record { kind = HeaderTooLong; offset = r.at })
too_long r n rest is past = record {
  stays = λ more. field_too_long (next_of r) r.limit r.at n (held_of r ++ (rest ++ more)) is past;
  other = λ h. cc;
}

-- ---- an end

pub idle_few : (next : Next) → idle_of next ≤ 2
idle_few nexts.Magic = omega arith
idle_few nexts.VersionByte = omega arith
idle_few nexts.NumRecs = omega arith
idle_few nexts.DimsTag = omega arith
idle_few (nexts.DimsCount t) = omega arith
idle_few (nexts.NameLength x) = omega arith
idle_few (nexts.NameText x n) = omega arith
idle_few (nexts.NamePadding x) = omega arith
idle_few nexts.DimLength = omega arith
idle_few (nexts.AttrsTag o) = omega arith
idle_few (nexts.AttrsCount o t) = omega arith
idle_few (nexts.AttrType o) = omega arith
idle_few (nexts.AttrCount o t) = omega arith
idle_few (nexts.AttrValues o k) = omega arith
idle_few (nexts.AttrPadding o n) = omega arith
idle_few nexts.VarsTag = omega arith
idle_few (nexts.VarsCount t) = omega arith
idle_few nexts.DimIdsCount = omega arith
idle_few (nexts.DimId k) = omega arith
idle_few nexts.VarType = omega arith
idle_few (nexts.Vsize t) = omega arith
idle_few (nexts.VarBegin t size) = omega arith
idle_few nexts.Whole = omega arith

-- a field of no bytes lessens those that may follow, and another the bytes within the limit
pub less : (limit at size i j : ℕ) → j ≤ 2 → (size ≡ 0 → j < i) → at + size ≤ limit → 3 * (limit - (at + size)) + j < 3 * (limit - at) + i
less limit at zero i j few idle within = omega (arith, idle refl)
less limit at (suc n) i j few idle within = omega (arith, few, within)
