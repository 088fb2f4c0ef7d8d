-- What a judgement that finds nothing wrong says, and how widths and limits fit.
use Rattle.std.proofs.Common.{◌≡◌, ℕ, suc, ◌^◌, ◌<◌, ◌≤◌, Bool, true, false, ltb, not, Option, Some, None, refl, arith}
use Rattle.std.proofs.lemmas.Bool.{ltb-true, lt-ltb}
use Rattle.ncc_values.specs.Version.{count_width_of, offset_width_of}
use Rattle.ncc_values.specs.declared.version.Version.{Version}
use Rattle.ncc_values.specs.declared.version.Version.TheVariants.{V1, V2, V5}
use Rattle.ncc_header.specs.declared.fault.FaultKind.{FaultKind}
use Rattle.ncc_header.specs.declared.fault.Wrong.{Wrong}
use Rattle.ncc_schema.specs.Schema.{count_limit, length_limit, offset_limit, streaming_mark}
use Rattle.ncc_header.specs.Fields.{unless, first, at_tag_if}

pub unless-none : (b : Bool) (kind : FaultKind) → unless b kind ≡ None → b ≡ true
unless-none true kind h = refl
unless-none false kind h = absurd cc

pub first-none : (u w : Option Wrong) → first u w ≡ None → (u ≡ None) × (w ≡ None)
first-none None w h = (refl, h)
first-none (Some u) w h = absurd cc

pub at_tag_if-none : (b : Bool) (kind : FaultKind) → at_tag_if b kind ≡ None → b ≡ false
at_tag_if-none true kind h = absurd cc
at_tag_if-none false kind h = refl

pub below-none : (n m : ℕ) (kind : FaultKind) → unless (ltb n m) kind ≡ None → n < m
below-none n m kind h = ltb-true n m (unless-none (ltb n m) kind h)

pub none-below : (n m : ℕ) (kind : FaultKind) → n < m → unless (ltb n m) kind ≡ None
none-below n m kind h = rw (lt-ltb n m h) refl

pub not-true : (b : Bool) → not b ≡ true → b ≡ false
not-true true h = absurd cc
not-true false h = refl

pub not-false : (b : Bool) → not b ≡ false → b ≡ true
not-false true h = refl
not-false false h = absurd cc

-- ---- limits and widths

pub count_limit-fits : (v : Version) → count_limit v ≤ 256 ^ count_width_of v
count_limit-fits V1 = omega arith
count_limit-fits V2 = omega arith
count_limit-fits V5 = omega arith

pub length_limit-fits : (v : Version) → length_limit v ≤ 256 ^ count_width_of v
length_limit-fits V1 = omega arith
length_limit-fits V2 = omega arith
length_limit-fits V5 = omega arith

pub offset_limit-fits : (v : Version) → offset_limit v ≤ 256 ^ offset_width_of v
offset_limit-fits V1 = omega arith
offset_limit-fits V2 = omega arith
offset_limit-fits V5 = omega arith

pub streaming_mark-last : (v : Version) → suc (streaming_mark v) ≡ 256 ^ count_width_of v
streaming_mark-last V1 = refl
streaming_mark-last V2 = refl
streaming_mark-last V5 = refl
