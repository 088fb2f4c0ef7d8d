-- A selection of an open file has fewer texts than 2^64, whatever its last count.
use Rattle.std.proofs.Common.{◌≡◌, ℕ, zero, suc, ◌-◌, ◌*◌, ◌^◌, ◌<◌, ◌≤◌, Bool, true, false, List, [], ◌∷◌, map, length, take, drop, sym, ap, subst, arith}
use Rattle.std.specs.Prelude.{if◌then◌else◌}
use Rattle.std.specs.List.{AllByRecursion}
use Rattle.std.proofs.Math.Logic.{∥∥₁_elim}
use Rattle.std.proofs.Props.{props}
use Rattle.std.proofs.lemmas.Nat.{mul-le}
use Rattle.ncc_values.specs.declared.version.Version.{Version}
use Rattle.ncc_schema.specs.declared.schema.Dim.{Dim}
use Rattle.ncc_schema.specs.declared.schema.Schema.{Schema}
use Rattle.ncc_schema.specs.declared.schema.Var.{Var}
use Rattle.ncc_schema.specs.Schema.{Place, LegalDims, LegalVar, is_record_var}
use Rattle.ncc_layout.specs.declared.placed_file.Placed.{Placed}
use Rattle.ncc_layout.specs.declared.placed_var.PlacedVar.{PlacedVar}
use Rattle.ncc_layout.specs.Elements.{no_var, placed_from, var_at}
use Rattle.ncc_layout.specs.Placed.{vars_of}
use Rattle.ncc_layout.specs.Sizes.{length_of, product}
use Rattle.ncc_layout.proofs.Positive.{product_positive}
use Rattle.ncc_layout.proofs.ShapesInFile.{all_at}
use Rattle.ncc_check.specs.Checks.{StandsIn}
use Rattle.ncc_slab.specs.Refusals.{along, EndsBy, Fits, FitsIn}
use Rattle.ncc_slab.specs.declared.slab.Slab.{Slab}
use Rattle.ncc_csv.specs.Texts.{but_last}

-- ---- the lengths of a variable

-- none but the first is 0
abbrev pub HasInner : PlacedVar → Type 0
HasInner x = 0 < product (drop 1 x.shape)

inner_by : (dims : List Dim) (records : ℕ) (b : Bool) (ids : List ℕ) → LegalDims dims ids
    → 0 < product (drop 1 (if b then records ∷ map (length_of dims) (if b then drop 1 ids else ids) else map (length_of dims) (if b then drop 1 ids else ids)))
inner_by dims records true [] legal = omega arith
inner_by dims records false [] legal = omega arith
inner_by dims records true (d ∷ ids) legal = product_positive dims ids legal.1
inner_by dims records false (d ∷ ids) legal = product_positive dims ids legal.1

all_inner : (v : Version) (dims : List Dim) (records n : ℕ) (vars : List Var) (places : List Place) → AllByRecursion (LegalVar v dims) vars
    → AllByRecursion HasInner (placed_from dims records n vars places)
all_inner v dims records n [] places all = tt
all_inner v dims records n (x ∷ vars) [] all = tt
all_inner v dims records n (x ∷ vars) (p ∷ places) all = (
  inner_by dims records (is_record_var dims x) x.dims all.0.dimids,
  all_inner v dims records (suc n) vars places all.1,
)

inner_there : (told : Bool) (bytes : List ℕ) (s : Schema) (p : Placed) (n : ℕ) → ∥ StandsIn told bytes s p ∥₁ → n < length (vars_of p) → HasInner (var_at (vars_of p) n)
inner_there told bytes s p n stands there =
    ∥∥₁_elim stands (hlevel props) (λ (at : StandsIn told bytes s p).
    all_at HasInner (vars_of p) n no_var there
    (subst (AllByRecursion HasInner) (sym at.placed_is.vars_are)
    (all_inner at.header.schema.version at.header.schema.dims _ 0 at.header.schema.vars _ at.begun.2.is_header.legal.sound.vars)))

-- ---- counts

-- as many counts as lengths, each at most its own
abbrev AtMost : (lengths counts : List ℕ) → Type 0
AtMost [] [] = Unit {0}
AtMost (l ∷ ls) (c ∷ cs) = (c ≤ l) × AtMost ls cs
AtMost _ _ = ⊥

count_below : (l s c d : ℕ) → 0 < d → EndsBy l s c d → c ≤ l
count_below l s zero d positive ends = omega arith
count_below l s (suc n) d positive ends = omega (arith, ends, mul-le n 1 n d (omega arith) (omega (arith, positive)))

at_most : (ls ss cs ds : List ℕ) → length ss ≡ length ls → length cs ≡ length ls → length ds ≡ length ls → AllByRecursion Fits (along ls ss cs ds) → AtMost ls cs
at_most [] ss [] ds a b e fit = tt
at_most [] ss (c ∷ cs) ds a b e fit = absurd (omega (arith, b))
at_most (l ∷ ls) ss [] ds a b e fit = absurd (omega (arith, b))
at_most (l ∷ ls) [] (c ∷ cs) ds a b e fit = absurd (omega (arith, a))
at_most (l ∷ ls) (s ∷ ss) (c ∷ cs) [] a b e fit = absurd (omega (arith, e))
at_most (l ∷ ls) (s ∷ ss) (c ∷ cs) (d ∷ ds) a b e fit = (count_below l s c d fit.0.0 fit.0.1, at_most ls ss cs ds (omega (arith, a)) (omega (arith, b)) (omega (arith, e)) fit.1)

but_last_more : (c b : ℕ) (cs : List ℕ) → but_last (c ∷ b ∷ cs) ≡ c ∷ but_last (b ∷ cs)
but_last_more c b cs =
    let one : length (c ∷ b ∷ cs) - 1 ≡ suc (length (b ∷ cs) - 1) = omega arith in
    ap (λ (n : ℕ). take n (c ∷ b ∷ cs)) one

factor_positive : (l p : ℕ) → 0 < l * p → 0 < p
factor_positive l zero h = absurd (omega (arith, h))
factor_positive l (suc p) h = omega arith

-- where no length is 0
inner_at_most : (ls cs : List ℕ) → AtMost ls cs → 0 < product ls → product (but_last cs) ≤ product ls
inner_at_most [] [] below some = omega arith
inner_at_most [] (c ∷ cs) below some = absurd below
inner_at_most (l ∷ ls) [] below some = absurd below
inner_at_most (l ∷ ls) (c ∷ []) below some = omega (arith, some)
inner_at_most (l ∷ []) (c ∷ b ∷ cs) below some = absurd below.1
inner_at_most (l ∷ m ∷ ls) (c ∷ b ∷ cs) below some =
    rw (but_last_more c b cs) (mul-le c (product (but_last (b ∷ cs))) l (product (m ∷ ls)) below.0 (inner_at_most (m ∷ ls) (b ∷ cs) below.1 (factor_positive l (product (m ∷ ls)) some)))

-- or only the first
leading_at_most : (top : ℕ) (ls cs : List ℕ) → AtMost ls cs → 0 < product (drop 1 ls) → 0 < top → product ls ≤ top → product (but_last cs) ≤ top
leading_at_most top [] [] below some room most = omega (arith, room)
leading_at_most top [] (c ∷ cs) below some room most = absurd below
leading_at_most top (l ∷ ls) [] below some room most = absurd below
leading_at_most top (l ∷ ls) (c ∷ []) below some room most = omega (arith, room)
leading_at_most top (l ∷ ls) (c ∷ b ∷ cs) below some room most =
    rw (but_last_more c b cs) (omega (arith, most, mul-le c (product (but_last (b ∷ cs))) l (product ls) below.0 (inner_at_most ls (b ∷ cs) below.1 some)))

-- ---- an open file

pub texts_counted : (told : Bool) (bytes : List ℕ) (s : Schema) (p : Placed) (n : ℕ) (slab : Slab) → ∥ StandsIn told bytes s p ∥₁ → n < length (vars_of p)
    → FitsIn (var_at (vars_of p) n).shape slab → product (var_at (vars_of p) n).shape < 2 ^ 64 → product (but_last slab.count) < 2 ^ 64
texts_counted told bytes s p n slab stands there fits most =
    let lengths = (var_at (vars_of p) n).shape in
    let few = leading_at_most (2 ^ 64 - 1) lengths slab.count (at_most lengths slab.start slab.count slab.stride fits.starts fits.counts fits.strides fits.each)
    (inner_there told bytes s p n stands there) (omega arith) (omega (arith, most)) in
    omega (arith, few)
