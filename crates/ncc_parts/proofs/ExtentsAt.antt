-- The extent of one variable.
use Rattle.std.proofs.Common.{◌≡◌, ℕ, zero, suc, ◌+◌, ◌<◌, ◌≤◌, true, false, Option, Some, if◌then◌else◌, List, [], ◌∷◌, length, get_or, refl, sym, ap, ◌∙◌, arith}
use Rattle.ncc_schema.specs.declared.schema.Dim.{Dim}
use Rattle.ncc_schema.specs.declared.schema.Var.{Var}
use Rattle.ncc_schema.specs.Schema.{Place}
use Rattle.ncc_layout.specs.declared.extent.Extent.{Extent}
use Rattle.ncc_layout.specs.Extents.{begin_sooner, extent_of, extents_from, least_begin, records_of}

pub extents-at : (dims : List Dim) (m n : ℕ) (vars : List Var) (places : List Place) (x : Var) (p : Place) (e : Extent) → n < length vars → n < length places
    → get_or (extents_from dims m vars places) n e ≡ extent_of dims (m + n) (get_or vars n x) (get_or places n p)
extents-at dims m n [] places x p e there placed = absurd (omega (arith, there))
extents-at dims m n (y ∷ vars) [] x p e there placed = absurd (omega (arith, placed))
extents-at dims m zero (y ∷ vars) (q ∷ places) x p e there placed = ap (λ (k : ℕ). extent_of dims k y q) (omega arith)
extents-at dims m (suc n) (y ∷ vars) (q ∷ places) x p e there placed =
    extents-at dims (suc m) n vars places x p e (omega (arith, there)) (omega (arith, placed))
    ∙ ap (λ (k : ℕ). extent_of dims k (get_or vars n x) (get_or places n p)) (omega arith)

-- ---- how many there are

pub short : (dims : List Dim) (m : ℕ) (vars : List Var) (places : List Place) → length (extents_from dims m vars places) ≤ length vars
short dims m [] places = omega arith
short dims m (x ∷ vars) [] = omega arith
short dims m (x ∷ vars) (p ∷ places) = omega (arith, short dims (suc m) vars places)

pub long : (dims : List Dim) (m : ℕ) (vars : List Var) (places : List Place) → length places ≡ length vars → length (extents_from dims m vars places) ≡ length vars
long dims m [] places e = refl
long dims m (x ∷ vars) [] e = absurd (omega (arith, e))
long dims m (x ∷ vars) (p ∷ places) e = ap suc (long dims (suc m) vars places (omega (arith, e)))

-- ---- one more, in front

pub least_more : (e : Extent) (es : List Extent) (least : Option ℕ) → e.is_record ≡ true → least ≡ least_begin (records_of es) → Some (begin_sooner least e.begin) ≡ least_begin (records_of (e ∷ es))
least_more e es least is same =
    ap (λ n. Some (begin_sooner n e.begin)) same
    ∙ sym (ap (λ b. least_begin (if b then e ∷ records_of es else records_of es)) is)

pub least_same : (e : Extent) (es : List Extent) (least : Option ℕ) → e.is_record ≡ false → least ≡ least_begin (records_of es) → least ≡ least_begin (records_of (e ∷ es))
least_same e es least is same = same ∙ sym (ap (λ b. least_begin (if b then e ∷ records_of es else records_of es)) is)
