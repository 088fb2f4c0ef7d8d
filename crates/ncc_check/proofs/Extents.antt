-- The extents of variables, by number.
use Rattle.std.proofs.Common.{◌≡◌, ℕ, zero, suc, ◌+◌, ◌<◌, List, [], ◌∷◌, length, map, get_or, refl, sym, ap, arith}
use Rattle.std.specs.Prelude.{slice_get, Some, Contains}
use Rattle.ncc_schema.specs.declared.schema.Dim.{Dim}
use Rattle.ncc_schema.specs.declared.schema.Var.{Var}
use Rattle.ncc_schema.specs.declared.schema.VarPlace.{VarPlace}
use Rattle.ncc_schema.specs.Schema.{place_of, places_of, is_record_var}
use Rattle.ncc_layout.specs.declared.extent.Extent.{Extent}
use Rattle.ncc_layout.specs.Extents.{extent_of, extents_from}
use Rattle.ncc_check.specs.Noting.{begins_of}

-- the extent of the variable of this number, counted from the first
pub record IsExtent (dims : List Dim) (first : ℕ) (vars : List Var) (places : List VarPlace) (k : ℕ) (e : Extent) : Type 0 where
  pub number : e.variable ≡ first + k
  pub begin : e.begin ≡ get_or (begins_of places) k 0
  pub kind : slice_get (map (is_record_var dims) vars) k ≡ Some e.is_record

pub extent_there : (dims : List Dim) (first : ℕ) (vars : List Var) (places : List VarPlace) (k : ℕ) → length places ≡ length vars → k < length places
    → (e : Extent) × Contains (extents_from dims first vars (places_of places)) e × IsExtent dims first vars places k e
extent_there dims first [] [] k long below = absurd (omega (arith, below))
extent_there dims first [] (p ∷ places) k long below = absurd (omega (arith, long))
extent_there dims first (x ∷ vars) [] k long below = absurd (omega (arith, below))
extent_there dims first (x ∷ vars) (p ∷ places) zero long below =
    (extent_of dims first x (place_of p), (0, omega arith, refl), record { number = omega arith; begin = refl; kind = refl })
extent_there dims first (x ∷ vars) (p ∷ places) (suc k) long below =
    let t = extent_there dims (suc first) vars places k (omega (arith, long)) (omega (arith, below)) in
    let c = t.1 in
    let number = t.2.number in
    (t.0, (suc c.0, omega (arith, c.1), c.2), record { number = omega (arith, number); begin = t.2.begin; kind = t.2.kind })

pub extent_number : (dims : List Dim) (first : ℕ) (vars : List Var) (places : List VarPlace) (e : Extent) → Contains (extents_from dims first vars (places_of places)) e
    → (k : ℕ) × (k < length places) × IsExtent dims first vars places k e
extent_number dims first [] places e (k, below, is) = absurd (omega (arith, below))
extent_number dims first (x ∷ vars) [] e (k, below, is) = absurd (omega (arith, below))
extent_number dims first (x ∷ vars) (p ∷ places) e (zero, below, is) =
    let number : e.variable ≡ first = ap (λ (y : Extent). y.variable) (sym is) in
    (0, omega arith, record { number = omega (arith, number); begin = ap (λ (y : Extent). y.begin) (sym is); kind = ap (λ (y : Extent). Some y.is_record) is })
extent_number dims first (x ∷ vars) (p ∷ places) e (suc k, below, is) =
    let t = extent_number dims (suc first) vars places e (k, omega (arith, below), is) in
    let number = t.2.number in
    let there = t.1 in
    (suc t.0, omega (arith, there), record { number = omega (arith, number); begin = t.2.begin; kind = t.2.kind })
