-- An open file has a place for each variable of its header.
use Rattle.std.proofs.Common.{◌≡◌, ℕ, suc, Bool, List, [], ◌∷◌, length, refl, ap, ◌∙◌, sym, arith}
use Rattle.std.proofs.Math.Logic.{∥∥₁_elim}
use Rattle.std.proofs.Props.{props}
use Rattle.ncc_schema.specs.declared.schema.Dim.{Dim}
use Rattle.ncc_schema.specs.declared.schema.Schema.{Schema}
use Rattle.ncc_schema.specs.declared.schema.Var.{Var}
use Rattle.ncc_schema.specs.Schema.{Place}
use Rattle.ncc_layout.specs.Elements.{placed_from}
use Rattle.ncc_layout.specs.Placed.{vars_of}
use Rattle.ncc_layout.specs.declared.placed_file.Placed.{Placed}
use Rattle.ncc_check.specs.Checks.{StandsIn}

as_many : (dims : List Dim) (records n : ℕ) (vars : List Var) (places : List Place) → length places ≡ length vars → length (placed_from dims records n vars places) ≡ length vars
as_many dims records n [] places same = refl
as_many dims records n (x ∷ vars) [] same = absurd (cc same)
as_many dims records n (x ∷ vars) (p ∷ places) same = ap suc (as_many dims records (suc n) vars places (omega (arith, same)))

pub variables_there : (told : Bool) (bytes : List ℕ) (s : Schema) (p : Placed) → ∥ StandsIn told bytes s p ∥₁ → length (vars_of p) ≡ length s.vars
variables_there told bytes s p stands =
    ∥∥₁_elim stands (hlevel props) (λ (at : StandsIn told bytes s p). ap length at.placed_is.vars_are
    ∙ as_many _ _ _ _ _ at.begun.2.is_header.legal.number
    ∙ ap (λ (t : Schema). length t.vars) (sym at.schema_is))
