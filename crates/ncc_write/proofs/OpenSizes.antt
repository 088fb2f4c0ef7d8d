-- The sizes of an open file's variables are those of its schema.
use Rattle.std.proofs.Common.{◌≡◌, ℕ, suc, List, [], ◌∷◌, map, length, refl, ap, sym, subst, ◌∙◌, arith}
use Rattle.std.proofs.Math.Logic.{∥∥₁_elim}
use Rattle.std.proofs.Props.{props}
use Rattle.std.specs.Prelude.{Bool}
use Rattle.ncc_schema.specs.declared.schema.Dim.{Dim}
use Rattle.ncc_schema.specs.declared.schema.Schema.{Schema}
use Rattle.ncc_schema.specs.declared.schema.Var.{Var}
use Rattle.ncc_schema.specs.Schema.{Place, Sound}
use Rattle.ncc_layout.specs.declared.placed_file.Placed.{Placed}
use Rattle.ncc_layout.specs.Elements.{placed_from}
use Rattle.ncc_layout.specs.Sizes.{record_size_of, slab}
use Rattle.ncc_check.specs.Checks.{StandsIn}
use Rattle.ncc_build.proofs.SoundProps.{sound_is}
use Rattle.ncc_write.specs.Records.{HasSizes}

slabs_placed : (dims : List Dim) (records n : ℕ) (vars : List Var) (places : List Place) → length places ≡ length vars
    → map (λ x. x.extent.slab) (placed_from dims records n vars places) ≡ map (slab dims) vars
slabs_placed dims records n [] places same = refl
slabs_placed dims records n (x ∷ vars) [] same = absurd (cc same)
slabs_placed dims records n (x ∷ vars) (p ∷ places) same = ap (λ (l : List ℕ). slab dims x ∷ l)
    (slabs_placed dims records (suc n) vars places (omega (arith, same)))

pub sizes_of_open : (told : Bool) (bytes : List ℕ) (s : Schema) (p : Placed) → ∥ StandsIn told bytes s p ∥₁ → HasSizes s p
sizes_of_open told bytes s p stands = record {
  sound = sound_is s (∥∥₁_elim stands (hlevel props) (λ (at : StandsIn told bytes s p).
      ∣ subst Sound (sym at.schema_is) at.begun.2.is_header.legal.sound ∣₁));
  slabs = ∥∥₁_elim stands (hlevel props) (λ (at : StandsIn told bytes s p).
      ap (map (λ x. x.extent.slab)) at.placed_is.vars_are
      ∙ slabs_placed _ _ _ _ _ at.begun.2.is_header.legal.number
      ∙ ap (λ (t : Schema). map (slab t.dims) t.vars) (sym at.schema_is));
  record_size = ∥∥₁_elim stands (hlevel props) (λ (at : StandsIn told bytes s p).
      at.placed_is.size_is ∙ ap record_size_of (sym at.schema_is));
}
