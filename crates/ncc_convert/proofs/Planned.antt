-- A planned schema, and the variables of the open file that it is planned for.
use Rattle.std.proofs.Common.{◌≡◌, ℕ, ◌<◌, Bool, List, length, sym, ap, subst, ◌∙◌}
use Rattle.std.proofs.Math.Logic.{∥∥₁_elim}
use Rattle.std.proofs.Props.{props}
use Rattle.ncc_schema.specs.declared.schema.Schema.{Schema}
use Rattle.ncc_schema.specs.Schema.{Place, is_record_var, places_of}
use Rattle.ncc_layout.specs.declared.placed_file.Placed.{Placed}
use Rattle.ncc_layout.specs.Elements.{placed_with, var_at}
use Rattle.ncc_layout.specs.Placed.{records_of_file, vars_of}
use Rattle.ncc_layout.specs.Plans.{known}
use Rattle.ncc_layout.specs.Sizes.{slab}
use Rattle.ncc_check.specs.Checks.{StandsIn}
use Rattle.ncc_build.specs.Dataset.{Slab}
use Rattle.ncc_write.proofs.FileSlabs.{PlacedSlab, placed_slab}
use Rattle.ncc_write.proofs.SlabsAt.{IsAmong}
use Rattle.ncc_write.specs.Planned.{IsPlanned}

module _ (b : Bool) (file : List ℕ) (s : Schema) (p : Placed) (t : Schema) (planned : IsPlanned s p t) where
  module _ (stands : StandsIn b file s p) where
    abbrev pub places : List Place
    places = places_of stands.header.places

    pub many : length places ≡ length t.vars
    many = stands.begun.2.is_header.legal.number
        ∙ ap (λ (u : Schema). length u.vars) (sym stands.schema_is) ∙ ap (λ (u : Schema). length u.vars) (sym planned)

    pub vars_are : vars_of p ≡ placed_with t places (known t.count)
    vars_are = stands.placed_is.vars_are
        ∙ ap (placed_with stands.header.schema places) (sym stands.placed_is.records_are)
        ∙ ap (λ (u : Schema). placed_with u places (records_of_file p)) (sym stands.schema_is)
        ∙ ap (λ (u : Schema). placed_with u places (known u.count)) (sym planned)

    placed_by : (c : Slab) → IsAmong t c → PlacedSlab t (vars_of p) c
    placed_by c among = subst (λ (vars : List _). PlacedSlab t vars c) (sym vars_are) (placed_slab t c among places many)

  -- ---- the variable of a slab

  module _ (stands : ∥ StandsIn b file s p ∥₁) (c : Slab) (among : IsAmong t c) where
    pub var_there : c.number < length (vars_of p)
    var_there = ∥∥₁_elim stands (hlevel props) (λ (st : StandsIn b file s p). (placed_by st c among).there)

    pub var_xtype : (var_at (vars_of p) c.number).xtype ≡ c.var.xtype
    var_xtype = ∥∥₁_elim stands (hlevel props) (λ (st : StandsIn b file s p). (placed_by st c among).xtype_is)

    pub var_slab : (var_at (vars_of p) c.number).extent.slab ≡ slab t.dims c.var
    var_slab = ∥∥₁_elim stands (hlevel props) (λ (st : StandsIn b file s p). (placed_by st c among).slab_is)

    pub var_record : (var_at (vars_of p) c.number).extent.is_record ≡ is_record_var t.dims c.var
    var_record = ∥∥₁_elim stands (hlevel props) (λ (st : StandsIn b file s p). (placed_by st c among).record_is)
