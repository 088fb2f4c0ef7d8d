-- That a schema is sound has one proof at most, so that it can be taken from a ghost field.
use Rattle.std.proofs.Common.{ℕ, List, [], ◌∷◌}
use Rattle.std.specs.List.{AllByRecursion, AllByRecursion-prop}
use Rattle.std.proofs.Math.Logic.{∥∥₁_elim, ∥∥₁_map}
use Rattle.std.proofs.Props.{props}
use Rattle.ncc_values.specs.declared.version.Version.{Version}
use Rattle.ncc_schema.specs.declared.schema.Count.{Count}
use Rattle.ncc_schema.specs.declared.schema.Count.TheVariants.{Known, Streaming}
use Rattle.ncc_schema.specs.declared.schema.Dim.{Dim}
use Rattle.ncc_schema.specs.declared.schema.Attr.{Attr}
use Rattle.ncc_schema.specs.declared.schema.Var.{Var}
use Rattle.ncc_schema.specs.declared.schema.Schema.{Schema}
use Rattle.ncc_schema.specs.Schema.{Place, Legal, LegalCount, LegalDim, LegalAttr, LegalPlace, LegalVar, LegalDims, IsFixed, Sound}
use Rattle.ncc_build.specs.Building.{IsBuilt}

count-prop : (v : Version) (c : Count) → IsProp (LegalCount v c)
count-prop v (Known n) = hlevel props
count-prop v Streaming = hlevel props

dims-prop : (dims : List Dim) (ids : List ℕ) → IsProp (LegalDims dims ids)
dims-prop dims [] = hlevel props
dims-prop dims (n ∷ ids) =
    let fixed : IsProp (AllByRecursion (IsFixed dims) ids) = AllByRecursion-prop (IsFixed dims) (λ m. hlevel props) ids in
    hlevel (props, fixed)

attr-prop : (v : Version) (a : Attr) → IsProp (LegalAttr v a)
attr-prop v a = hlevel props

dim-prop : (v : Version) (d : Dim) → IsProp (LegalDim v d)
dim-prop v d = hlevel props

var-prop : (v : Version) (dims : List Dim) (x : Var) → IsProp (LegalVar v dims x)
var-prop v dims x =
    let ids : IsProp (LegalDims dims x.dims) = dims-prop dims x.dims in
    let attrs : IsProp (AllByRecursion (LegalAttr v) x.attrs) = AllByRecursion-prop (LegalAttr v) (attr-prop v) x.attrs in
    hlevel (props, ids, attrs)

pub sound_is : (s : Schema) → ∥ Sound s ∥₁ → Sound s
sound_is s sound = record {
  count = ∥∥₁_elim sound (count-prop s.version s.count) (λ (l : Sound s). l.count);
  dims_number = ∥∥₁_elim sound (hlevel props) (λ (l : Sound s). l.dims_number);
  dims = ∥∥₁_elim sound (AllByRecursion-prop (LegalDim s.version) (dim-prop s.version) s.dims) (λ (l : Sound s). l.dims);
  one_record_dim = ∥∥₁_elim sound (hlevel props) (λ (l : Sound s). l.one_record_dim);
  gatts_number = ∥∥₁_elim sound (hlevel props) (λ (l : Sound s). l.gatts_number);
  gatts = ∥∥₁_elim sound (AllByRecursion-prop (LegalAttr s.version) (attr-prop s.version) s.gatts) (λ (l : Sound s). l.gatts);
  vars_number = ∥∥₁_elim sound (hlevel props) (λ (l : Sound s). l.vars_number);
  vars = ∥∥₁_elim sound (AllByRecursion-prop (LegalVar s.version s.dims) (var-prop s.version s.dims) s.vars) (λ (l : Sound s). l.vars);
}

pub sound_of : (s : Schema) → ∥ IsBuilt s ∥₁ → Sound s
sound_of s built = sound_is s (∥∥₁_map built (λ (b : IsBuilt s). b.sound))

-- and so has that it is legal
pub legal_of : (s : Schema) (places : List Place) → ∥ Legal s places ∥₁ → Legal s places
legal_of s places legal = record {
  sound = sound_is s (∥∥₁_map legal (λ (l : Legal s places). l.sound));
  number = ∥∥₁_elim legal (hlevel props) (λ (l : Legal s places). l.number);
  placed = ∥∥₁_elim legal (AllByRecursion-prop (LegalPlace s.version) (λ p. hlevel props) places) (λ (l : Legal s places). l.placed);
}
