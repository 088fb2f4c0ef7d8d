-- That names are of bytes, and values in range, has one proof at most, so that it can be taken from a ghost field.
use Rattle.std.proofs.Common.{ℕ, ◌<◌, List, pos}
use Rattle.std.specs.List.{AllByRecursion, AllByRecursion-prop}
use Rattle.std.proofs.Math.Logic.{∥∥₁_elim, ∥∥₁_map}
use Rattle.std.proofs.Props.{props}
use Rattle.ncc_values.specs.Numbers.{IsBytes}
use Rattle.ncc_values.specs.External.{IsNumberOf}
use Rattle.ncc_values.specs.Values.{AreInRange}
use Rattle.ncc_values.specs.declared.values.Values.{Values}
use Rattle.ncc_values.specs.declared.values.Values.TheVariants.{Bytes, Chars, Shorts, Ints, Floats, Doubles, UBytes, UShorts, UInts, Int64s, UInt64s}
use Rattle.ncc_values.specs.declared.xtype.XType.TheVariants.{Byte, Char, Short, Int, Float, Double, UByte, UShort, UInt, Int64, UInt64}
use Rattle.ncc_schema.specs.declared.schema.Attr.{Attr}
use Rattle.ncc_schema.specs.declared.schema.Dim.{Dim}
use Rattle.ncc_schema.specs.declared.schema.Schema.{Schema}
use Rattle.ncc_schema.specs.declared.schema.Var.{Var}
use Rattle.ncc_schema.specs.Schema.{IsTyped, IsTypedAttr, IsTypedVar, Place, offset_limit}
use Rattle.ncc_layout.specs.Standard.{OffsetsFit, standard_places}
use Rattle.ncc_build.specs.Building.{IsBuilt}
use Rattle.ncc_build.specs.File.{IsWritable}

bytes-prop : (bytes : List ℕ) → IsProp (IsBytes bytes)
bytes-prop bytes = AllByRecursion-prop (λ b. b < 256) (λ b. hlevel props) bytes

range-prop : (values : Values) → IsProp (AreInRange values)
range-prop (Bytes items) = AllByRecursion-prop (λ x. IsNumberOf Byte x) (λ x. hlevel props) items
range-prop (Chars items) = AllByRecursion-prop (λ x. IsNumberOf Char (pos x.0)) (λ x. hlevel props) items
range-prop (Shorts items) = AllByRecursion-prop (λ x. IsNumberOf Short x) (λ x. hlevel props) items
range-prop (Ints items) = AllByRecursion-prop (λ x. IsNumberOf Int x) (λ x. hlevel props) items
range-prop (Floats items) = AllByRecursion-prop (λ x. IsNumberOf Float (pos x.0)) (λ x. hlevel props) items
range-prop (Doubles items) = AllByRecursion-prop (λ x. IsNumberOf Double (pos x.0)) (λ x. hlevel props) items
range-prop (UBytes items) = AllByRecursion-prop (λ x. IsNumberOf UByte (pos x)) (λ x. hlevel props) items
range-prop (UShorts items) = AllByRecursion-prop (λ x. IsNumberOf UShort (pos x)) (λ x. hlevel props) items
range-prop (UInts items) = AllByRecursion-prop (λ x. IsNumberOf UInt (pos x)) (λ x. hlevel props) items
range-prop (Int64s items) = AllByRecursion-prop (λ x. IsNumberOf Int64 x) (λ x. hlevel props) items
range-prop (UInt64s items) = AllByRecursion-prop (λ x. IsNumberOf UInt64 (pos x)) (λ x. hlevel props) items

attr-prop : (a : Attr) → IsProp (IsTypedAttr a)
attr-prop a =
    let name : IsProp (IsBytes a.name) = bytes-prop a.name in
    let values : IsProp (AreInRange a.values) = range-prop a.values in
    hlevel (props, name, values)

var-prop : (x : Var) → IsProp (IsTypedVar x)
var-prop x =
    let name : IsProp (IsBytes x.name) = bytes-prop x.name in
    let attrs : IsProp (AllByRecursion IsTypedAttr x.attrs) = AllByRecursion-prop IsTypedAttr attr-prop x.attrs in
    hlevel (props, name, attrs)

pub offsets_of : (s : Schema) → ∥ IsWritable s ∥₁ → OffsetsFit s
offsets_of s writable = ∥∥₁_elim writable (AllByRecursion-prop (λ (p : Place). p.begin < offset_limit s.version) (λ p. hlevel props) (standard_places s)) (λ (w : IsWritable s). w.offsets)

pub typed_of : (s : Schema) → ∥ IsBuilt s ∥₁ → IsTyped s
typed_of s built =
    let typed : ∥ IsTyped s ∥₁ = ∥∥₁_map built (λ (b : IsBuilt s). b.typed) in
    record {
      dims = ∥∥₁_elim typed (AllByRecursion-prop (λ (d : Dim). IsBytes d.name) (λ d. bytes-prop d.name) s.dims) (λ (t : IsTyped s). t.dims);
      gatts = ∥∥₁_elim typed (AllByRecursion-prop IsTypedAttr attr-prop s.gatts) (λ (t : IsTyped s). t.gatts);
      vars = ∥∥₁_elim typed (AllByRecursion-prop IsTypedVar var-prop s.vars) (λ (t : IsTyped s). t.vars);
    }
