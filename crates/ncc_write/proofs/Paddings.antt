-- How long a slab is with its padding.
use Rattle.std.proofs.Common.{◌≡◌, ℕ, zero, suc, ◌*◌, Bool, true, false, length, Option, Some, None, refl, sym, ap, ap₂, ◌∙◌, arith, length-append}
use Rattle.std.specs.Prelude.{◌/◌, ◌==◌, if◌then◌else◌}
use Rattle.std.proofs.lemmas.Bool.{eqb-true, and_parts}
use Rattle.ncc_values.specs.Fill.{fill_of}
use Rattle.ncc_values.specs.Padding.{padding_of}
use Rattle.ncc_values.specs.Values.{type_of, count_of, bytes_of}
use Rattle.ncc_values.specs.XType.{code_of, size_of, type_of_code}
use Rattle.ncc_values.specs.declared.version.Version.TheVariants.{V5}
use Rattle.ncc_values.specs.declared.xtype.XType.{XType}
use Rattle.ncc_values.specs.declared.xtype.XType.TheVariants.{Byte, Char, Short, Int, Float, Double, UByte, UShort, UInt, Int64, UInt64}
use Rattle.ncc_values.proofs.ValuesLemmas.{length-bytes_of}
use Rattle.ncc_schema.specs.declared.schema.Attr.{Attr}
use Rattle.ncc_schema.specs.declared.schema.Schema.{Schema}
use Rattle.ncc_schema.specs.declared.schema.Var.{Var}
use Rattle.ncc_build.specs.Fill.{same_type, fill_name, named, is_fill, fill_by, fill_bytes, fills}
use Rattle.ncc_build.specs.Dataset.{elements}
use Rattle.ncc_build.specs.File.{is_lone, padding_in, padding_bytes}
use Rattle.ncc_write.proofs.Growing.{by_size}

-- ---- types

code_tells : (t : XType) → type_of_code V5 (code_of t) ≡ Some t
code_tells Byte = refl
code_tells Char = refl
code_tells Short = refl
code_tells Int = refl
code_tells Float = refl
code_tells Double = refl
code_tells UByte = refl
code_tells UShort = refl
code_tells UInt = refl
code_tells Int64 = refl
code_tells UInt64 = refl

pub some_is : {A : Type 0} (a b : A) → Some a ≡ Some b → a ≡ b
some_is a b e = cc

pub type_is : (t u : XType) → same_type t u ≡ true → t ≡ u
type_is t u same = some_is t u (sym (code_tells t) ∙ ap (type_of_code V5) (eqb-true (code_of t) (code_of u) same)
    ∙ code_tells u)

length_default : (t : XType) → length (fill_of t) ≡ size_of t
length_default Byte = refl
length_default Char = refl
length_default Short = refl
length_default Int = refl
length_default Float = refl
length_default Double = refl
length_default UByte = refl
length_default UShort = refl
length_default UInt = refl
length_default Int64 = refl
length_default UInt64 = refl

-- ---- fill values

by_fit : (t : XType) (a : Attr) (fits : Bool) → is_fill t a ≡ fits
    → length (if fits then bytes_of a.values else fill_of t) ≡ size_of t
by_fit t a true is =
    let both = and_parts (same_type (type_of a.values) t) (count_of a.values == 1) is in
    let one : 1 * size_of t ≡ size_of t = omega arith in
    length-bytes_of a.values ∙ ap₂ (λ (n : ℕ) (u : XType). n * size_of u) (eqb-true (count_of a.values) 1 both.1)
    (type_is (type_of a.values) t both.0) ∙ one
by_fit t a false is = length_default t

by_attr : (t : XType) (o : Option Attr) → length (fill_by t o) ≡ size_of t
by_attr t None = length_default t
by_attr t (Some a) = by_fit t a (is_fill t a) refl

pub length_fill : (x : Var) → length (fill_bytes x) ≡ size_of x.xtype
length_fill x = by_attr x.xtype (named fill_name x.attrs)

pub length_fills : (n : ℕ) (x : Var) → length (fills n x) ≡ n * size_of x.xtype
length_fills zero x = omega arith
length_fills (suc n) x =
    let both = length-append (fill_bytes x) (fills n x) in
    omega (arith, both, length_fill x, length_fills n x)

-- ---- padding

-- padding is whole elements
abbrev Whole : ℕ → Type 0
Whole w = (e : ℕ) → padding_of (e * w) / w * w ≡ padding_of (e * w)

whole_padding : (t : XType) → Whole (size_of t)
whole_padding t = by_size Whole (λ e. omega arith) (λ e. omega arith) (λ e. omega arith) (λ e. omega arith) t

abbrev pub padding_by : ℕ → (lone : Bool) → ℕ
padding_by n lone = if lone then 0 else padding_of n

whole_by : (t : XType) (e : ℕ) (lone : Bool) → padding_by (e * size_of t) lone / size_of t * size_of t ≡ padding_by
    (e * size_of t) lone
whole_by t e true = by_size (λ w. 0 / w * w ≡ 0) refl refl refl refl t
whole_by t e false = whole_padding t e

pub length_padding : (s : Schema) (x : Var) → length (padding_bytes s x) ≡ padding_in s x
length_padding s x = length_fills (padding_in s x / size_of x.xtype) x
    ∙ whole_by x.xtype (elements s.dims x) (is_lone s x)
