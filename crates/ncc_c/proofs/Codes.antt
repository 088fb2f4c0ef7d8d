-- The types of CDF-5 by their codes, and variables by their rows.
use Rattle.std.proofs.Common.{◌≡◌, ℕ, suc, ◌≤◌, ◌<◌, Bool, true, false, cond, Option, Some, None, List, [], ◌∷◌, map, drop, length, refl, sym, ap, subst, ◌∙◌, arith}
use Rattle.std.specs.Option.{unwrap_or}
use Rattle.std.specs.Prelude.{◌==◌, MatchOption}
use Rattle.std.proofs.lemmas.Bool.{eqb-true}
use Rattle.std.proofs.lemmas.List.{length-map}
use Rattle.ncc_values.specs.XType.{code_of, coded, type_of_code, types_of}
use Rattle.ncc_values.specs.declared.version.Version.{Version}
use Rattle.ncc_values.specs.declared.version.Version.TheVariants.{V5}
use Rattle.ncc_values.specs.declared.xtype.XType.{XType}
use Rattle.ncc_values.specs.declared.xtype.XType.TheVariants.{Byte, Char, Short, Int, Float, Double, UByte, UShort, UInt, Int64, UInt64}
use Rattle.ncc_schema.specs.declared.schema.Dim.{Dim}
use Rattle.ncc_schema.specs.declared.schema.Var.{Var}
use Rattle.ncc_schema.specs.Schema.{Place, is_record_var, starts_with_record}
use Rattle.ncc_layout.specs.declared.placed_var.PlacedVar.{PlacedVar}
use Rattle.ncc_layout.specs.Elements.{placed_from, shape}
use Rattle.ncc_layout.specs.Sizes.{length_of}
use Rattle.ncc_c.specs.Describing.{IsType, type_by}
use Rattle.ncc_c.specs.Rows.{var_rows}
use Rattle.ncc_slab.specs.declared.slab.Slab.{Slab}
use Rattle.ncc_slab.specs.Selected.{places_of}
use Rattle.ncc_ranges.specs.Steps.{FitsFile}
use Rattle.ncc_c.specs.declared.rows.VarRow.{VarRow}
use Rattle.ncc_c.specs.Selecting.{AreVars, IsSameVar, IsVarOf, NoTypeOf}

-- ---- codes

by_first : (b : Bool) (s t : XType) (o : Option XType) (n : ℕ) → (code_of s == n) ≡ b → cond b (Some s) o ≡ Some t → (o ≡ Some t → code_of t ≡ n) → code_of t ≡ n
by_first true s t o n is e later = ap (λ (o : Option XType). code_of (unwrap_or o Byte)) (sym e) ∙ eqb-true (code_of s) n is
by_first false s t o n is e later = later e

code_there : (types : List XType) (n : ℕ) (t : XType) → coded types n ≡ Some t → code_of t ≡ n
code_there [] n t e = absurd cc
code_there (s ∷ types) n t e = by_first (code_of s == n) s t (coded types n) n refl e (code_there types n t)

found : (t : XType) → type_of_code V5 (code_of t) ≡ Some t
found Byte = refl
found Char = refl
found Short = refl
found Int = refl
found Float = refl
found Double = refl
found UByte = refl
found UShort = refl
found UInt = refl
found Int64 = refl
found UInt64 = refl

none_or_some : (t : XType) → None ≡ Some t → ⊥
none_or_some t e = absurd cc

-- a type's code gives it back
pub type_is : (t : XType) → type_by (code_of t) ≡ t
type_is t = ap (λ (o : Option XType). unwrap_or o Byte) (found t)

pub is_type : (t : XType) → IsType (code_of t)
is_type t none = none_or_some t (sym none ∙ found t)

pub code_below : (t : XType) → code_of t ≤ 11
code_below Byte = omega arith
code_below Char = omega arith
code_below Short = omega arith
code_below Int = omega arith
code_below Float = omega arith
code_below Double = omega arith
code_below UByte = omega arith
code_below UShort = omega arith
code_below UInt = omega arith
code_below Int64 = omega arith
code_below UInt64 = omega arith

pub typed : (code : ℕ) (o : Option XType) → o ≡ type_of_code V5 code → MatchOption o (NoTypeOf code) (λ t. code_of t ≡ code)
typed code (Some t) is = code_there (types_of V5) code t (sym is)
typed code None is = λ t code_is. none_or_some t (is ∙ ap (type_of_code V5) (sym code_is) ∙ found t)

no_type : (code : ℕ) (o : Option XType) → o ≡ type_of_code V5 code → 11 < code → None ≡ o
no_type code (Some t) is past = absurd (omega (arith, past, code_below t, code_there (types_of V5) code t (sym is)))
no_type code None is past = refl

-- no type has a code past the last
pub past_types : (code : ℕ) → 11 < code → None ≡ type_of_code V5 code
past_types code past = no_type code (type_of_code V5 code) refl past

pub one_type : (s t : XType) → code_of s ≡ code_of t → s ≡ t
one_type s t e = ap (λ (o : Option XType). unwrap_or o Byte) (sym (found s) ∙ ap (type_of_code V5) e ∙ found t)

-- ---- rows

ranked : (b : Bool) (dims : List Dim) (records : ℕ) (ids : List ℕ) → starts_with_record dims ids ≡ b
    → length ids ≡ length (cond b (records ∷ map (length_of dims) (cond b (drop 1 ids) ids)) (map (length_of dims) (cond b (drop 1 ids) ids)))
ranked true dims records [] is = absurd cc
ranked true dims records (i ∷ ids) is = omega (arith, length-map ids (length_of dims))
ranked false dims records ids is = sym (length-map ids (length_of dims))

rank_is : (dims : List Dim) (records : ℕ) (x : Var) → length x.dims ≡ length (shape dims records x)
rank_is dims records x = ranked (is_record_var dims x) dims records x.dims refl

pub rows_are : (v : Version) (dims : List Dim) (records n at : ℕ) (vars : List Var) (places : List Place) → length places ≡ length vars
    → AreVars (var_rows v at vars (placed_from dims records n vars places)) (placed_from dims records n vars places)
rows_are v dims records n at [] places e = tt
rows_are v dims records n at (x ∷ vars) [] e = absurd (omega (arith, e))
rows_are v dims records n at (x ∷ vars) (p ∷ places) e = (
  record { type_is = refl; shape_is = refl; rank_is = rank_is dims records x; begin_is = refl; record_is = refl },
  rows_are v dims records (suc n) _ vars places (omega (arith, e)),
)

-- ---- one variable

true_or_false : (b d : Bool) → ◌≡◌ {A = ℕ} (cond b 1 0) (cond d 1 0) → b ≡ d
true_or_false true true e = refl
true_or_false true false e = absurd (omega (arith, e))
true_or_false false true e = absurd (omega (arith, e))
true_or_false false false e = refl

pub same_var : (row : VarRow) (lengths : List ℕ) (x y : PlacedVar) → IsVarOf row lengths x → IsVarOf row lengths y → IsSameVar x y
same_var row lengths x y a b = record {
  xtype = one_type x.xtype y.xtype (a.type_is ∙ sym b.type_is);
  shape = a.shape_is ∙ sym b.shape_is;
  begin = a.begin_is ∙ sym b.begin_is;
  is_record = true_or_false x.extent.is_record y.extent.is_record (sym a.record_is ∙ b.record_is);
}

-- a variable of these, and nothing else
abbrev plain : XType → List ℕ → ℕ → Bool → PlacedVar
plain t lengths begin is_record =
    record { xtype = t; shape = lengths; extent = record { begin = begin; slab = 0; variable = 0; is_record = is_record } }

abbrev plain_of : PlacedVar → PlacedVar
plain_of x = plain x.xtype x.shape x.extent.begin x.extent.is_record

same_plain : (x y : PlacedVar) → IsSameVar x y → plain_of x ≡ plain_of y
same_plain x y same =
    ap (λ (t : XType). plain t x.shape x.extent.begin x.extent.is_record) same.xtype
    ∙ ap (λ (ls : List ℕ). plain y.xtype ls x.extent.begin x.extent.is_record) same.shape
    ∙ ap (λ (n : ℕ). plain y.xtype y.shape n x.extent.is_record) same.begin
    ∙ ap (λ (b : Bool). plain y.xtype y.shape y.extent.begin b) same.is_record

pub same_places : (record_size : ℕ) (s : Slab) (x y : PlacedVar) → IsSameVar x y → places_of record_size x s ≡ places_of record_size y s
same_places record_size s x y same = ap (λ (z : PlacedVar). places_of record_size z s) (same_plain x y same)

pub same_fit : (record_size file : ℕ) (s : Slab) (x y : PlacedVar) → IsSameVar x y → FitsFile record_size file x s → FitsFile record_size file y s
same_fit record_size file s x y same fits =
    let of_plain : FitsFile record_size file (plain_of x) s = record { lengths = fits.lengths; bytes = fits.bytes; elements = fits.elements; last = fits.last } in
    let moved = subst (λ (z : PlacedVar). FitsFile record_size file z s) (same_plain x y same) of_plain in
    record { lengths = moved.lengths; bytes = moved.bytes; elements = moved.elements; last = moved.last }
