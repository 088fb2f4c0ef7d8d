-- No variable that is there is without a byte.
use Rattle.std.proofs.Common.{◌≡◌, ℕ, ◌<◌, Bool, true, false, List, [], ◌∷◌, map, drop, refl, sym, arith}
use Rattle.std.specs.Prelude.{if◌then◌else◌}
use Rattle.std.specs.List.{AllByRecursion}
use Rattle.std.proofs.lemmas.Grind.{common_steps}
use Rattle.std.proofs.lemmas.Nat.{mul-le}
use Rattle.ncc_values.specs.XType.{size_of}
use Rattle.ncc_values.proofs.ElementsLemmas.{size_of-some}
use Rattle.ncc_schema.specs.declared.schema.Dim.{Dim}
use Rattle.ncc_schema.specs.declared.schema.Var.{Var}
use Rattle.ncc_schema.specs.Schema.{IsFixed, LegalDims, is_record, is_record_var, starts_with_record}
use Rattle.ncc_layout.specs.Sizes.{inner, length_of, product, slab}

pub fixed_positive : (dims : List Dim) (d : ℕ) → IsFixed dims d → 0 < length_of dims d
fixed_positive dims d h = grind (arith, common_steps, h.0, h.1)

pub product_positive : (dims : List Dim) (ids : List ℕ) → AllByRecursion (IsFixed dims) ids → 0 < product (map (length_of dims) ids)
product_positive dims [] all = omega arith
product_positive dims (d ∷ ids) all = mul-le 1 1 (length_of dims d) (product (map (length_of dims) ids)) (fixed_positive dims d all.0) (product_positive dims ids all.1)

not_fixed_after_records : (dims : List Dim) (d : ℕ) (ds : List ℕ) (b : Bool) → b ≡ is_record dims d → LegalDims dims (d ∷ ds) → 0 < product (map (length_of dims) (if b then ds else d ∷ ds))
not_fixed_after_records dims d ds true e legal = product_positive dims ds legal.1
not_fixed_after_records dims d ds false e legal = product_positive dims (d ∷ ds) ((legal.0, sym e), legal.1)

inner_positive : (dims : List Dim) (ids : List ℕ) (b : Bool) → b ≡ starts_with_record dims ids → LegalDims dims ids → 0 < product (map (length_of dims) (if b then drop 1 ids else ids))
inner_positive dims [] true e legal = omega arith
inner_positive dims [] false e legal = omega arith
inner_positive dims (d ∷ ds) b e legal = not_fixed_after_records dims d ds b e legal

pub slab_positive : (dims : List Dim) (x : Var) → LegalDims dims x.dims → 0 < slab dims x
slab_positive dims x legal = mul-le 1 1 (product (inner dims x)) (size_of x.xtype) (inner_positive dims x.dims (is_record_var dims x) refl legal) (size_of-some x.xtype)
