-- The shapes that a caller makes of the rows of dimensions.
use Rattle.std.proofs.Common.{◌≡◌, ℕ, suc, ◌+◌, ◌<◌, Bool, true, false, cond, List, [], ◌∷◌, length, map, get_or, drop, refl, sym, ap, ap₂, subst, ◌∙◌, arith}
use Rattle.std.specs.List.{AllByRecursion}
use Rattle.std.specs.Prelude.{◌==◌}
use Rattle.std.proofs.lemmas.Grind.{get_or_default_zero}
use Rattle.std.proofs.lemmas.List.{length-map}
use Rattle.ncc_values.specs.declared.version.Version.{Version}
use Rattle.ncc_schema.specs.declared.schema.Dim.{Dim}
use Rattle.ncc_schema.specs.declared.schema.Header.{Header}
use Rattle.ncc_schema.specs.declared.schema.Var.{Var}
use Rattle.ncc_schema.specs.Header.{canon_dim}
use Rattle.ncc_schema.specs.Names.{head_size, list_size}
use Rattle.ncc_schema.specs.Schema.{IsFixed, LegalDims, LegalVar, Place, is_record, lengths, places_of, starts_with_record}
use Rattle.ncc_layout.specs.declared.placed_file.Placed.{Placed}
use Rattle.ncc_layout.specs.declared.placed_var.PlacedVar.{PlacedVar}
use Rattle.ncc_layout.specs.Elements.{placed_from}
use Rattle.ncc_layout.specs.Extents.{record_count}
use Rattle.ncc_layout.specs.Placed.{records_of_file, vars_of}
use Rattle.ncc_layout.specs.Sizes.{length_of}
use Rattle.ncc_front.specs.Judging.{FindsOf}
use Rattle.ncc_c.specs.declared.rows.DimRow.{DimRow}
use Rattle.ncc_c.specs.Rows.{ShapesBy, all_dim_rows, dim_rows, shape_by}

-- the lengths of rows
lengths_are : (v : Version) (at : ℕ) (dims : List Dim) → map (λ r. r.length) (dim_rows v at dims) ≡ lengths dims
lengths_are v at [] = refl
lengths_are v at (d ∷ dims) = ap (λ (ns : List ℕ). d.length ∷ ns) (lengths_are v (at + length (canon_dim v d)) dims)

module _ (dims : List Dim) (records : ℕ) where
  -- by the lengths themselves
  abbrev of : ℕ → ℕ
  of id = cond (length_of dims id == 0) records (length_of dims id)

  same_default : (id : ℕ) → id < length dims → get_or (lengths dims) id 1 ≡ length_of dims id
  same_default id there = get_or_default_zero (lengths dims) id 1 (omega (arith, there, length-map dims (λ (d : Dim). d.length)))

  kind_is : (id : ℕ) (b : Bool) → id < length dims → is_record dims id ≡ b → (length_of dims id == 0) ≡ b
  kind_is id b there is = ap (λ (n : ℕ). n == 0) (sym (same_default id there)) ∙ is

  fixed : (id : ℕ) → IsFixed dims id → of id ≡ length_of dims id
  fixed id is = ap (λ (b : Bool). cond b records (length_of dims id)) (kind_is id false is.0 is.1)

  all_fixed : (ids : List ℕ) → AllByRecursion (IsFixed dims) ids → map of ids ≡ map (length_of dims) ids
  all_fixed [] is = refl
  all_fixed (id ∷ ids) is = ap₂ (λ (n : ℕ) (ns : List ℕ). n ∷ ns) (fixed id is.0) (all_fixed ids is.1)

  first_and_others : (b : Bool) (id : ℕ) (ids : List ℕ) → id < length dims → is_record dims id ≡ b → AllByRecursion (IsFixed dims) ids
      → map of (id ∷ ids) ≡ cond b (records ∷ map (length_of dims) (cond b (drop 1 (id ∷ ids)) (id ∷ ids))) (map (length_of dims) (cond b (drop 1 (id ∷ ids)) (id ∷ ids)))
  first_and_others true id ids there is others =
      ap₂ (λ (n : ℕ) (ns : List ℕ). n ∷ ns) (ap (λ (b : Bool). cond b records (length_of dims id)) (kind_is id true there is)) (all_fixed ids others)
  first_and_others false id ids there is others =
      ap₂ (λ (n : ℕ) (ns : List ℕ). n ∷ ns) (ap (λ (b : Bool). cond b records (length_of dims id)) (kind_is id false there is)) (all_fixed ids others)

  abbrev shape_of : List ℕ → List ℕ
  shape_of ids =
      cond (starts_with_record dims ids)
      (records ∷ map (length_of dims) (cond (starts_with_record dims ids) (drop 1 ids) ids))
      (map (length_of dims) (cond (starts_with_record dims ids) (drop 1 ids) ids))

  shape_is : (ids : List ℕ) → LegalDims dims ids → map of ids ≡ shape_of ids
  shape_is [] legal = refl
  shape_is (id ∷ ids) legal = first_and_others (is_record dims id) id ids legal.0 refl legal.1

  by_rows : (rows : List DimRow) → map (λ r. r.length) rows ≡ lengths dims → (ids : List ℕ) → shape_by rows records ids ≡ map of ids
  by_rows rows same ids = ap (λ (l : List ℕ). map (λ id. cond (get_or l id 0 == 0) records (get_or l id 0)) ids) same

  shapes : (rows : List DimRow) → map (λ r. r.length) rows ≡ lengths dims → (v : Version) (n : ℕ) (vars : List Var) (places : List Place) → length places ≡ length vars
      → AllByRecursion (LegalVar v dims) vars → ShapesBy rows records vars (placed_from dims records n vars places)
  shapes rows same v n [] places e legal = tt
  shapes rows same v n (x ∷ vars) [] e legal = absurd (omega (arith, e))
  shapes rows same v n (x ∷ vars) (p ∷ places) e legal = (
    by_rows rows same x.dims ∙ shape_is x.dims legal.0.dimids,
    shapes rows same v (suc n) vars places (omega (arith, e)) legal.1,
  )

pub found_shapes : (front : List ℕ) (file limit : ℕ) (h : Header) (p : Placed) → FindsOf front file limit h p → ShapesBy (all_dim_rows h.schema) (records_of_file p) h.schema.vars (vars_of p)
found_shapes front file limit h p finds =
    let s = h.schema in
    let places = places_of h.places in
    let legal = finds.begins.is_header.legal in
    let records : records_of_file p ≡ record_count s places file = finds.holds.records_are in
    let told = shapes s.dims (record_count s places file) (all_dim_rows s) (lengths_are s.version (head_size s.version + list_size s.version) s.dims) s.version 0 s.vars places legal.number legal.sound.vars in
    subst (λ (n : ℕ). ShapesBy (all_dim_rows s) n s.vars (vars_of p)) (sym records)
    (subst (λ (l : List PlacedVar). ShapesBy (all_dim_rows s) (record_count s places file) s.vars l) (sym finds.holds.vars_are) told)
