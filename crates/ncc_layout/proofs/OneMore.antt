-- A placed file with one record more.
use Rattle.std.proofs.Common.{◌≡◌, ℕ, suc, ◌+◌, Bool, true, false, List, [], ◌∷◌, map, refl, sym, ap, subst, ◌∙◌}
use Rattle.std.specs.Prelude.{if◌then◌else◌}
use Rattle.ncc_schema.specs.declared.schema.Count.TheVariants.{Known}
use Rattle.ncc_schema.specs.declared.schema.Dim.{Dim}
use Rattle.ncc_schema.specs.declared.schema.Var.{Var}
use Rattle.ncc_schema.specs.declared.schema.Schema.{Schema}
use Rattle.ncc_schema.specs.Schema.{Place, is_record_var, with_count}
use Rattle.ncc_layout.specs.declared.placed_var.PlacedVar.{PlacedVar}
use Rattle.ncc_layout.specs.declared.placed_file.Placed.{Placed}
use Rattle.ncc_layout.specs.Sizes.{inner, record_size_of}
use Rattle.ncc_layout.specs.Extents.{extent_of, extents_of, number_of_records, record_count}
use Rattle.ncc_layout.specs.Rules.{Rules, IsPlaced}
use Rattle.ncc_layout.specs.Elements.{placed_var, placed_from, lengthened, with_records}
use Rattle.ncc_layout.specs.Placed.{Holds, HasOneMore}
use Rattle.ncc_layout.proofs.Laying.{extents_same}

lengthened_by : (b : Bool) (n m : ℕ) (ls : List ℕ) → lengthened m b (if b then n ∷ ls else ls) ≡ (if b then m ∷ ls else ls)
lengthened_by true n m ls = refl
lengthened_by false n m ls = refl

abbrev shaped_as : (dims : List Dim) (k : ℕ) (x : Var) (p : Place) → List ℕ → PlacedVar
shaped_as dims k x p ls = record { xtype = x.xtype; shape = ls; extent = extent_of dims k x p }

with_more : (dims : List Dim) (n m k : ℕ) (vars : List Var) (places : List Place) → map (with_records m) (placed_from dims n k vars places) ≡ placed_from dims m k vars places
with_more dims n m k [] places = refl
with_more dims n m k (x ∷ vars) [] = refl
with_more dims n m k (x ∷ vars) (p ∷ places) =
    ap (λ (ls : List ℕ). shaped_as dims k x p ls ∷ map (with_records m) (placed_from dims n (suc k) vars places)) (lengthened_by (is_record_var dims x) n m (inner dims x))
    ∙ ap (λ (l : List PlacedVar). placed_var dims m k x p ∷ l) (with_more dims n m (suc k) vars places)

module _ (s : Schema) (places : List Place) (header file more n : ℕ) (p : Placed) (known : s.count ≡ Known n) (holds : Holds s places header file p) where
  records : p.records ≡ n
  records = holds.records_are ∙ ap (number_of_records (record_size_of s) file (extents_of s places)) known

  extents : map (λ x. x.extent) p.vars.items ≡ extents_of s places
  extents = ap (map (λ (x : PlacedVar). x.extent)) holds.vars_are ∙ extents_same s.dims (record_count s places file) 0 s.vars places

  pub room : IsPlaced (with_count s (n + 1)) places header more → Rules p.header_length more p.record_size (p.records + 1) (map (λ x. x.extent) p.vars.items)
  room placed =
      subst (Rules p.header_length more p.record_size (p.records + 1)) (sym extents)
      (subst (λ (m : ℕ). Rules p.header_length more p.record_size (m + 1) (extents_of s places)) (sym records)
      (subst (λ (m : ℕ). Rules p.header_length more m (n + 1) (extents_of s places)) (sym holds.size_is)
      (subst (λ (m : ℕ). Rules m more (record_size_of s) (n + 1) (extents_of s places)) (sym holds.header_is) placed.rules)))

  pub one_more : (q : Placed) → HasOneMore p more q → Holds (with_count s (n + 1)) places header more q
  one_more q h = record {
    header_is = h.header_is ∙ holds.header_is;
    length_is = h.length_is;
    size_is = h.size_is ∙ holds.size_is;
    records_are = h.records_are ∙ ap (λ (m : ℕ). m + 1) records;
    vars_are =
        h.vars_are
        ∙ ap (λ (m : ℕ). map (with_records (m + 1)) p.vars.items) records
        ∙ ap (map (with_records (n + 1))) holds.vars_are
        ∙ with_more s.dims (record_count s places file) (n + 1) 0 s.vars places;
  }
