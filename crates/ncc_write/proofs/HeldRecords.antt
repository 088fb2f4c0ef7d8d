-- A record more in a file that holds a dataset.
use Rattle.std.proofs.Common.{◌≡◌, ℕ, ◌+◌, ◌*◌, ◌≤◌, ◌<◌, List, [], ◌∷◌, ◌++◌, length, map, take, drop, Some, refl, sym, ap, ap₂, subst, ◌∙◌, arith}
use Rattle.std.proofs.lemmas.List.{length-take-le, take-append-drop}
use Rattle.ncc_values.specs.XType.{size_of}
use Rattle.ncc_values.specs.declared.values.Values.{Values}
use Rattle.ncc_schema.specs.declared.schema.Dim.{Dim}
use Rattle.ncc_schema.specs.declared.schema.Header.{Header}
use Rattle.ncc_schema.specs.declared.schema.Schema.{Schema}
use Rattle.ncc_schema.specs.declared.schema.Var.{Var}
use Rattle.ncc_schema.specs.Names.{StandsAt}
use Rattle.ncc_schema.specs.Schema.{Place, header_with_count, places_of, with_count}
use Rattle.ncc_layout.specs.declared.extent.Extent.{Extent}
use Rattle.ncc_layout.specs.declared.placed_file.Placed.{Placed}
use Rattle.ncc_layout.specs.declared.placed_var.PlacedVar.{PlacedVar}
use Rattle.ncc_layout.specs.Elements.{Inside, IsPlace, place_of, var_at}
use Rattle.ncc_layout.specs.Extents.{extents_of, records_of}
use Rattle.ncc_layout.specs.Packed.{records_at}
use Rattle.ncc_layout.specs.Placed.{extents_of_file, record_size_of_file, records_of_file, vars_of}
use Rattle.ncc_layout.specs.Plans.{known}
use Rattle.ncc_layout.specs.Sizes.{record_size_of}
use Rattle.ncc_layout.specs.Standard.{PackedFrom}
use Rattle.ncc_check.specs.AppendLaws.{PassesOn}
use Rattle.ncc_check.specs.Appending.{length_with_record, next_record_at, with_record}
use Rattle.ncc_build.specs.Dataset.{AreSlabsOf, Dataset, elements}
use Rattle.ncc_build.specs.Fill.{fills}
use Rattle.ncc_write.specs.Additions.{Adds, HoldsOn}
use Rattle.ncc_write.specs.Holds.{stored_at, vars_of as vars_of_dataset}
use Rattle.ncc_write.specs.Records.{bytes_of_record, fill_slab, followed_by}
use Rattle.ncc_write.proofs.Filling.{fills_bytes}
use Rattle.ncc_write.proofs.GrownFiles.{grown_holds}
use Rattle.ncc_write.proofs.OpenedDatasets.{OneHeader, as_many, header_places, header_schema, many_places, opened_records, opened_schema, opened_size, opened_vars}
use Rattle.ncc_write.proofs.PackedRecords.{map_extents}
use Rattle.ncc_write.proofs.Paddings.{length_fills}
use Rattle.ncc_write.proofs.SlabPlaces.{record_size_is}
use Rattle.ncc_write.proofs.Taking.{slab_taken}

-- fill values are a slab for each variable
pub fills_for : (dims : List Dim) (vars : List Var) → AreSlabsOf dims vars (map (fill_slab dims) vars)
fills_for dims [] = tt
fills_for dims (x ∷ vars) = (
  slab_taken dims x (fills (elements dims x) x) (fills_bytes (elements dims x) x) (length_fills (elements dims x) x),
  fills_for dims vars,
)

-- ---- the open file, in the dataset's terms

module _ (one : OneHeader) (bytes : List ℕ) (limit : ℕ) (places : List Place) (d : Dataset) (s : Schema) (p : Placed)
    (slabs : List Values) (a : Adds bytes limit places d s p slabs) where
  abbrev h : Header
  h = a.opens.header

  schema_is : h.schema ≡ d.schema
  schema_is = header_schema one bytes limit places d s p a.all a.opens

  same_schema : s ≡ d.schema
  same_schema = opened_schema one bytes limit places d s p a.all a.opens

  places_are : places_of h.places ≡ places
  places_are = header_places one bytes limit places d s p a.all a.opens

  many : length places ≡ length d.schema.vars
  many = many_places one bytes limit places d s p a.all a.opens

  size_is : record_size_of_file p ≡ record_size_of d.schema
  size_is = opened_size one bytes limit places d s p a.all a.opens

  records_are : records_of_file p ≡ known d.schema.count
  records_are = opened_records one bytes limit places d s p a.all a.opens a.dataset.counted

  vars_are : vars_of p ≡ vars_of_dataset d places
  vars_are = opened_vars one bytes limit places d s p a.all a.opens a.dataset.counted

  extents_are : extents_of_file p ≡ extents_of d.schema places
  extents_are = ap (map (λ x. x.extent)) vars_are
      ∙ map_extents d.schema.dims (known d.schema.count) 0 d.schema.vars places

  packed : PackedFrom (records_at p) (records_of (extents_of d.schema places))
  packed = subst (λ (es : List Extent). PackedFrom (records_at p) (records_of es)) extents_are a.takes.packed.in_turn

  pub image_long : length (bytes_of_record s slabs) ≡ record_size_of_file p
  image_long = ap (λ (t : Schema). length (bytes_of_record t slabs)) same_schema
      ∙ record_size_is d.schema slabs a.fits ∙ sym size_is

  -- ---- old elements

  abbrev Elements : (image new : List ℕ) → Type 0
  Elements image new = (n place : ℕ) (index : List ℕ) → IsPlace (record_size_of_file p) (vars_of p) n index (Some place)
      → take (size_of (var_at (vars_of p) n).xtype) (drop place new)
      ≡ take (size_of (var_at (vars_of p) n).xtype) (drop place bytes)

  same : (image new : List ℕ) → Elements image new → (n : ℕ) (index : List ℕ) → n < length d.schema.vars
      → Inside (var_at (vars_of_dataset d places) n).shape index
      → stored_at new (record_size_of d.schema) (var_at (vars_of_dataset d places) n) index
      ≡ stored_at bytes (record_size_of d.schema) (var_at (vars_of_dataset d places) n) index
  same image new elements n index below inside =
      subst (λ (vars : List PlacedVar). stored_at new (record_size_of d.schema) (var_at vars n) index
      ≡ stored_at bytes (record_size_of d.schema) (var_at vars n) index) vars_are
      (subst (λ (size : ℕ). stored_at new size (var_at (vars_of p) n) index
      ≡ stored_at bytes size (var_at (vars_of p) n) index) size_is
      (elements n (place_of (record_size_of_file p) (var_at (vars_of p) n) index) index (
        omega (
          arith,
          below,
          ap length vars_are,
          as_many d.schema.dims (known d.schema.count) 0 d.schema.vars places many,
        ),
        subst (λ (vars : List PlacedVar). Inside (var_at vars n).shape index) (sym vars_are) inside,
        refl,
      )))

  -- ---- the old records stand

  pub stood : (new : List ℕ) → PassesOn new limit h → Elements (bytes_of_record s slabs) new
      → HoldsOn new limit places d
  stood new passes elements = record {
    all = record {
      header = h;
      passes = passes.passes;
      schema_is = schema_is;
      places_are = places_are;
      holds = λ n index below inside. same (bytes_of_record s slabs) new elements n index below inside
          ∙ a.all.holds n index below inside;
    };
    again = passes.again;
  }

  -- ---- the new record stands too

  module _ (long : length (with_record bytes s p (bytes_of_record s slabs)) ≡ length_with_record p)
      (added : take (length (bytes_of_record s slabs))
      (drop (next_record_at p) (with_record bytes s p (bytes_of_record s slabs))) ≡ bytes_of_record s slabs) where
    abbrev image : List ℕ
    image = bytes_of_record s slabs

    abbrev new : List ℕ
    new = with_record bytes s p image

    place_is : next_record_at p ≡ records_at p + known d.schema.count * record_size_of d.schema
    place_is = ap₂ (λ (n size : ℕ). records_at p + n * size) records_are size_is

    in_file : next_record_at p ≤ length new
    in_file =
        let size = record_size_of_file p in
        let more : (records_of_file p + 1) * size ≡ records_of_file p * size + size = omega arith in
        omega (arith, long, more)

    stands : StandsAt new image (next_record_at p)
    stands = record {
      front = take (next_record_at p) new;
      rest = drop (length image) (drop (next_record_at p) new);
      joined = sym (take-append-drop (next_record_at p) new)
          ∙ ap (λ (l : List ℕ). take (next_record_at p) new ++ l)
          (sym (take-append-drop (length image) (drop (next_record_at p) new))
          ∙ ap (λ (l : List ℕ). l ++ drop (length image) (drop (next_record_at p) new)) added);
      long = length-take-le (next_record_at p) new in_file;
    }

    pub grown : PassesOn new limit (header_with_count h (records_of_file p + 1)) → Elements image new
        → HoldsOn new limit places (followed_by d (slabs ∷ []))
    grown passes elements = record {
      all = record {
        header = header_with_count h (records_of_file p + 1);
        passes = passes.passes;
        schema_is = ap₂ (λ (t : Schema) (n : ℕ). with_count t (n + 1)) schema_is records_are;
        places_are = places_are;
        holds = grown_holds d a.dataset places many bytes new (records_at p) slabs a.fits packed a.all.holds (record {
          same = same image new elements;
          added = subst (λ (i : List ℕ). StandsAt new i (records_at p + known d.schema.count * record_size_of d.schema))
              (ap (λ (t : Schema). bytes_of_record t slabs) same_schema)
              (subst (StandsAt new image) place_is stands);
        });
      };
      again = passes.again;
    }
