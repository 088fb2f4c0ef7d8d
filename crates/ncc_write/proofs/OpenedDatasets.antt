-- An open file whose bytes hold a dataset, in the dataset's terms.
use Rattle.std.proofs.Common.{◌≡◌, ℕ, suc, List, [], ◌∷◌, length, refl, sym, ap, ap₂, ◌∙◌, arith}
use Rattle.ncc_schema.specs.declared.schema.Dim.{Dim}
use Rattle.ncc_schema.specs.declared.schema.Header.{Header}
use Rattle.ncc_schema.specs.declared.schema.Schema.{Schema}
use Rattle.ncc_schema.specs.declared.schema.Var.{Var}
use Rattle.ncc_schema.specs.Schema.{Place, places_of}
use Rattle.ncc_header.specs.Answers.{Begins}
use Rattle.ncc_layout.specs.declared.placed_file.Placed.{Placed}
use Rattle.ncc_layout.specs.Elements.{placed_from, placed_with}
use Rattle.ncc_layout.specs.Extents.{extents_of, record_count}
use Rattle.ncc_layout.specs.Placed.{record_size_of_file, records_of_file, vars_of}
use Rattle.ncc_layout.specs.Plans.{IsKnown, known}
use Rattle.ncc_layout.specs.Sizes.{record_size_of}
use Rattle.ncc_check.specs.Checks.{Opens}
use Rattle.ncc_build.specs.Dataset.{Dataset}
use Rattle.ncc_write.specs.Additions.{HoldsAll}
use Rattle.ncc_write.specs.Holds.{vars_of as vars_of_dataset}
use Rattle.ncc_write.proofs.FoundDatasets.{count_is}

abbrev pub OneHeader : Type 0
OneHeader = (input : List ℕ) (limit : ℕ) (h k : Header) → Begins input limit h → Begins input limit k → h ≡ k

pub as_many : (dims : List Dim) (records n : ℕ) (vars : List Var) (places : List Place) → length places ≡ length vars
    → length (placed_from dims records n vars places) ≡ length vars
as_many dims records n [] places same = refl
as_many dims records n (x ∷ vars) [] same = absurd (cc same)
as_many dims records n (x ∷ vars) (p ∷ places) same =
    ap suc (as_many dims records (suc n) vars places (omega (arith, same)))

module _ (one : OneHeader) (bytes : List ℕ) (limit : ℕ) (places : List Place) (d : Dataset) (s : Schema) (p : Placed)
    (all : HoldsAll bytes limit places d) (opens : Opens bytes limit s p) where
  abbrev h : Header
  h = opens.header

  header_is : h ≡ all.header
  header_is = one bytes limit h all.header opens.passes.begins all.passes.begins

  pub header_schema : h.schema ≡ d.schema
  header_schema = ap (λ (k : Header). k.schema) header_is ∙ all.schema_is

  pub opened_schema : s ≡ d.schema
  opened_schema = opens.schema_is ∙ header_schema

  pub header_places : places_of h.places ≡ places
  header_places = ap (λ (k : Header). places_of k.places) header_is ∙ all.places_are

  pub many_places : length places ≡ length d.schema.vars
  many_places = ap length (sym header_places) ∙ opens.passes.begins.is_header.legal.number
      ∙ ap (λ (t : Schema). length t.vars) header_schema

  pub opened_size : record_size_of_file p ≡ record_size_of d.schema
  opened_size = opens.placed_is.size_is ∙ ap record_size_of header_schema

  module _ (counted : IsKnown d.schema.count) where
    count_same : record_count h.schema (places_of h.places) (length bytes) ≡ known d.schema.count
    count_same = ap₂ (λ (t : Schema) (l : List Place). record_count t l (length bytes)) header_schema header_places
        ∙ count_is (record_size_of d.schema) (length bytes) (extents_of d.schema places) d.schema.count counted

    pub opened_records : records_of_file p ≡ known d.schema.count
    opened_records = opens.placed_is.records_are ∙ count_same

    pub opened_vars : vars_of p ≡ vars_of_dataset d places
    opened_vars = opens.placed_is.vars_are ∙ ap (placed_with h.schema (places_of h.places)) count_same
        ∙ ap₂ (λ (t : Schema) (l : List Place). placed_with t l (known d.schema.count)) header_schema header_places
