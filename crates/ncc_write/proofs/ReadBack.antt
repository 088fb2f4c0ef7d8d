-- Hyperslabs of a file that was completed.
use Rattle.std.proofs.Common.{◌≡◌, ℕ, suc, ◌<◌, ◌≤◌, Bool, true, false, List, [], ◌∷◌, ◌++◌, length, Some, None, Ok, refl, sym, ap, ap₂, subst, ◌∙◌, arith}
use Rattle.std.specs.Prelude.{ltb, ◌↔◌, if◌then◌else◌}
use Rattle.std.specs.List.{AllByRecursion, flat_map}
use Rattle.std.proofs.lemmas.Bool.{ltb-true, lt-ltb}
use Rattle.ncc_values.specs.Values.{values_of}
use Rattle.ncc_schema.specs.declared.schema.Count.{Count}
use Rattle.ncc_schema.specs.declared.schema.Count.TheVariants.{Known, Streaming}
use Rattle.ncc_schema.specs.declared.schema.Dim.{Dim}
use Rattle.ncc_schema.specs.declared.schema.Var.{Var}
use Rattle.ncc_layout.specs.declared.extent.Extent.{Extent}
use Rattle.ncc_schema.specs.declared.schema.Header.{Header}
use Rattle.ncc_schema.specs.declared.schema.Schema.{Schema}
use Rattle.ncc_schema.specs.Schema.{Place, places_of}
use Rattle.ncc_header.specs.Answers.{Begins}
use Rattle.ncc_layout.specs.Elements.{Inside, placed_from, placed_vars, placed_with, var_at}
use Rattle.ncc_layout.specs.Extents.{number_of_records, extents_of, record_count}
use Rattle.ncc_layout.specs.Placed.{record_size_of_file, vars_of}
use Rattle.ncc_layout.specs.Plans.{IsKnown, known}
use Rattle.ncc_layout.specs.Sizes.{record_size_of}
use Rattle.ncc_layout.specs.Standard.{standard_places}
use Rattle.ncc_layout.specs.declared.placed_file.Placed.{Placed}
use Rattle.ncc_layout.specs.declared.placed_var.PlacedVar.{PlacedVar}
use Rattle.ncc_check.specs.Checks.{Checks, Opens}
use Rattle.ncc_check.specs.Faults.{Fails}
use Rattle.ncc_check.specs.Passes.{Passes}
use Rattle.ncc_check.specs.declared.fault.FileFault.{FileFault}
use Rattle.ncc_check.specs.declared.report.Report.{Report}
use Rattle.ncc_slab.specs.Laws.{SelectedIsInside, RefusedUnlessItFits}
use Rattle.ncc_slab.specs.Refusals.{shape_fault, slab_fault, FitsIn}
use Rattle.ncc_slab.specs.Selected.{Selected, element_bytes}
use Rattle.ncc_slab.specs.Selection.{indices_of}
use Rattle.ncc_slab.specs.declared.fault.SlabFault.TheVariants.{NoVariable}
use Rattle.ncc_slab.specs.declared.slab.Slab.{Slab}
use Rattle.ncc_build.specs.Dataset.{Dataset}
use Rattle.ncc_write.specs.Headline.{PassesAndReads, ReadsBack, written_values}
use Rattle.ncc_write.specs.Holds.{HoldsValues, vars_of as dataset_vars, value_at}
use Rattle.ncc_write.specs.Laws.{IsCompleted, PassesUnnoted}
use Rattle.ncc_write.specs.Writing.{dataset_of}

-- ---- refusals

by_number : (vars : List PlacedVar) (n : ℕ) (s : Slab) (b : Bool) → ltb n (length vars) ≡ b → (if b then shape_fault (var_at vars n).shape s else Some NoVariable) ≡ None → (n < length vars) × (shape_fault (var_at vars n).shape s ≡ None)
by_number vars n s true is none = (ltb-true n (length vars) is, none)
by_number vars n s false is none = absurd cc

pub not_refused : (vars : List PlacedVar) (n : ℕ) (s : Slab) → slab_fault vars n s ≡ None → (n < length vars) × (shape_fault (var_at vars n).shape s ≡ None)
not_refused vars n s none = by_number vars n s (ltb n (length vars)) refl none

there_unless : (vars : List PlacedVar) (n : ℕ) (s : Slab) → n < length vars → slab_fault vars n s ≡ shape_fault (var_at vars n).shape s
there_unless vars n s less = ap (λ (b : Bool). if b then shape_fault (var_at vars n).shape s else Some NoVariable) (lt-ltb n (length vars) less)

pub refused_unless : RefusedUnlessItFits → (vars : List PlacedVar) (n : ℕ) (s : Slab) → (slab_fault vars n s ≡ None) ↔ ((n < length vars) × FitsIn (var_at vars n).shape s)
refused_unless fits vars n s = (
  λ none. let parts = not_refused vars n s none in (parts.0, (fits (var_at vars n).shape s).0 parts.1),
  λ both. there_unless vars n s both.0 ∙ (fits (var_at vars n).shape s).1 both.1,
)

-- ---- the values at the indices of a hyperslab

same_elements : (f g : List ℕ → List ℕ) (P : List ℕ → Type 0) → ((i : List ℕ) → P i → f i ≡ g i) → (indices : List (List ℕ)) → AllByRecursion P indices → flat_map f indices ≡ flat_map g indices
same_elements f g P same [] all = refl
same_elements f g P same (i ∷ indices) all = ap₂ (λ (a b : List ℕ). a ++ b) (same i all.0) (same_elements f g P same indices all.1)

reads_back : SelectedIsInside → (d : Dataset) (file : List ℕ) (places : List Place) (p : Placed) → HoldsValues file places d → length (dataset_vars d places) ≤ length d.schema.vars
    → vars_of p ≡ dataset_vars d places → record_size_of_file p ≡ record_size_of d.schema → ReadsBack d file p
reads_back inside d file places p holds few vars size n s values none selected =
    let xs = dataset_vars d places in
    let none_there : slab_fault xs n s ≡ None = subst (λ (l : List PlacedVar). slab_fault l n s ≡ None) vars none in
    let parts = not_refused xs n s none_there in
    let x = var_at xs n in
    let same : flat_map (element_bytes file (record_size_of d.schema) x) (indices_of s) ≡ flat_map (value_at d x n) (indices_of s) =
    same_elements (element_bytes file (record_size_of d.schema) x) (value_at d x n) (Inside x.shape)
    (λ index there. holds n index (omega (arith, parts.0, few)) there) (indices_of s) (inside x.shape s parts.1) in
    subst (λ (l : List PlacedVar). values ≡ written_values d (var_at l n) n s) (sym vars)
    (subst (λ (l : List PlacedVar). Selected file (record_size_of_file p) (var_at l n) s values) vars selected
    ∙ ap (λ (r : ℕ). values_of x.xtype (flat_map (element_bytes file r x) (indices_of s))) size
    ∙ ap (values_of x.xtype) same)

-- ---- variables at their places

no_more : (dims : List Dim) (records number : ℕ) (vars : List Var) (places : List Place) → length (placed_from dims records number vars places) ≤ length vars
no_more dims records number [] places = omega arith
no_more dims records number (x ∷ vars) [] = omega arith
no_more dims records number (x ∷ vars) (p ∷ places) = omega (arith, no_more dims records (suc number) vars places)

count_is : (record_size length : ℕ) (es : List Extent) (c : Count) → IsKnown c → number_of_records record_size length es c ≡ known c
count_is record_size length es (Known n) h = refl
count_is record_size length es Streaming h = absurd h

-- ---- a completed file

pub record Laws : Type 0 where
  pub one_header : (bytes : List ℕ) (limit : ℕ) (h k : Header) → Begins bytes limit h → Begins bytes limit k → h ≡ k
  pub no_fault : (bytes : List ℕ) (limit : ℕ) (f : FileFault) → Passes bytes limit → Fails bytes limit f → ⊥
  pub one_report : (bytes : List ℕ) (limit : ℕ) (r q : Report) → Checks bytes limit (Ok r) → Checks bytes limit (Ok q) → r ≡ q
  pub inside : SelectedIsInside

module _ (laws : Laws) (s : Schema) (taken file : List ℕ) (limit : ℕ) (done : IsCompleted s taken file) (passes : PassesUnnoted file limit s) where
  abbrev h : Header
  h = passes.passes_as.header

  -- the report without a note
  abbrev report : Report
  report = record { version = h.schema.version; records = record_count h.schema (places_of h.places) (length file); variables = length h.schema.vars; notes = [] }

  right : Checks file limit (Ok report)
  right = (h, passes.passes_as.passes, record { version_is = refl; records_are = refl; variables_are = refl; notes_are = passes.unnoted })

  module _ (t : Schema) (p : Placed) (opened : Opens file limit t p) where
    same : opened.header ≡ h
    same = laws.one_header file limit opened.header h opened.passes.begins passes.passes_as.passes.begins

    schema_is : t ≡ s
    schema_is = opened.schema_is ∙ ap (λ (k : Header). k.schema) same ∙ passes.passes_as.schema_is

    size_is : record_size_of_file p ≡ record_size_of s
    size_is = opened.placed_is.size_is ∙ ap (λ (k : Header). record_size_of k.schema) same ∙ ap record_size_of passes.passes_as.schema_is

    vars_are : vars_of p ≡ placed_vars s (standard_places s) (length file)
    vars_are =
        opened.placed_is.vars_are
        ∙ ap (λ (k : Header). placed_vars k.schema (places_of k.places) (length file)) same
        ∙ ap₂ (λ (u : Schema) (q : List Place). placed_vars u q (length file)) passes.passes_as.schema_is passes.passes_as.places_are

    with_known : placed_vars s (standard_places s) (length file) ≡ dataset_vars (dataset_of s taken) (standard_places s)
    with_known = ap (placed_with s (standard_places s)) (count_is (record_size_of s) (length file) (extents_of s (standard_places s)) s.count done.dataset.counted)

    back : ReadsBack (dataset_of s taken) file p
    back =
        reads_back laws.inside (dataset_of s taken) file (standard_places s) p done.holds
        (no_more s.dims (known s.count) 0 s.vars (standard_places s)) (vars_are ∙ with_known) size_is

  pub passes_and_reads : PassesAndReads (dataset_of s taken) s file limit
  passes_and_reads = record {
    passes = passes;
    unnoted = λ r checked.
        let same : r ≡ report = laws.one_report file limit r report checked right in
        record {
          version = ap (λ (q : Report). q.version) same ∙ ap (λ (u : Schema). u.version) passes.passes_as.schema_is;
          records = ap (λ (q : Report). q.records) same ∙ ap₂ (λ (u : Schema) (q : List Place). record_count u q (length file)) passes.passes_as.schema_is passes.passes_as.places_are
              ∙ count_is (record_size_of s) (length file) (extents_of s (standard_places s)) s.count done.dataset.counted;
          variables = ap (λ (q : Report). q.variables) same ∙ ap (λ (u : Schema). length u.vars) passes.passes_as.schema_is;
          notes = ap (λ (q : Report). q.notes) same;
        };
    no_fault = λ f fails. laws.no_fault file limit f (h, passes.passes_as.passes) fails;
    schema = λ t p opened. schema_is t p opened;
    reads = λ t p opened. back t p opened;
  }
