-- Of a front one answer at most is right.
use Rattle.std.proofs.Common.{◌≡◌, ℕ, ◌-◌, ◌≤◌, List, ◌++◌, length, replicate, Result, Ok, Err, refl, sym, ap, ◌∙◌, arith}
use Rattle.std.proofs.lemmas.List.{length-append, length-replicate}
use Rattle.ncc_schema.specs.declared.schema.Header.{Header}
use Rattle.ncc_schema.specs.Schema.{places_of}
use Rattle.ncc_header.specs.declared.fault.Fault.{Fault as HeaderFault}
use Rattle.ncc_header.specs.Answers.{Begins, Stops}
use Rattle.ncc_layout.specs.declared.placed_file.Placed.{Placed}
use Rattle.ncc_layout.specs.Extents.{record_count}
use Rattle.ncc_layout.specs.Elements.{placed_vars}
use Rattle.ncc_layout.specs.Sizes.{record_size_of}
use Rattle.ncc_check.specs.declared.fault.FileFault.{FileFault}
use Rattle.ncc_check.specs.declared.report.Report.{Report}
use Rattle.ncc_check.specs.Checks.{Checks}
use Rattle.ncc_check.specs.Faults.{Fails}
use Rattle.ncc_check.specs.Passes.{Passes}
use Rattle.ncc_front.specs.declared.judging.FrontRefusal.{FrontRefusal}
use Rattle.ncc_front.specs.declared.judging.FrontRefusal.TheVariants.{Fault, More, Memory}
use Rattle.ncc_front.specs.declared.judging.Judgement.{Judgement}
use Rattle.ncc_front.specs.Fronts.{IsFile, NeedsMore}
use Rattle.ncc_front.specs.Judging.{FailsFront, FindsOf, Judges, JudgesFront, IsSameFile, IsSameFinding, IsSame}

-- the laws of the crates below
pub record Laws : Type 0 where
  pub apart : (input : List ℕ) (limit : ℕ) (h : Header) (f : HeaderFault) → Begins input limit h → Stops input limit f → ⊥
  pub one_header : (input : List ℕ) (limit : ℕ) (h k : Header) → Begins input limit h → Begins input limit k → h ≡ k
  pub one_stop : (input : List ℕ) (limit : ℕ) (f g : HeaderFault) → Stops input limit f → Stops input limit g → f ≡ g
  pub no_fault : (bytes : List ℕ) (limit : ℕ) (f : FileFault) → Passes bytes limit → Fails bytes limit f → ⊥
  pub one_fault : (bytes : List ℕ) (limit : ℕ) (f g : FileFault) → Fails bytes limit f → Fails bytes limit g → f ≡ g
  pub one_report : (bytes : List ℕ) (limit : ℕ) (r q : Report) → Checks bytes limit (Ok r) → Checks bytes limit (Ok q) → r ≡ q

-- a file that the front begins: zeros follow
abbrev some_file : (front : List ℕ) (file : ℕ) → List ℕ
some_file front file = front ++ replicate (file - length front) 0

some_file_is : (front : List ℕ) (file : ℕ) → length front ≤ file → IsFile front file (some_file front file)
some_file_is front file le = record {
  rest = replicate (file - length front) 0;
  joined = refl;
  long = omega (arith, le, length-replicate {A = ℕ} (file - length front) 0);
}

pub same_finding : ((input : List ℕ) (limit : ℕ) (h k : Header) → Begins input limit h → Begins input limit k → h ≡ k)
    → (front : List ℕ) (file limit : ℕ) (h : Header) (p : Placed) (k : Header) (q : Placed) → FindsOf front file limit h p → FindsOf front file limit k q → IsSameFinding h p k q
same_finding one_header front file limit h p k q a b =
    let header : h ≡ k = one_header front limit h k a.begins b.begins in
    record {
      header = header;
      records = a.holds.records_are ∙ ap (λ (x : Header). record_count x.schema (places_of x.places) file) header ∙ sym b.holds.records_are;
      record_size = a.holds.size_is ∙ ap (λ (x : Header). record_size_of x.schema) header ∙ sym b.holds.size_is;
      vars = a.holds.vars_are ∙ ap (λ (x : Header). placed_vars x.schema (places_of x.places) file) header ∙ sym b.holds.vars_are;
    }

module _ (laws : Laws) (front : List ℕ) (file limit : ℕ) (le : length front ≤ file) where
  abbrev bytes : List ℕ
  bytes = some_file front file

  abbrev is_file : IsFile front file bytes
  is_file = some_file_is front file le

  long : length bytes ≡ file
  long = omega (arith, le, length-append front (replicate (file - length front) 0), length-replicate {A = ℕ} (file - length front) 0)

  -- the report of such a file
  abbrev report : Judgement → Report
  report j = record {
    version = j.header.schema.version;
    records = record_count j.header.schema (places_of j.header.places) (length bytes);
    variables = length j.header.schema.vars;
    notes = j.notes.items;
  }

  checks : (j : Judgement) → Judges front file limit j → Checks bytes limit (Ok (report j))
  checks j is = (
    j.header,
    is.finds.passes bytes is_file,
    record { version_is = refl; records_are = refl; variables_are = refl; notes_are = is.notes },
  )

  same_file : (j k : Judgement) → Judges front file limit j → Judges front file limit k → IsSameFile j k
  same_file j k a b =
      record {
        finding = same_finding laws.one_header front file limit j.header j.placed k.header k.placed a.finds b.finds;
        notes = ap (λ (r : Report). r.notes) (laws.one_report bytes limit (report j) (report k) (checks j a) (checks k b));
      }

  -- a file that passes has no fault, and its header is there
  passes_or_fails : (j : Judgement) (f : FileFault) → Judges front file limit j → FailsFront front file limit f → ⊥
  passes_or_fails j f a b = laws.no_fault bytes limit f (j.header, a.finds.passes bytes is_file) (b.each bytes is_file)

  passes_or_goes_on : (j : Judgement) (at : ℕ) → Judges front file limit j → NeedsMore front file limit at → ⊥
  passes_or_goes_on j at a b = laws.apart front limit j.header b.fault a.finds.begins b.stops

  one_place : (m n : ℕ) → NeedsMore front file limit m → NeedsMore front file limit n → m ≡ n
  one_place m n a b = sym a.there ∙ ap (λ (f : HeaderFault). f.offset) (laws.one_stop front limit a.fault b.fault a.stops b.stops) ∙ b.there

  pub one_judgement : (a b : Result Judgement FrontRefusal) → JudgesFront front file limit a → JudgesFront front file limit b → IsSame a b
  one_judgement (Ok j) (Ok k) p q = same_file j k p q
  one_judgement (Ok j) (Err (Fault f)) p q = absurd (passes_or_fails j f p q)
  one_judgement (Ok j) (Err (More at)) p q = absurd (passes_or_goes_on j at p q)
  one_judgement (Ok j) (Err Memory) p q = tt
  one_judgement (Err (Fault f)) (Ok k) p q = absurd (passes_or_fails k f q p)
  one_judgement (Err (Fault f)) (Err (Fault g)) p q = ap Fault (laws.one_fault bytes limit f g (p.each bytes is_file) (q.each bytes is_file))
  one_judgement (Err (Fault f)) (Err (More at)) p q = absurd (p.settled at q)
  one_judgement (Err (Fault f)) (Err Memory) p q = tt
  one_judgement (Err (More at)) (Ok k) p q = absurd (passes_or_goes_on k at q p)
  one_judgement (Err (More at)) (Err (Fault g)) p q = absurd (q.settled at p)
  one_judgement (Err (More at)) (Err (More n)) p q = ap More (one_place at n p q)
  one_judgement (Err (More at)) (Err Memory) p q = tt
  one_judgement (Err Memory) b p q = tt
