-- What is found in the canonical header of a schema that can be written.
use Rattle.std.proofs.Common.{◌≡◌, ℕ, ◌-◌, ◌≤◌, List, [], ◌++◌, length, replicate, refl, sym, ap, subst, ◌∙◌, arith, append-nil}
use Rattle.std.proofs.lemmas.List.{length-append, length-replicate}
use Rattle.ncc_schema.specs.declared.schema.Count.TheVariants.{Known}
use Rattle.ncc_schema.specs.declared.schema.Header.{Header}
use Rattle.ncc_schema.specs.declared.schema.Schema.{Schema}
use Rattle.ncc_schema.specs.Header.{IsHeader, canon}
use Rattle.ncc_schema.specs.Names.{header_length}
use Rattle.ncc_schema.specs.Schema.{IsTyped, Legal, Place, places_of}
use Rattle.ncc_header.specs.Answers.{Begins}
use Rattle.ncc_layout.specs.Rules.{IsPlaced}
use Rattle.ncc_layout.specs.Standard.{FitsVersion, file_length, standard_places}
use Rattle.ncc_layout.specs.declared.placed_file.Placed.{Placed}
use Rattle.ncc_check.specs.declared.fault.FileFault.{FileFault}
use Rattle.ncc_check.specs.Faults.{Fails}
use Rattle.ncc_check.specs.Passes.{Passes}
use Rattle.ncc_build.specs.File.{header_of}
use Rattle.ncc_front.specs.Fronts.{IsFile, NeedsMore}
use Rattle.ncc_front.specs.Judging.{FailsFront, FindsOf}
use Rattle.ncc_plan.specs.declared.planning.Plan.{Plan}
use Rattle.ncc_plan.specs.Plans.{IsPlanOf}

begins_more : (text : List ℕ) (limit : ℕ) (h : Header) → Begins text limit h → Begins (text ++ []) limit h
begins_more text limit h b = subst (λ (l : List ℕ). Begins l limit h) (sym (append-nil text)) b

pub record Laws : Type 0 where
  pub canonical : (s : Schema) (places : List Place) → Legal s places → IsTyped s → IsHeader s places (canon s places)
  pub one_length : (s : Schema) (places : List Place) → length places ≡ length s.vars → length (canon s places) ≡ header_length s
  pub begun : (s : Schema) (places : List Place) (front rest : List ℕ) (limit : ℕ) → IsHeader s places front
      → length front ≤ limit
      → (h : Header) × Begins (front ++ rest) limit h × (h.schema ≡ s) × (places_of h.places ≡ places)
  pub one : (s t : Schema) (p q : List Place) (b c x y : List ℕ) → IsHeader s p b → IsHeader t q c → b ++ x ≡ c ++ y
      → (b ≡ c) × (s ≡ t) × (p ≡ q)
  pub placed : (s : Schema) (n : ℕ) → s.count ≡ Known n → FitsVersion s n
      → IsPlaced s (standard_places s) (header_length s) (file_length s n)
  pub no_fault : (bytes : List ℕ) (limit : ℕ) (f : FileFault) → Passes bytes limit → Fails bytes limit f → ⊥

module _ (laws : Laws) (s : Schema) (n : ℕ) (counted : s.count ≡ Known n) (typed : IsTyped s)
    (legal : Legal s (standard_places s)) (fits : FitsVersion s n) where
  abbrev text : List ℕ
  text = header_of s

  pub is_header : IsHeader s (standard_places s) text
  is_header = laws.canonical s (standard_places s) legal typed

  pub long : length text ≡ header_length s
  long = laws.one_length s (standard_places s) legal.number

  pub in_file : length text ≤ file_length s n
  in_file = omega (arith, long)

  -- the header that is found is that of the schema
  pub same_header : (rest : List ℕ) (limit : ℕ) (h : Header) → Begins (text ++ rest) limit h
      → (h.schema ≡ s) × (places_of h.places ≡ standard_places s)
  same_header rest limit h b =
      let same = laws.one h.schema s (places_of h.places) (standard_places s) b.front text b.rest rest b.is_header is_header (sym b.joined) in
      (same.1, same.2)

  -- zeros after the header
  abbrev zeros : List ℕ
  zeros = replicate (file_length s n - length text) 0

  abbrev some_file : List ℕ
  some_file = text ++ zeros

  some_long : length some_file ≡ file_length s n
  some_long = omega (arith, in_file, length-append text zeros, length-replicate {A = ℕ} (file_length s n - length text) 0)

  is_file : IsFile text (file_length s n) some_file
  is_file = record { rest = zeros; joined = refl; long = omega (arith, in_file, length-replicate {A = ℕ} (file_length s n - length text) 0) }

  abbrev begun : (h : Header) × Begins some_file (length text) h × (h.schema ≡ s) × (places_of h.places ≡ standard_places s)
  begun = laws.begun s (standard_places s) text zeros (length text) is_header (omega (arith))

  h_long : header_length s ≡ begun.0.length
  h_long =
      let b = begun.1 in
      let same = laws.one begun.0.schema s (places_of begun.0.places) (standard_places s) b.front text b.rest zeros b.is_header is_header (sym b.joined) in
      sym (b.long ∙ ap (λ (l : List ℕ). length l) same.0 ∙ long)

  passes : Passes some_file (length text)
  passes =
      let h = begun.0 in
      let of_file = subst (IsPlaced s (standard_places s) (header_length s)) (sym some_long) (laws.placed s n counted fits) in
      let sized = subst (λ (k : ℕ). IsPlaced s (standard_places s) k (length some_file)) h_long of_file in
      let moved = subst (λ (t : Schema). IsPlaced t (standard_places s) h.length (length some_file)) (sym begun.2) sized in
      (h, record { begins = begun.1; placed = subst (λ (q : List Place). IsPlaced h.schema q h.length (length some_file)) (sym begun.3) moved })

  -- no fault is found, and no more is needed
  pub not_fault : (f : FileFault) → FailsFront text (file_length s n) (length text) f → ⊥
  not_fault f is = laws.no_fault some_file (length text) f passes (is.each some_file is_file)

  pub not_more : (at : ℕ) → NeedsMore text (file_length s n) (length text) at → ⊥
  not_more at is = omega (arith, is.in_limit)

-- a greater limit changes nothing
wider : (input : List ℕ) (limit more : ℕ) (h : Header) → limit ≤ more → Begins input limit h → Begins input more h
wider input limit more h le b = record {
  front = b.front;
  rest = b.rest;
  joined = b.joined;
  is_header = b.is_header;
  begins = b.begins;
  marks = b.marks;
  long = b.long;
  within = omega (arith, le, b.within);
}

found_by : (front : List ℕ) (file limit more : ℕ) (h : Header) (p : Placed) → limit ≤ more → FindsOf front file limit h p → FindsOf front file more h p
found_by front file limit more h p le f = record {
  begins = wider front limit more h le f.begins;
  placed = f.placed;
  passes = λ bytes is. record { begins = wider bytes limit more h le (f.passes bytes is).begins; placed = (f.passes bytes is).placed };
  holds = f.holds;
}

-- the plan of a schema, by what is found in its header's bytes
pub plan_is : (laws : Laws) (s : Schema) (n : ℕ) (counted : s.count ≡ Known n) (typed : IsTyped s) (legal : Legal s (standard_places s)) (fits : FitsVersion s n)
    (plan : Plan) (h : Header) → plan.header.items ≡ header_of s → plan.file_length ≡ file_length s n
    → FindsOf plan.header.items plan.file_length (length plan.header.items) h plan.placed → IsPlanOf s n plan
plan_is laws s n counted typed legal fits plan h text_is long finds =
    let moved : FindsOf (header_of s) plan.file_length (length (header_of s)) h plan.placed = subst (λ (l : List ℕ). FindsOf l plan.file_length (length l) h plan.placed) text_is finds in
    let same = same_header laws s n counted typed legal fits [] (length (header_of s)) h (begins_more (header_of s) (length (header_of s)) h moved.begins) in
    record {
      header_is = text_is;
      length_is = long;
      found = h;
      schema_is = same.0;
      places_are = same.1;
      finds = λ limit le. found_by (header_of s) plan.file_length (length (header_of s)) limit h plan.placed le moved;
    }
