-- What `csv` sent is the text of the selection of its bytes, or a front of it.
use Rattle.std.proofs.Common.{◌≡◌, ℕ, ◌<◌, Bool, true, false, Option, Some, None, Result, Ok, Err, List, ◌++◌, length, refl, sym, ap, subst, ◌∙◌, ◌⊎◌, inl, inr, arith}
use Rattle.std.specs.Prelude.{is_none}
use Rattle.ncc_schema.specs.declared.schema.Header.{Header}
use Rattle.ncc_schema.specs.declared.schema.Schema.{Schema}
use Rattle.ncc_schema.specs.declared.schema.Var.{Var}
use Rattle.ncc_header.specs.Answers.{Begins}
use Rattle.ncc_schema.specs.Schema.{places_of}
use Rattle.ncc_layout.specs.Elements.{placed_vars}
use Rattle.ncc_layout.specs.Placed.{record_size_of_file, vars_of}
use Rattle.ncc_layout.specs.declared.placed_var.PlacedVar.{PlacedVar}
use Rattle.ncc_layout.specs.declared.placed_file.Placed.{Placed}
use Rattle.ncc_check.specs.declared.fault.FileFault.{FileFault}
use Rattle.ncc_check.specs.Checks.{Opens}
use Rattle.ncc_check.specs.Faults.{Fails}
use Rattle.ncc_check.specs.Passes.{Passes, PassesWith}
use Rattle.ncc_lines.specs.declared.send_error.SendError.{SendError}
use Rattle.ncc_lines.specs.declared.send_error.SendError.TheVariants as send_errors
use Rattle.ncc_lines.specs.Sends.{SendsAll}
use Rattle.ncc_lines.specs.declared.style.FloatStyle.{FloatStyle}
use Rattle.ncc_lines.specs.Verdicts.{file_fault_line}
use Rattle.ncc_slab.specs.declared.fault.SlabFault.{SlabFault}
use Rattle.ncc_csv.specs.Named.{IsFirstNamed}
use Rattle.ncc_csv.specs.Refusals.{refused_line}
use Rattle.ncc_csv.specs.Sheets.{SendsSheet, sheet_or_line}
use Rattle.ncc_csv.specs.declared.pick.Pick.{Pick}
use Rattle.ncc_answers.specs.declared.answer.Answer.{Answer}
use Rattle.ncc_answers.specs.declared.answer.Answer.TheVariants.{Passed, Refused, Device, Memory}
use Rattle.ncc_answers.specs.Answers.{BeginsEach, Texts, Writes, answer_of}
use Rattle.ncc_engines.specs.Checking.{IsFaultOf}
use Rattle.ncc_engines.specs.Selecting.{Contents, contents_in, contents_of, refusal, table, answer_to, sheet_answer, IsSelection, IsSelectionOf, IsCsvText}
use Rattle.ncc_answers.proofs.Sent.{Gone, OneText, sent}

-- ---- one text

pub one_number : (vars : List Var) (name : List ℕ) (m n : Option ℕ) → IsFirstNamed vars name m → IsFirstNamed vars name n → m ≡ n
one_number vars name None None a b = refl
one_number vars name None (Some n) a b = absurd (a n b.0 b.1)
one_number vars name (Some m) None a b = absurd (b m a.0 a.1)
one_number vars name (Some m) (Some n) a b =
    let not_below : n < m → ⊥ = λ less. a.2 n less b.1 in
    let not_above : m < n → ⊥ = λ less. b.2 m less a.1 in
    ap Some (omega (arith, not_below, not_above))

one_selection : (c : Contents) (name : List ℕ) (p : Pick) (style : FloatStyle) (texts : Bool) → OneText (IsSelection c name p style texts)
one_selection c name p style texts a b t u x y =
    x.text_is
    ∙ ap (λ (n : Option ℕ). sheet_or_line (refusal c p n) (table c p style texts n)) (one_number c.schema.vars name x.number y.number x.named y.named)
    ∙ sym y.text_is

one_answer : (c : Contents) (name : List ℕ) (p : Pick) (style : FloatStyle) (texts : Bool) (a b : Answer) (t u : List ℕ) → IsSelection c name p style texts a t → IsSelection c name p style texts b u → a ≡ b
one_answer c name p style texts a b t u x y =
    x.answer_is ∙ ap (λ (n : Option ℕ). answer_to (refusal c p n)) (one_number c.schema.vars name x.number y.number x.named y.named) ∙ sym y.answer_is

-- ---- a selection of an open file

pub sent_refusal : (c : Contents) (name : List ℕ) (p : Pick) (style : FloatStyle) (texts : Bool) (old new : Option (List ℕ)) (n : Option ℕ) (f : SlabFault) (answer : Answer) (result : Result (Unit {0}) SendError) → IsFirstNamed c.schema.vars name n
    → refusal c p n ≡ Some f → SendsAll old new (refused_line f) result → answer ≡ answer_of result Refused → Gone (IsSelection c name p style texts) old new answer
sent_refusal c name p style texts old new n f answer result named refused s e =
    let is : IsSelection c name p style texts Refused (refused_line f) = record {
      number = n;
      named = named;
      answer_is = sym (ap answer_to refused);
      text_is = sym (ap (λ (r : Option SlabFault). sheet_or_line r (table c p style texts n)) refused);
    } in
    subst (λ (x : Answer). Gone (IsSelection c name p style texts) old new x) (sym e)
    (sent (IsSelection c name p style texts) (one_selection c name p style texts) old new (refused_line f) Refused result is is s)

-- the answer that goes with the fault
answered : (fault : Option SlabFault) (b : Bool) → b ≡ is_none fault → sheet_answer (Ok b) ≡ answer_to fault
answered None b e = ap (λ (x : Bool). sheet_answer (Ok x)) e
answered (Some f) b e = ap (λ (x : Bool). sheet_answer (Ok x)) e

-- its text is written, where the answer is Passed or Refused
written : (IsText : Answer → List ℕ → Type 0) (fault : Option SlabFault) (text : List ℕ) → IsText (answer_to fault) text → Writes IsText (answer_to fault) text
written IsText None text is = is
written IsText (Some f) text is = is

sheet : (c : Contents) (name : List ℕ) (p : Pick) (style : FloatStyle) (texts : Bool) (old new : Option (List ℕ)) (n : Option ℕ) (result : Result Bool SendError) → IsFirstNamed c.schema.vars name n
    → SendsSheet (refusal c p n) old new (table c p style texts n) result → ((b : Bool) → result ≡ Ok b → b ≡ is_none (refusal c p n)) → Gone (IsSelection c name p style texts) old new (sheet_answer result)
sheet c name p style texts old new n (Ok b) named s is =
    let text = sheet_or_line (refusal c p n) (table c p style texts n) in
    let right : IsSelection c name p style texts (answer_to (refusal c p n)) text = record { number = n; named = named; answer_is = refl; text_is = refl } in
    subst (λ (x : Answer). Gone (IsSelection c name p style texts) old new x) (sym (answered (refusal c p n) b (is b refl)))
    (text, s, written (IsSelection c name p style texts) (refusal c p n) text right)
sheet c name p style texts old new n (Err send_errors.Device) named s is =
    let text = sheet_or_line (refusal c p n) (table c p style texts n) in
    let right : IsSelection c name p style texts (answer_to (refusal c p n)) text = record { number = n; named = named; answer_is = refl; text_is = refl } in
    (s.0, s.3, λ a t other. (s.1, one_selection c name p style texts a (answer_to (refusal c p n)) t text other right ∙ s.2))
sheet c name p style texts old new n (Err send_errors.Memory) named s is =
    let text = sheet_or_line (refusal c p n) (table c p style texts n) in
    let right : IsSelection c name p style texts (answer_to (refusal c p n)) text = record { number = n; named = named; answer_is = refl; text_is = refl } in
    (s.0, s.3, λ a t other. (s.1, one_selection c name p style texts a (answer_to (refusal c p n)) t text other right ∙ s.2))

pub sent_sheet : (c : Contents) (name : List ℕ) (p : Pick) (style : FloatStyle) (texts : Bool) (old new : Option (List ℕ)) (n : Option ℕ) (answer : Answer) (result : Result Bool SendError) → IsFirstNamed c.schema.vars name n
    → SendsSheet (refusal c p n) old new (table c p style texts n) result → ((b : Bool) → result ≡ Ok b → b ≡ is_none (refusal c p n)) → answer ≡ sheet_answer result → Gone (IsSelection c name p style texts) old new answer
sent_sheet c name p style texts old new n answer result named s is e =
    subst (λ (x : Answer). Gone (IsSelection c name p style texts) old new x) (sym e) (sheet c name p style texts old new n result named s is)

-- ---- a selection that is refused

pub fault_of : (cause : Option SlabFault) → Refused ≡ answer_to cause → (f : SlabFault) × (cause ≡ Some f)
fault_of None is = cc is
fault_of (Some f) is = (f, refl)

pub not_memory : (result : Result Bool SendError) → (result ≡ Err send_errors.Memory → ⊥) → sheet_answer result ≡ Memory → ⊥
not_memory (Ok true) never is = cc is
not_memory (Ok false) never is = cc is
not_memory (Err send_errors.Device) never is = cc is
not_memory (Err send_errors.Memory) never is = never refl

-- ---- of bytes

-- the laws of bytes that pass that make their text one
pub record Laws : Type 0 where
  pub apart : (bytes : List ℕ) (limit : ℕ) (f : FileFault) → Passes bytes limit → Fails bytes limit f → ⊥
  pub one_header : (bytes : List ℕ) (limit : ℕ) (h k : Header) → Begins bytes limit h → Begins bytes limit k → h ≡ k
  pub one_fault : (bytes : List ℕ) (limit : ℕ) (f g : FileFault) → Fails bytes limit f → Fails bytes limit g → f ≡ g

either : (bytes : List ℕ) (limit : ℕ) (name : List ℕ) (p : Pick) (style : FloatStyle) (texts : Bool) (answer : Answer) (text : List ℕ) → IsCsvText bytes limit name p style texts answer text → IsSelectionOf bytes limit name p style texts answer text ⊎ IsFaultOf bytes limit text
either bytes limit name p style texts Passed text is = inl is
either bytes limit name p style texts Refused text is = is
either bytes limit name p style texts Device text is = absurd is
either bytes limit name p style texts Memory text is = absurd is

-- a selection of the bytes is one of the header that they pass with
of_header : Laws → (bytes : List ℕ) (limit : ℕ) (name : List ℕ) (p : Pick) (style : FloatStyle) (texts : Bool) (h : Header) → PassesWith bytes limit h → (answer : Answer) (text : List ℕ) → IsSelectionOf bytes limit name p style texts answer text
    → IsSelection (contents_of bytes h) name p style texts answer text
of_header laws bytes limit name p style texts h passes answer text is =
    subst (λ (k : Header). IsSelection (contents_of bytes k) name p style texts answer text) (laws.one_header bytes limit is.0 h is.1.begins passes.begins) is.2

same_text : Laws → (bytes : List ℕ) (limit : ℕ) (name : List ℕ) (p : Pick) (style : FloatStyle) (texts : Bool) (a b : Answer) (t u : List ℕ) → IsSelectionOf bytes limit name p style texts a t ⊎ IsFaultOf bytes limit t
    → IsSelectionOf bytes limit name p style texts b u ⊎ IsFaultOf bytes limit u → t ≡ u
same_text laws bytes limit name p style texts a b t u (inl x) (inl y) =
    one_selection (contents_of bytes y.0) name p style texts a b t u (of_header laws bytes limit name p style texts y.0 y.1 a t x) y.2
same_text laws bytes limit name p style texts a b t u (inl x) (inr y) = absurd (laws.apart bytes limit y.0 (x.0, x.1) y.1)
same_text laws bytes limit name p style texts a b t u (inr x) (inl y) = absurd (laws.apart bytes limit x.0 (y.0, y.1) x.1)
same_text laws bytes limit name p style texts a b t u (inr x) (inr y) = x.2 ∙ ap file_fault_line (laws.one_fault bytes limit x.0 y.0 x.1 y.1) ∙ sym y.2

-- one answer and one text at most is right
abbrev pub OneAnswer : Texts → Type 0
OneAnswer IsText = (a b : Answer) (t u : List ℕ) → IsText a t → IsText b u → (a ≡ b) × (t ≡ u)

of_one_header : Laws → (bytes : List ℕ) (limit : ℕ) (name : List ℕ) (p : Pick) (style : FloatStyle) (texts : Bool) (a b : Answer) (t u : List ℕ) → IsSelectionOf bytes limit name p style texts a t → IsSelectionOf bytes limit name p style texts b u → a ≡ b
of_one_header laws bytes limit name p style texts a b t u x y =
    one_answer (contents_of bytes y.0) name p style texts a b t u (of_header laws bytes limit name p style texts y.0 y.1 a t x) y.2

same_answer : Laws → (bytes : List ℕ) (limit : ℕ) (name : List ℕ) (p : Pick) (style : FloatStyle) (texts : Bool) (a b : Answer) (t u : List ℕ) → IsCsvText bytes limit name p style texts a t → IsCsvText bytes limit name p style texts b u → a ≡ b
same_answer laws bytes limit name p style texts Device b t u x y = absurd x
same_answer laws bytes limit name p style texts Memory b t u x y = absurd x
same_answer laws bytes limit name p style texts Passed Passed t u x y = refl
same_answer laws bytes limit name p style texts Passed Refused t u x (inl y) = of_one_header laws bytes limit name p style texts Passed Refused t u x y
same_answer laws bytes limit name p style texts Passed Refused t u x (inr y) = absurd (laws.apart bytes limit y.0 (x.0, x.1) y.1)
same_answer laws bytes limit name p style texts Passed Device t u x y = absurd y
same_answer laws bytes limit name p style texts Passed Memory t u x y = absurd y
same_answer laws bytes limit name p style texts Refused Passed t u (inl x) y = of_one_header laws bytes limit name p style texts Refused Passed t u x y
same_answer laws bytes limit name p style texts Refused Passed t u (inr x) y = absurd (laws.apart bytes limit x.0 (y.0, y.1) x.1)
same_answer laws bytes limit name p style texts Refused Refused t u x y = refl
same_answer laws bytes limit name p style texts Refused Device t u x y = absurd y
same_answer laws bytes limit name p style texts Refused Memory t u x y = absurd y

pub one_csv_text : Laws → (bytes : List ℕ) (limit : ℕ) (name : List ℕ) (p : Pick) (style : FloatStyle) (texts : Bool) → OneAnswer (IsCsvText bytes limit name p style texts)
one_csv_text laws bytes limit name p style texts a b t u is other = (
  same_answer laws bytes limit name p style texts a b t u is other,
  same_text laws bytes limit name p style texts a b t u (either bytes limit name p style texts a t is) (either bytes limit name p style texts b u other),
)

-- what begins each text of a selection begins each text of the bytes
begins : Laws → (bytes : List ℕ) (limit : ℕ) (name : List ℕ) (p : Pick) (style : FloatStyle) (texts : Bool) (h : Header) → PassesWith bytes limit h → (out : List ℕ) → BeginsEach (IsSelection (contents_of bytes h) name p style texts) out
    → (a : Answer) (t : List ℕ) → IsSelectionOf bytes limit name p style texts a t ⊎ IsFaultOf bytes limit t → (rest : List ℕ) × (t ≡ out ++ rest)
begins laws bytes limit name p style texts h passes out w a t (inl x) = w a t (of_header laws bytes limit name p style texts h passes a t x)
begins laws bytes limit name p style texts h passes out w a t (inr y) = absurd (laws.apart bytes limit y.0 (h, passes) y.1)

writes : Laws → (bytes : List ℕ) (limit : ℕ) (name : List ℕ) (p : Pick) (style : FloatStyle) (texts : Bool) (h : Header) → PassesWith bytes limit h → (answer : Answer) (out : List ℕ) → Writes (IsSelection (contents_of bytes h) name p style texts) answer out
    → Writes (IsCsvText bytes limit name p style texts) answer out
writes laws bytes limit name p style texts h passes Passed out w = (h, passes, w)
writes laws bytes limit name p style texts h passes Refused out w = inl (h, passes, w)
writes laws bytes limit name p style texts h passes Device out w = λ a t is. begins laws bytes limit name p style texts h passes out w a t (either bytes limit name p style texts a t is)
writes laws bytes limit name p style texts h passes Memory out w = λ a t is. begins laws bytes limit name p style texts h passes out w a t (either bytes limit name p style texts a t is)

pub opened_contents : (bytes : List ℕ) (limit : ℕ) (s : Schema) (placed : Placed) → (o : Opens bytes limit s placed) → contents_in bytes s placed ≡ contents_of bytes o.header
opened_contents bytes limit s placed o =
    let held = o.placed_is in
    let of : Schema → List PlacedVar → ℕ → Contents = λ t vars size. record { bytes = bytes; schema = t; vars = vars; record_size = size } in
    ap (λ (t : Schema). of t (vars_of placed) (record_size_of_file placed)) o.schema_is
    ∙ ap (λ (vars : List PlacedVar). of o.header.schema vars (record_size_of_file placed)) held.vars_are
    ∙ ap (λ (size : ℕ). of o.header.schema (placed_vars o.header.schema (places_of o.header.places) (length bytes)) size) held.size_is

pub sent_opened : Laws → (bytes : List ℕ) (limit : ℕ) (name : List ℕ) (p : Pick) (style : FloatStyle) (texts : Bool) (s : Schema) (placed : Placed) → Opens bytes limit s placed → (old new : Option (List ℕ)) (answer : Answer)
    → Gone (IsSelection (contents_in bytes s placed) name p style texts) old new answer → Gone (IsCsvText bytes limit name p style texts) old new answer
sent_opened laws bytes limit name p style texts s placed o old new answer gone = (
  gone.0,
  gone.1,
  writes laws bytes limit name p style texts o.header o.passes answer gone.0
      (subst (λ (c : Contents). Writes (IsSelection c name p style texts) answer gone.0) (opened_contents bytes limit s placed o) gone.2),
)

-- what is refused of the bytes that were opened is a selection of the open file
pub refused_in : Laws → (bytes : List ℕ) (limit : ℕ) (name : List ℕ) (p : Pick) (style : FloatStyle) (texts : Bool) (s : Schema) (placed : Placed) → Opens bytes limit s placed → (text : List ℕ) → IsCsvText bytes limit name p style texts Refused text
    → IsSelection (contents_in bytes s placed) name p style texts Refused text
refused_in laws bytes limit name p style texts s placed o text (inl x) =
    subst (λ (c : Contents). IsSelection c name p style texts Refused text) (sym (opened_contents bytes limit s placed o))
    (of_header laws bytes limit name p style texts o.header o.passes Refused text x)
refused_in laws bytes limit name p style texts s placed o text (inr y) = absurd (laws.apart bytes limit y.0 (o.header, o.passes) y.1)

pub sent_fault : (bytes : List ℕ) (limit : ℕ) (name : List ℕ) (p : Pick) (style : FloatStyle) (texts : Bool) → OneAnswer (IsCsvText bytes limit name p style texts) → (old new : Option (List ℕ)) (f : FileFault) (answer : Answer) (result : Result (Unit {0}) SendError) → Fails bytes limit f
    → SendsAll old new (file_fault_line f) result → answer ≡ answer_of result Refused → Gone (IsCsvText bytes limit name p style texts) old new answer
sent_fault bytes limit name p style texts one old new f answer result a s e =
    subst (λ (x : Answer). Gone (IsCsvText bytes limit name p style texts) old new x) (sym e)
    (sent (IsCsvText bytes limit name p style texts) (λ a b t u x y. (one a b t u x y).1) old new (file_fault_line f) Refused result (inr (f, a, refl)) (inr (f, a, refl)) s)
