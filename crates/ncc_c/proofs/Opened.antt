-- Where a file is opened, it passes.
use Rattle.std.proofs.Common.{◌≡◌, ◌⊎◌, ℕ, List, length, inl, inr, Result, Ok, Err, ap, ◌∙◌, sym, arith}
use Rattle.ncc_values.specs.Version.{byte_of}
use Rattle.ncc_schema.specs.declared.schema.Header.{Header}
use Rattle.ncc_layout.specs.declared.placed_file.Placed.{Placed}
use Rattle.ncc_check.specs.Passes.{HasOwnElements, Passes}
use Rattle.ncc_front.specs.Fronts.{IsFile}
use Rattle.ncc_front.specs.declared.judging.Found.{Found}
use Rattle.ncc_front.specs.declared.judging.FrontRefusal.{FrontRefusal}
use Rattle.ncc_front.specs.declared.judging.FrontRefusal.TheVariants.{Fault, More, Memory}
use Rattle.ncc_c.specs.declared.index.Indexed.{Indexed}
use Rattle.ncc_c.specs.declared.outcome.Outcome.{Outcome}
use Rattle.ncc_c.specs.declared.rows.AttrRow.{AttrRow}
use Rattle.ncc_c.specs.declared.rows.DimRow.{DimRow}
use Rattle.ncc_c.specs.declared.rows.VarRow.{VarRow}
use Rattle.ncc_front.specs.declared.judging.Judgement.{Judgement}
use Rattle.ncc_front.specs.Judging.{FindsOf, IsSameFinding, JudgesFront}
use Rattle.ncc_c.specs.declared.opening.Opened.{Opened}
use Rattle.ncc_c.specs.declared.verdict.Verdict.{Verdict}
use Rattle.ncc_c.specs.Opening.{HasNumbersOf, Opens, TellsFile, opened_by}
use Rattle.ncc_c.specs.Outcomes.{no_room, of_refusal, passes}
use Rattle.ncc_c.specs.Verdicts.{Tells, verdict_of}
use Rattle.ncc_c.specs.Rows.{Examines, IsIndexed}

abbrev state_of : Indexed → ℕ
state_of x = x.outcome.state

-- a refusal's state is neither
refused_state : (e : FrontRefusal) → ((of_refusal e).state ≡ 0) ⊎ ((of_refusal e).state ≡ 6) → ⊥
refused_state (Fault f) (inl is) = omega (arith, is)
refused_state (Fault f) (inr is) = omega (arith, is)
refused_state (More at) (inl is) = omega (arith, is)
refused_state (More at) (inr is) = omega (arith, is)
refused_state Memory (inl is) = omega (arith, is)
refused_state Memory (inr is) = omega (arith, is)

state_after : (x : Indexed) → (x.outcome ≡ passes) ⊎ (x.outcome ≡ no_room) → (x.outcome.state ≡ 0) ⊎ (x.outcome.state ≡ 6)
state_after x (inl is) = inl (ap (λ (o : Outcome). o.state) is)
state_after x (inr is) = inr (ap (λ (o : Outcome). o.state) is)

of_state : (e : FrontRefusal) (o : Outcome) → o ≡ of_refusal e → (o.state ≡ 0) ⊎ (o.state ≡ 6) → ⊥
of_state e o is (inl at) = refused_state e (inl (sym (ap (λ (o : Outcome). o.state) is) ∙ at))
of_state e o is (inr at) = refused_state e (inr (sym (ap (λ (o : Outcome). o.state) is) ∙ at))

-- ---- the rows of an answer are those that were put

pub rows_are : (answer : Result Found FrontRefusal) (rows : Indexed) (x : Opened) → x ≡ opened_by answer rows → x.rows ≡ rows
rows_are (Ok f) rows x is = ap (λ (y : Opened). y.rows) is
rows_are (Err e) rows x is = ap (λ (y : Opened). y.rows) is

pub numbers_are : (answer : Result Found FrontRefusal) (rows : Indexed) (x : Opened) → x ≡ opened_by answer rows → x ≡ opened_by answer x.rows
numbers_are answer rows x is = is ∙ ap (opened_by answer) (sym (rows_are answer rows x is))

-- ---- it passes

pub own_elements : ((bytes : List ℕ) (limit : ℕ) → Passes bytes limit → HasOwnElements bytes limit)
    → (front : List ℕ) (file limit : ℕ) (answer : Result Found FrontRefusal) (dims : List DimRow) (attrs : List AttrRow) (vars : List VarRow) (ids : List ℕ) (x : Indexed)
    → Examines front file limit answer → IsIndexed answer dims attrs vars ids x → (x.outcome ≡ passes) ⊎ (x.outcome ≡ no_room)
    → (bytes : List ℕ) → IsFile front file bytes → HasOwnElements bytes limit
own_elements law front file limit (Ok f) dims attrs vars ids x is told opens bytes file_is = law bytes limit (f.header, is.passes bytes file_is)
own_elements law front file limit (Err e) dims attrs vars ids x is told opens bytes file_is =
    absurd (of_state e x.outcome (ap (λ (y : Indexed). y.outcome) told) (state_after x opens))

-- ---- the numbers are those of a verdict

abbrev OneFinding : Type 0
OneFinding = (front : List ℕ) (file limit : ℕ) (h : Header) (p : Placed) (k : Header) (q : Placed) → FindsOf front file limit h p → FindsOf front file limit k q → IsSameFinding h p k q

same_answer : OneFinding → (front : List ℕ) (file limit : ℕ) (a : Result Judgement FrontRefusal) (b : Result Found FrontRefusal) (dims : List DimRow) (attrs : List AttrRow) (vars : List VarRow) (ids : List ℕ) (v : Verdict) (x : Opened)
    → JudgesFront front file limit a → Examines front file limit b → v ≡ verdict_of a → IsIndexed b dims attrs vars ids x.rows → x ≡ opened_by b x.rows → v.outcome.state ≡ 0 → Opens x → HasNumbersOf v x
same_answer law front file limit (Ok j) (Ok f) dims attrs vars ids v x judged examined told (counts, rows) numbers passed opens =
    let same : IsSameFinding j.header j.placed f.header f.placed = law front file limit j.header j.placed f.header f.placed judged.finds examined in
    record {
      version = ap (λ (y : Opened). y.version) numbers ∙ ap (λ (h : Header). byte_of h.schema.version) (sym same.header) ∙ sym (ap (λ (w : Verdict). w.version) told);
      header_length = ap (λ (y : Opened). y.header_length) numbers ∙ ap (λ (h : Header). h.length) (sym same.header) ∙ sym (ap (λ (w : Verdict). w.header_length) told);
      records = ap (λ (y : Opened). y.records) numbers ∙ sym same.records ∙ sym (ap (λ (w : Verdict). w.records) told);
      record_size = ap (λ (y : Opened). y.record_size) numbers ∙ sym same.record_size ∙ sym (ap (λ (w : Verdict). w.record_size) told);
      dims = counts.dims ∙ ap (λ (h : Header). length h.schema.dims) (sym same.header) ∙ sym (ap (λ (w : Verdict). w.dims) told);
      global_attrs = ap (λ (y : Opened). y.global_attrs) numbers ∙ ap (λ (h : Header). length h.schema.gatts) (sym same.header) ∙ sym (ap (λ (w : Verdict). w.global_attrs) told);
      vars = counts.vars ∙ ap (λ (h : Header). length h.schema.vars) (sym same.header) ∙ sym (ap (λ (w : Verdict). w.vars) told);
    }
same_answer law front file limit (Ok j) (Err e) dims attrs vars ids v x judged examined told rows numbers passed opens =
    absurd (of_state e x.rows.outcome (ap (λ (y : Indexed). y.outcome) rows) (state_after x.rows opens))
same_answer law front file limit (Err e) b dims attrs vars ids v x judged examined told rows numbers passed opens =
    absurd (of_state e v.outcome (ap (λ (w : Verdict). w.outcome) told) (inl passed))

pub same_numbers : OneFinding → (front : List ℕ) (file limit : ℕ) (dims : List DimRow) (attrs : List AttrRow) (vars : List VarRow) (ids : List ℕ) (v : Verdict) (x : Opened)
    → Tells front file limit v → TellsFile front file limit dims attrs vars ids x → v.outcome.state ≡ 0 → Opens x → HasNumbersOf v x
same_numbers law front file limit dims attrs vars ids v x a b passed opens =
    same_answer law front file limit a.answer b.index.answer dims attrs vars ids v x a.judges b.index.examines a.told b.index.told b.numbers passed opens
