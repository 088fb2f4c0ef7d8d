-- What `extend` sent is the line of its answer, or a front of it.
use Rattle.std.proofs.Common.{◌≡◌, ◌≢◌, ◌⊎◌, inl, inr, ℕ, zero, suc, ◌+◌, Bool, IsTrue, add-one, List, [], Option, Some, None, Result, Ok, Err, refl, sym, ap, subst, ◌∙◌, arith, false}
use Rattle.std.specs.Prelude.{OnOk, IfErr}
use Rattle.std.proofs.Math.Logic.{∥∥₁_map}
use Rattle.std.proofs.lemmas.List.{append-nil}
use Rattle.ncc_schema.specs.Device.{Puts}
use Rattle.ncc_schema.specs.declared.schema.Count.TheVariants.{Known}
use Rattle.ncc_schema.specs.declared.schema.Schema.{Schema}
use Rattle.ncc_layout.specs.declared.placed_file.Placed.{Placed}
use Rattle.ncc_layout.specs.Placed.{file_length_of, records_of_file}
use Rattle.ncc_check.specs.Checks.{Opens}
use Rattle.ncc_check.specs.Faults.{Fails}
use Rattle.ncc_check.specs.declared.append_error.AppendError.{AppendError}
use Rattle.ncc_check.specs.declared.append_error.AppendError.TheVariants as errors
use Rattle.ncc_check.specs.AppendLaws.{CanGrow, ShowsSame}
use Rattle.ncc_check.specs.Appending.{IsFull}
use Rattle.ncc_check.specs.declared.fault.FileFault.{FileFault}
use Rattle.ncc_lines.specs.Sends.{SendsAll}
use Rattle.ncc_lines.specs.Texts.{records_line}
use Rattle.ncc_lines.specs.Verdicts.{file_fault_line}
use Rattle.ncc_lines.specs.declared.send_error.SendError.{SendError}
use Rattle.ncc_lines.specs.declared.send_error.SendError.TheVariants as send_errors
use Rattle.ncc_schema.specs.Schema.{Place}
use Rattle.ncc_layout.specs.Plans.{IsKnown}
use Rattle.ncc_build.specs.Dataset.{Dataset, IsDataset}
use Rattle.ncc_write.specs.Additions.{HoldsAll}
use Rattle.ncc_write.specs.Extends.{ExtendsAs, HoldsSome, IsFullFor, LeavesFills, filled_bytes}
use Rattle.ncc_write.proofs.MoreRecords.{as_first, can_grow as can_grow_on, full_now, full_then, no_records}
use Rattle.ncc_write.specs.Records.{followed_by}
use Rattle.ncc_answers.specs.declared.answer.Answer.{Answer}
use Rattle.ncc_answers.specs.declared.answer.Answer.TheVariants.{Passed, Refused, Device, Memory}
use Rattle.ncc_answers.specs.Answers.{Texts, answer_of}
use Rattle.ncc_engines.specs.Extending.{ExtendsInto, IsExtendText, IsFilled, IsFilledSome, IsFilledUp, IsFilledWhole, IsFrontOfRefusal, IsFrontOfText, Tells, TellsText}

-- these went out
abbrev pub Told : Result (Unit {0}) AppendError → (records : ℕ) → (old new : Option (List ℕ)) → Answer → Type 0
Told result records old new answer = (out : List ℕ) × Puts old new out × Tells result records answer out

abbrev pub Went : (bytes : List ℕ) (limit more : ℕ) (old new : Option (List ℕ)) → Answer → Type 0
Went b limit n old new answer = (out : List ℕ) × Puts old new out × ExtendsInto b limit n answer out

pub nothing_put : (put : Option (List ℕ)) → Puts put put []
nothing_put None = tt
nothing_put (Some bytes) = ap Some (sym (append-nil bytes))

-- ---- telling

whole : (result : Result (Unit {0}) AppendError) (records : ℕ) (answer : Answer) (text : List ℕ)
    → TellsText result records answer text → Tells result records answer text
whole result records Passed text is = is
whole result records Refused text is = is
whole (Ok x) records Device text is = absurd is
whole (Err e) records Device text is = absurd is
whole (Ok x) records Memory text is = absurd is
whole (Err e) records Memory text is = absurd is

pub told_sent : (result : Result (Unit {0}) AppendError) (records : ℕ) (answer : Answer) (text : List ℕ)
    (old new : Option (List ℕ)) (sent : Result (Unit {0}) SendError) → TellsText result records answer text
    → SendsAll old new text sent → Told result records old new (answer_of sent answer)
told_sent result records answer text old new (Ok x) is s = (text, s, whole result records answer text is)
told_sent result records answer text old new (Err send_errors.Device) is s =
    (s.0, s.3, inr (answer, text, s.1, is, s.2))
told_sent result records answer text old new (Err send_errors.Memory) is s =
    (s.0, s.3, inr (answer, text, s.1, is, s.2))

pub told_nothing : (result : Result (Unit {0}) AppendError) (records : ℕ) (put : Option (List ℕ))
    → Told result records put put Device × Told result records put put Memory
told_nothing result records put = (([], nothing_put put, inl refl), ([], nothing_put put, inl refl))

-- ---- of bytes

extended_text : (b : List ℕ) (limit n : ℕ) (s : Schema) (p : Placed) → Opens b limit s p
    → (result : Result (Unit {0}) AppendError) (records : ℕ) → ExtendsAs false s p n result
    → ((x : Unit {0}) → result ≡ Ok x → records ≡ records_of_file p + n)
    → (answer : Answer) (text : List ℕ) → TellsText result records answer text → IsExtendText b limit n answer text
extended_text b limit n s p o (Ok x) records how many Passed text is =
    (s, p, o, (how, is ∙ ap (λ (m : ℕ). records_line (Known m)) (many x refl)))
extended_text b limit n s p o (Ok x) records how many Refused text is = absurd is
extended_text b limit n s p o (Ok x) records how many Device text is = absurd is
extended_text b limit n s p o (Ok x) records how many Memory text is = absurd is
extended_text b limit n s p o (Err e) records how many Passed text is = absurd is
extended_text b limit n s p o (Err e) records how many Refused text is = inl (s, p, o, (e, how, is.0, is.1, is.2))
extended_text b limit n s p o (Err e) records how many Device text is = absurd is
extended_text b limit n s p o (Err e) records how many Memory text is = absurd is

front_of : (P Q : Texts) → ((answer : Answer) (text : List ℕ) → P answer text → Q answer text) → (out : List ℕ)
    → IsFrontOfText P out → IsFrontOfText Q out
front_of P Q into out (inl none) = inl none
front_of P Q into out (inr (answer, text, rest, is, joined)) = inr (answer, text, rest, into answer text is, joined)

pub went : (b : List ℕ) (limit n : ℕ) (s : Schema) (p : Placed) → Opens b limit s p
    → (result : Result (Unit {0}) AppendError) (records : ℕ) → ExtendsAs false s p n result
    → ((x : Unit {0}) → result ≡ Ok x → records ≡ records_of_file p + n)
    → (old new : Option (List ℕ)) (answer : Answer) → Told result records old new answer
    → Went b limit n old new answer
went b limit n s p o result records how many old new Passed (out, puts, is) =
    (out, puts, extended_text b limit n s p o result records how many Passed out is)
went b limit n s p o result records how many old new Refused (out, puts, is) =
    (out, puts, extended_text b limit n s p o result records how many Refused out is)
went b limit n s p o result records how many old new Device (out, puts, is) = (
  out,
  puts,
  front_of (TellsText result records) (IsExtendText b limit n) (extended_text b limit n s p o result records how many) out is,
)
went b limit n s p o result records how many old new Memory (out, puts, is) = (
  out,
  puts,
  front_of (TellsText result records) (IsExtendText b limit n) (extended_text b limit n s p o result records how many) out is,
)

-- ---- of bytes that don't pass

pub fault_went : (b : List ℕ) (limit n : ℕ) (old new : Option (List ℕ)) (f : FileFault) (answer : Answer)
    (sent : Result (Unit {0}) SendError) → Fails b limit f → SendsAll old new (file_fault_line f) sent
    → answer ≡ answer_of sent Refused → Went b limit n old new answer
fault_went b limit n old new f answer sent fails s is = subst (Went b limit n old new) (sym is) (by sent s)
  where
    by : (sent : Result (Unit {0}) SendError) → SendsAll old new (file_fault_line f) sent
        → Went b limit n old new (answer_of sent Refused)
    by (Ok x) s = (file_fault_line f, s, inr (f, fails, refl))
    by (Err send_errors.Device) s = (s.0, s.3, inr (Refused, file_fault_line f, s.1, inr (f, fails, refl), s.2))
    by (Err send_errors.Memory) s = (s.0, s.3, inr (Refused, file_fault_line f, s.1, inr (f, fails, refl), s.2))

pub stopped_went : (b : List ℕ) (limit n : ℕ) (put : Option (List ℕ))
    → Went b limit n put put Device × Went b limit n put put Memory
stopped_went b limit n put = (([], nothing_put put, inl refl), ([], nothing_put put, inl refl))

-- ---- how many there are is told last

front_of_refusal : (b : List ℕ) (limit n : ℕ) (s : Schema) (p : Placed) → Opens b limit s p → (e : AppendError)
    (records : ℕ) → ExtendsAs false s p n (Err e) → (out : List ℕ) → IsFrontOfText (TellsText (Err e) records) out
    → IsFrontOfRefusal b limit n out
front_of_refusal b limit n s p o e records how out (inl none) = inl none
front_of_refusal b limit n s p o e records how out (inr (Passed, text, rest, is, joined)) = absurd is
front_of_refusal b limit n s p o e records how out (inr (Refused, text, rest, is, joined)) =
    inr (text, rest, inl (s, p, o, (e, how, is.0, is.1, is.2)), joined)
front_of_refusal b limit n s p o e records how out (inr (Device, text, rest, is, joined)) = absurd is
front_of_refusal b limit n s p o e records how out (inr (Memory, text, rest, is, joined)) = absurd is

-- a front of a refusal went out, or all of the records stand
pub refused_or_filled : (b : List ℕ) (limit n : ℕ) (s : Schema) (p : Placed) → Opens b limit s p
    → (result : Result (Unit {0}) AppendError) (records : ℕ) → ExtendsAs false s p n result
    → (answer : Answer) (out : List ℕ) → Tells result records answer out
    → (new : List ℕ) → OnOk result (new ≡ filled_bytes b s p n)
    → IsFrontOfRefusal b limit n out ⊎ (∥ IsFilled b limit n new ∥₁)
refused_or_filled b limit n s p o (Ok x) records how answer out told new ok =
    inr ∣ record { schema = s; placed = p; opens = o; bytes = ok } ∣₁
refused_or_filled b limit n s p o (Err e) records how Passed out told new ok = absurd told
refused_or_filled b limit n s p o (Err e) records how Refused out told new ok =
    inl (inr (out, [], inl (s, p, o, (e, how, told.0, told.1, told.2)), sym (append-nil out)))
refused_or_filled b limit n s p o (Err e) records how Device out told new ok =
    inl (front_of_refusal b limit n s p o e records how out told)
refused_or_filled b limit n s p o (Err e) records how Memory out told new ok =
    inl (front_of_refusal b limit n s p o e records how out told)

pub fault_front : (b : List ℕ) (limit n : ℕ) (old new : Option (List ℕ)) (f : FileFault)
    (sent : Result (Unit {0}) SendError) → Fails b limit f → SendsAll old new (file_fault_line f) sent
    → (out : List ℕ) × Puts old new out × IsFrontOfRefusal b limit n out
fault_front b limit n old new f (Ok x) fails s =
    (file_fault_line f, s, inr (file_fault_line f, [], inr (f, fails, refl), sym (append-nil (file_fault_line f))))
fault_front b limit n old new f (Err e) fails s =
    (s.0, s.3, inr (file_fault_line f, s.1, inr (f, fails, refl), s.2))

-- ---- what stands

-- none of the records was added
pub none_more : ((d : Dataset) → IsKnown d.schema.count → followed_by d [] ≡ d) → (b : List ℕ) (limit : ℕ)
    (places : List Place) (d : Dataset) (n : ℕ) → IsDataset d → HoldsAll b limit places d
    → ∥ HoldsSome b limit places d n ∥₁
none_more none b limit places d n is all = ∣ record {
  more = 0;
  few = omega arith;
  holds = subst (λ (e : Dataset). HoldsAll b limit places e) (sym (none d is.counted)) all;
} ∣₁

-- all of them were, where that was told
pub passed_ok : (result : Result (Unit {0}) AppendError) (records : ℕ) (old new : Option (List ℕ))
    → Told result records old new Passed → {P : Type 0} → OnOk result P → P
passed_ok (Ok x) records old new told h = h
passed_ok (Err e) records old new told h = absurd told.2

-- ---- the records that there is room for

pub is_full : (e : AppendError) → (e ≡ errors.CountFull) ⊎ (e ≢ errors.CountFull)
is_full errors.CountFull = inl refl
is_full errors.Reopen = inr (λ is. cc is)
is_full errors.NoRecordVariable = inr (λ is. cc is)
is_full errors.NotPacked = inr (λ is. cc is)
is_full errors.Streaming = inr (λ is. cc is)
is_full (errors.WrongValues k) = inr (λ is. cc is)
is_full errors.Device = inr (λ is. cc is)
is_full errors.Memory = inr (λ is. cc is)

can_grow : (s : Schema) (p : Placed) (n : ℕ) → ExtendsAs false s p n (Err errors.CountFull) → CanGrow s p
can_grow s p zero how = absurd how
can_grow s p (suc n) how = how.1

-- a refusal that isn't of want of room
pub takes_none : (s : Schema) (p : Placed) (n : ℕ) (e : AppendError) → ExtendsAs false s p n (Err e)
    → e ≢ errors.CountFull → e ≢ errors.Device → e ≢ errors.Memory → CanGrow s p → ⊥
takes_none s p zero e how full device memory grows = how
takes_none s p (suc n) errors.Reopen how full device memory grows = cc how
takes_none s p (suc n) errors.NoRecordVariable how full device memory grows = grows.some how.1
takes_none s p (suc n) errors.NotPacked how full device memory grows = how.2 grows.packed
takes_none s p (suc n) errors.Streaming how full device memory grows = subst IsKnown how.3 grows.counted
takes_none s p (suc n) errors.CountFull how full device memory grows = full refl
takes_none s p (suc n) (errors.WrongValues k) how full device memory grows = how
takes_none s p (suc n) errors.Device how full device memory grows = device refl
takes_none s p (suc n) errors.Memory how full device memory grows = memory refl

pub filled_up : (old : List ℕ) (limit : ℕ) (s : Schema) (p : Placed) → Opens old limit s p → (n : ℕ)
    → ExtendsAs false s p n (Err errors.CountFull) → (t : Schema) (q : Placed) (told : Bool) (new : List ℕ)
    → IsTrue told → (leaves : LeavesFills old s p t q told n errors.CountFull new) → IsFull t.version q
    → (u : IsFilledUp old limit n new) × (u.fits ≡ leaves.more) × (u.fits ≡ 0 → IsFull s.version p)
filled_up old limit s p o n how t q told new is leaves full =
    let next = full_now s p leaves.more t q leaves.has full in (
      record {
        fits = leaves.more;
        fewer = leaves.fewer;
        filled = record { schema = s; placed = p; opens = o; bytes = leaves.stands is (λ device. cc device) };
        room = leaves.room;
        grows = can_grow s p n how;
        full = subst (IsFullFor s.version p) (sym (add-one leaves.more)) next;
      },
      refl,
      λ none. full_then s p 0 s p (no_records s p) (subst (λ (k : ℕ). IsFullFor s.version p (suc k)) none next),
    )

-- ---- a file that takes no record

-- the same file, opened anew, takes none either
pub takes_none_too : (s : Schema) (p : Placed) (t : Schema) (q : Placed) → s ≡ t → ShowsSame p (file_length_of p) q
    → CanGrow s p → CanGrow t q
takes_none_too s p t q same shows = can_grow_on s p 0 t q (record {
  schema_is = sym same;
  header_is = shows.header_is;
  length_is = shows.length_is;
  size_is = shows.size_is;
  records_are = omega (arith, shows.records_are);
  vars_are = shows.vars_are;
})

pub nothing_added : (s : Schema) (p : Placed) (n : ℕ) (result : Result (Unit {0}) AppendError)
    → ExtendsAs false s p n result → (CanGrow s p → ⊥) → (U : Type 0) → (n ≡ 0 → U)
    → IfErr result (λ e. e ≢ errors.Device → e ≢ errors.CountFull → U) → U
nothing_added s p zero (Ok x) how cannot U none same = none refl
nothing_added s p zero (Err e) how cannot U none same = absurd how
nothing_added s p (suc k) (Ok x) how cannot U none same = absurd (cannot how.1.0)
nothing_added s p (suc k) (Err errors.CountFull) how cannot U none same = absurd (cannot how.1)
nothing_added s p (suc k) (Err errors.Device) how cannot U none same = absurd (cannot (as_first s p how.1))
nothing_added s p (suc k) (Err errors.Memory) how cannot U none same = absurd (cannot (as_first s p how.1))
nothing_added s p (suc k) (Err errors.Reopen) how cannot U none same = same (λ e. cc e) (λ e. cc e)
nothing_added s p (suc k) (Err errors.NoRecordVariable) how cannot U none same = same (λ e. cc e) (λ e. cc e)
nothing_added s p (suc k) (Err errors.NotPacked) how cannot U none same = same (λ e. cc e) (λ e. cc e)
nothing_added s p (suc k) (Err errors.Streaming) how cannot U none same = same (λ e. cc e) (λ e. cc e)
nothing_added s p (suc k) (Err (errors.WrongValues j)) how cannot U none same = same (λ e. cc e) (λ e. cc e)

-- why the answer was Refused
pub refused_for : (result : Result (Unit {0}) AppendError) (records : ℕ) (old new : Option (List ℕ))
    → Told result records old new Refused
    → (e : AppendError) × (result ≡ Err e) × (e ≢ errors.Device) × (e ≢ errors.Memory)
refused_for (Ok x) records old new told = absurd told.2
refused_for (Err e) records old new told = (e, refl, told.2.0, told.2.1)

-- all of them were added, or those before the one that was refused
pub whole_filled : (old : List ℕ) (limit : ℕ) (s : Schema) (p : Placed) → Opens old limit s p → (n : ℕ)
    → (result : Result (Unit {0}) AppendError) → (t : Schema) (q : Placed) (told : Bool) (new : List ℕ) → IsTrue told
    → result ≢ Err errors.Device → OnOk result (new ≡ filled_bytes old s p n)
    → IfErr result (λ e. ∥ LeavesFills old s p t q told n e new ∥₁) → ∥ IsFilledWhole old limit n new ∥₁
whole_filled old limit s p o n (Ok x) t q told new is other ok partly =
    ∣ (n, omega arith, record { schema = s; placed = p; opens = o; bytes = ok }) ∣₁
whole_filled old limit s p o n (Err e) t q told new is other ok partly =
    ∥∥₁_map partly (λ leaves. (
      leaves.more,
      omega (arith, leaves.fewer),
      record {
        schema = s;
        placed = p;
        opens = o;
        bytes = leaves.stands is (λ device. other (ap (λ (x : AppendError). Err x) device));
      },
    ))

-- ---- whatever the answer

-- nothing was written, or some of the records stand
pub some_filled : (old : List ℕ) (limit : ℕ) (s : Schema) (p : Placed) → Opens old limit s p → (n : ℕ)
    → (result : Result (Unit {0}) AppendError) → ExtendsAs false s p n result
    → (t : Schema) (q : Placed) (told : Bool) (new : List ℕ) → IsTrue told
    → OnOk result (new ≡ filled_bytes old s p n) → IfErr result (λ e. ∥ LeavesFills old s p t q told n e new ∥₁)
    → (U : Type 0) → (n ≡ 0 → U) → IfErr result (λ e. e ≢ errors.Device → e ≢ errors.CountFull → U)
    → U ⊎ (∥ IsFilledSome old limit n new ∥₁)
some_filled old limit s p o zero (Ok x) how t q told new is bytes leaves U none same = inl (none refl)
some_filled old limit s p o zero (Err e) how t q told new is bytes leaves U none same = absurd how
some_filled old limit s p o (suc k) (Ok x) how t q told new is bytes leaves U none same =
    inr ∣ record {
      schema = s;
      placed = p;
      opens = o;
      grows = how.1.0;
      more = suc k;
      few = omega arith;
      is = inl bytes;
    } ∣₁
some_filled old limit s p o (suc k) (Err errors.CountFull) how t q told new is bytes leaves U none same =
    inr (∥∥₁_map leaves (λ left. record {
      schema = s;
      placed = p;
      opens = o;
      grows = how.1;
      more = left.more;
      few = omega (arith, left.fewer);
      is = inl (left.stands is (λ device. cc device));
    }))
some_filled old limit s p o (suc k) (Err errors.Device) how t q told new is bytes leaves U none same =
    inr (∥∥₁_map leaves (λ left. record {
      schema = s;
      placed = p;
      opens = o;
      grows = as_first s p how.1;
      more = left.more;
      few = omega (arith, left.fewer);
      is = inr (left.fewer, left.failed is);
    }))
some_filled old limit s p o (suc k) (Err errors.Reopen) how t q told new is bytes leaves U none same =
    inl (same (λ e. cc e) (λ e. cc e))
some_filled old limit s p o (suc k) (Err errors.NoRecordVariable) how t q told new is bytes leaves U none same =
    inl (same (λ e. cc e) (λ e. cc e))
some_filled old limit s p o (suc k) (Err errors.NotPacked) how t q told new is bytes leaves U none same =
    inl (same (λ e. cc e) (λ e. cc e))
some_filled old limit s p o (suc k) (Err errors.Streaming) how t q told new is bytes leaves U none same =
    inl (same (λ e. cc e) (λ e. cc e))
some_filled old limit s p o (suc k) (Err (errors.WrongValues j)) how t q told new is bytes leaves U none same =
    inl (same (λ e. cc e) (λ e. cc e))
some_filled old limit s p o (suc k) (Err errors.Memory) how t q told new is bytes leaves U none same =
    inl (same (λ e. cc e) (λ e. cc e))
