-- Answers one after the other.
use Rattle.std.proofs.Common.{◌≡◌, ◌⊎◌, inl, inr, ℕ, ◌+◌, ◌<◌, ◌≤◌, List, [], ◌∷◌, ◌++◌, Option, Result, Ok, Err, take, drop, length, get_or, refl, sym, ap, subst, ◌∙◌, append_assoc, arith}
use Rattle.std.specs.Result.{IsErrAnd}
use Rattle.std.proofs.lemmas.List.{append-nil, take-append-drop, take_more, drop_more, drop-drop, drop_all}
use Rattle.std.proofs.lemmas.Result.{err_from_is_err_and}
use Rattle.ncc_values.specs.declared.failures.Device.{Device as Failure}
use Rattle.ncc_schema.specs.Device.{Puts}
use Rattle.ncc_schema.proofs.Writing.{puts_both}
use Rattle.ncc_values.specs.Failures.{last_count, Rose}
use Rattle.ncc_answers.specs.declared.answer.Answer.{Answer}
use Rattle.ncc_answers.specs.declared.answer.Answer.TheVariants.{Passed, Refused, Device, Memory}
use Rattle.ncc_answers.specs.declared.form.Form.{Form}
use Rattle.ncc_answers.specs.declared.work.Work.{Work}
use Rattle.ncc_answers.specs.Shown.{worse, worst, worst_from, devices}
use Rattle.ncc_batch.specs.Answered.{IsAnswered, AreAnswered, AreFewer, AreCounted, IsBatch, SendsOne}

-- ---- what is shown

module _ (file : List ℕ → Option (List ℕ)) (work : Work) (form : Form) where
  pub answered_both : (ps qs : List (List ℕ)) (answers bs : List Answer) (o q : List ℕ) → AreAnswered file work form ps answers o → AreAnswered file work form qs bs q → AreAnswered file work form (ps ++ qs) (answers ++ bs) (o ++ q)
  answered_both [] qs [] bs o q x y = subst (λ (l : List ℕ). AreAnswered file work form qs bs (l ++ q)) (sym x) y
  answered_both [] qs (a ∷ answers) bs o q x y = absurd x
  answered_both (p ∷ ps) qs [] bs o q x y = absurd x
  answered_both (p ∷ ps) qs (a ∷ answers) bs o q x y = (
    x.0,
    x.1 ++ q,
    ap (λ (l : List ℕ). l ++ q) x.2 ∙ append_assoc x.0 x.1 q,
    x.3,
    answered_both ps qs answers bs x.1 q x.4 y,
  )

  pub answered_one : (p : List ℕ) (a : Answer) (o : List ℕ) → IsAnswered work form p (file p) a o → AreAnswered file work form (p ∷ []) (a ∷ []) o
  answered_one p a o x = (o, [], sym (append-nil o), x, refl)

-- ---- the worst answer, and failures

pub worst_more : (a : Answer) (answers : List Answer) (b : Answer) → worst_from a (answers ++ b ∷ []) ≡ worse (worst_from a answers) b
worst_more a [] b = refl
worst_more a (c ∷ answers) b = worst_more (worse a c) answers b

pub devices_more : (answers : List Answer) (b : Answer) → devices (answers ++ b ∷ []) ≡ devices answers + devices (b ∷ [])
devices_more [] b = omega arith
devices_more (Passed ∷ answers) b = devices_more answers b
devices_more (Refused ∷ answers) b = devices_more answers b
devices_more (Memory ∷ answers) b = devices_more answers b
devices_more (Device ∷ answers) b = let rest = devices_more answers b in omega (arith, rest)

plus_none : (n : ℕ) → n + 0 ≡ n
plus_none n = omega arith

none_more : (n old mid new : ℕ) → (old + n ≤ mid) ⊎ (mid ≡ last_count) → mid ≤ new → new ≤ last_count → (old + n ≤ new) ⊎ (new ≡ last_count)
none_more n old mid new (inl le) grows most = inl (omega (arith, le, grows))
none_more n old mid new (inr end) grows most = inr (omega (arith, end, grows, most))

one_more : (n old mid new : ℕ) → (old + n ≤ mid) ⊎ (mid ≡ last_count) → Rose mid new → new ≤ last_count → (old + (n + 1) ≤ new) ⊎ (new ≡ last_count)
one_more n old mid new (inl le) (inl less) most = inl (omega (arith, le, less))
one_more n old mid new (inr end) (inl less) most = absurd (omega (arith, end, less, most))
one_more n old mid new x (inr end) most = inr end

few_more : (answers : List Answer) (a : Answer) (old mid new : ℕ) → AreFewer answers old mid → (a ≡ Device → Rose mid new) → mid ≤ new → new ≤ last_count → AreFewer (answers ++ a ∷ []) old new
few_more answers Passed old mid new x rose grows most = rw (devices_more answers Passed) (none_more (devices answers + 0) old mid new (rw (plus_none (devices answers)) x) grows most)
few_more answers Refused old mid new x rose grows most = rw (devices_more answers Refused) (none_more (devices answers + 0) old mid new (rw (plus_none (devices answers)) x) grows most)
few_more answers Memory old mid new x rose grows most = rw (devices_more answers Memory) (none_more (devices answers + 0) old mid new (rw (plus_none (devices answers)) x) grows most)
few_more answers Device old mid new x rose grows most = rw (devices_more answers Device) (one_more (devices answers) old mid new x (rose refl) most)

none_failed : (answers : List Answer) (a : Answer) (old mid new : ℕ) → (devices answers ≡ 0 → mid ≡ old) → ((a ≡ Device → ⊥) → new ≡ mid) → devices (answers ++ a ∷ []) ≡ 0 → new ≡ old
none_failed answers Passed old mid new x quiet e = quiet (λ d. absurd (cc)) ∙ x (omega (arith, e, devices_more answers Passed))
none_failed answers Refused old mid new x quiet e = quiet (λ d. absurd (cc)) ∙ x (omega (arith, e, devices_more answers Refused))
none_failed answers Memory old mid new x quiet e = quiet (λ d. absurd (cc)) ∙ x (omega (arith, e, devices_more answers Memory))
none_failed answers Device old mid new x quiet e = absurd (omega (arith, e, devices_more answers Device))

pub counted_more : (answers : List Answer) (a : Answer) (old mid new : ℕ) → AreCounted answers old mid → (a ≡ Device → Rose mid new) → ((a ≡ Device → ⊥) → new ≡ mid) → mid ≤ new → new ≤ last_count
    → AreCounted (answers ++ a ∷ []) old new
counted_more answers a old mid new x rose quiet grows most = record {
  each = few_more answers a old mid new x.each rose grows most;
  none = none_failed answers a old mid new x.none quiet;
}

-- ---- the worst of two answers

abbrev pub IsFine : Answer → Type 0
IsFine a = (a ≡ Passed) ⊎ (a ≡ Refused)

pub worse_device : (a b : Answer) → worse a b ≡ Device → (a ≡ Device) ⊎ (b ≡ Device)
worse_device Device b e = inl refl
worse_device Passed Device e = inr refl
worse_device Refused Device e = inr refl
worse_device Memory Device e = inr refl
worse_device Passed Passed e = absurd (cc)
worse_device Passed Refused e = absurd (cc)
worse_device Passed Memory e = absurd (cc)
worse_device Refused Passed e = absurd (cc)
worse_device Refused Refused e = absurd (cc)
worse_device Refused Memory e = absurd (cc)
worse_device Memory Passed e = absurd (cc)
worse_device Memory Refused e = absurd (cc)
worse_device Memory Memory e = absurd (cc)

device_fails : IsFine Device → ⊥
device_fails (inl e) = absurd (cc)
device_fails (inr e) = absurd (cc)

memory_fails : IsFine Memory → ⊥
memory_fails (inl e) = absurd (cc)
memory_fails (inr e) = absurd (cc)

pub worse_fine : (a b : Answer) → IsFine (worse a b) → IsFine a × IsFine b
worse_fine Passed Passed e = (inl refl, inl refl)
worse_fine Passed Refused e = (inl refl, inr refl)
worse_fine Refused Passed e = (inr refl, inl refl)
worse_fine Refused Refused e = (inr refl, inr refl)
worse_fine Passed Device e = absurd (device_fails e)
worse_fine Passed Memory e = absurd (memory_fails e)
worse_fine Refused Device e = absurd (device_fails e)
worse_fine Refused Memory e = absurd (memory_fails e)
worse_fine Device Passed e = absurd (device_fails e)
worse_fine Device Refused e = absurd (device_fails e)
worse_fine Device Device e = absurd (device_fails e)
worse_fine Device Memory e = absurd (device_fails e)
worse_fine Memory Passed e = absurd (memory_fails e)
worse_fine Memory Refused e = absurd (memory_fails e)
worse_fine Memory Device e = absurd (memory_fails e)
worse_fine Memory Memory e = absurd (memory_fails e)

fine_is_no_device : (a : Answer) → IsFine a → a ≡ Device → ⊥
fine_is_no_device a (inl e) d = absurd (cc)
fine_is_no_device a (inr e) d = absurd (cc)

rose_either : (old mid new : ℕ) → (old ≤ mid) → (mid ≤ new) → new ≤ last_count → Rose old mid ⊎ Rose mid new → Rose old new
rose_either old mid new a b most (inl (inl less)) = inl (omega (arith, less, b))
rose_either old mid new a b most (inl (inr end)) = inr (omega (arith, end, b, most))
rose_either old mid new a b most (inr (inl less)) = inl (omega (arith, a, less))
rose_either old mid new a b most (inr (inr end)) = inr end

blamed : (first next : Answer) (old mid new : ℕ) → (first ≡ Device → Rose old mid) → (next ≡ Device → Rose mid new) → (first ≡ Device) ⊎ (next ≡ Device) → Rose old mid ⊎ Rose mid new
blamed first next old mid new f n (inl e) = inl (f e)
blamed first next old mid new f n (inr e) = inr (n e)

pub rose_more : (first next both : Answer) (old mid new : ℕ) → both ≡ worse first next → (first ≡ Device → Rose old mid) → (next ≡ Device → Rose mid new) → old ≤ mid → mid ≤ new → new ≤ last_count → both ≡ Device → Rose old new
rose_more first next both old mid new joined f n a b most e =
    rose_either old mid new a b most (blamed first next old mid new f n (worse_device first next (sym joined ∙ e)))

pub quiet_more : (first next both : Answer) (old mid new : ℕ) → both ≡ worse first next → (IsFine first → mid ≡ old) → ((next ≡ Device → ⊥) → new ≡ mid) → IsFine both → new ≡ old
quiet_more first next both old mid new joined f n e =
    let fine = worse_fine first next (subst IsFine joined e) in
    n (fine_is_no_device next fine.1) ∙ f fine.0

-- ---- one more path

-- what stands after so many of the paths
pub record Answered (file : List ℕ → Option (List ℕ)) (work : Work) (form : Form) (paths : List (List ℕ)) (answer : Answer) (old new : ℕ) (before after : Option (List ℕ)) : Type 0 where
  pub answers : List Answer
  pub out : List ℕ
  pub are : AreAnswered file work form paths answers out
  pub answer_is : answer ≡ worst answers
  pub counted : AreCounted answers old new
  pub puts : Puts before after out

pub answered_more : (file : List ℕ → Option (List ℕ)) (work : Work) (form : Form) (paths : List (List ℕ)) (i : ℕ) (p : List ℕ) (first next both : Answer) (old mid new : ℕ) (before now after : Option (List ℕ))
    → i < length paths → p ≡ get_or paths i p → both ≡ worse first next → (next ≡ Device → Rose mid new) → ((next ≡ Device → ⊥) → new ≡ mid) → mid ≤ new → new ≤ last_count
    → Answered file work form (take i paths) first old mid before now → SendsOne work form p (file p) now after (Ok next) → Answered file work form (take (i + 1) paths) both old new before after
answered_more file work form paths i p first next both old mid new before now after inside is joined rose quiet grows most s one =
    let more : take i paths ++ p ∷ [] ≡ take (i + 1) paths = ap (λ (q : List ℕ). take i paths ++ q ∷ []) is ∙ sym (take_more paths i p inside) in
    record {
      answers = s.answers ++ next ∷ [];
      out = s.out ++ one.0;
      are = subst (λ (l : List (List ℕ)). AreAnswered file work form l (s.answers ++ next ∷ []) (s.out ++ one.0)) more
          (answered_both file work form (take i paths) (p ∷ []) s.answers (next ∷ []) s.out one.0 s.are (answered_one file work form p next one.0 one.1));
      answer_is = joined ∙ ap (λ (a : Answer). worse a next) s.answer_is ∙ sym (worst_more Passed s.answers next);
      counted = counted_more s.answers next old mid new s.counted rose quiet grows most;
      puts = puts_both before now after s.out one.0 s.puts one.2;
    }

-- the paths from the i-th on
pub at_path : (paths left : List (List ℕ)) (i : ℕ) (p : List ℕ) → i < length paths → p ≡ get_or paths i p → left ≡ drop i paths → left ≡ p ∷ drop (i + 1) paths
at_path paths left i p inside is e = e ∙ drop_more paths i p inside ∙ ap (λ (q : List ℕ). q ∷ drop (i + 1) paths) (sym is)

pub next_left : (paths old new : List (List ℕ)) (i : ℕ) → old ≡ drop i paths → new ≡ drop 1 old → new ≡ drop (i + 1) paths
next_left paths old new i e n = n ∙ ap (λ (l : List (List ℕ)). drop 1 l) e ∙ drop-drop 1 i paths

-- the output failed
pub fails_batch : (Q : Failure → Type 0) (file : List ℕ → Option (List ℕ)) (work : Work) (form : Form) (paths left : List (List ℕ)) (i : ℕ) (p : List ℕ) (first : Answer) (old mid new : ℕ) (before now after : Option (List ℕ))
    (e : Failure) (r : Result Answer Failure) → i < length paths → p ≡ get_or paths i p → left ≡ drop (i + 1) paths → mid ≤ new → new ≤ last_count → IsErrAnd r Q
    → Answered file work form (take i paths) first old mid before now → SendsOne work form p (file p) now after (Err e) → IsBatch file work form paths left old new before after r
fails_batch Q file work form paths left i p first old mid new before now after e r inside is rest grows most exit s one =
    let split : paths ≡ take i paths ++ p ∷ left =
    sym (take-append-drop i paths)
    ∙ ap (λ (l : List (List ℕ)). take i paths ++ l) (at_path paths (drop i paths) i p inside is refl)
    ∙ ap (λ (l : List (List ℕ)). take i paths ++ p ∷ l) (sym rest) in
    let q = err_from_is_err_and r exit in
    subst (λ (x : Result Answer Failure). IsBatch file work form paths left old new before after x) (sym q.1)
    (take i paths, p, s.answers, one.0, s.out, one.1, one.2, split, s.are, one.3, none_more (devices s.answers) old mid new s.counted.each grows most, puts_both before now after s.out one.1 s.puts one.4)

-- all of them were answered
pub all_answered : (file : List ℕ → Option (List ℕ)) (work : Work) (form : Form) (paths some left : List (List ℕ)) (i : ℕ) (answer : Answer) (old new : ℕ) (before after : Option (List ℕ))
    → some ≡ paths → left ≡ drop i paths → length paths ≤ i → Answered file work form some answer old new before after → IsBatch file work form paths left old new before after (Ok answer)
all_answered file work form paths some left i answer old new before after same rest all s =
    (s.answers, s.out, subst (λ (l : List (List ℕ)). AreAnswered file work form l s.answers s.out) same s.are, rest ∙ drop_all i paths all, s.answer_is, s.counted, s.puts)
