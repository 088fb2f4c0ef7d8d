-- A piece that is written part by part.
use Rattle.std.proofs.Common.{◌≡◌, ◌⊎◌, inl, inr, ⊎_elim, ℕ, zero, suc, ◌+◌, ◌<◌, ◌≤◌, min, Bool, List, [], ◌∷◌, ◌++◌, length, take, drop, refl, sym, ap, subst, ◌∙◌, append_assoc, arith, length-append}
use Rattle.std.specs.Prelude.{IsTrue, Result, Ok, Err, OnErr}
use Rattle.std.proofs.lemmas.Bool.{cases_lt}
use Rattle.std.proofs.lemmas.List.{take_at, take-take, take_min, drop-drop, length-take-le, nil_from_length}
use Rattle.ncc_store.specs.Store.{written, FrontWritten, Unsynced, AfterWrite, Elapses}
use Rattle.ncc_store.proofs.Pieces.{drop-written}

-- two pieces, one after the other
module _ (old : List ℕ) (place : ℕ) (a b : List ℕ) (inside : place ≤ length old) where
  abbrev now : List ℕ
  now = written old place a

  front : take (place + length a) now ≡ take place old ++ a
  front = take_at (take place old ++ a) (drop (place + length a) old) (place + length a) (omega (arith, length-append (take place old) a, length-take-le place old inside))

  back : drop (place + length a + length b) now ≡ drop (place + length (a ++ b)) old
  back =
      sym (drop-drop (length b) (place + length a) now) ∙ ap (drop (length b)) (drop-written place a old inside)
      ∙ drop-drop (length b) (place + length a) old ∙ ap (λ (n : ℕ). drop n old) (omega (arith, length-append a b))

  pub written-written : written now (place + length a) b ≡ written old place (a ++ b)
  written-written =
      ap (λ (l : List ℕ). l ++ b ++ drop (place + length a + length b) now) front
      ∙ ap (λ (l : List ℕ). take place old ++ a ++ b ++ l) back
      ∙ ap (λ (l : List ℕ). l ++ drop (place + length (a ++ b)) old) (append_assoc (take place old) a b)

take_past : (first rest : List ℕ) (n k : ℕ) → k ≡ length first + n → take k (first ++ rest) ≡ first ++ take n rest
take_past [] rest n k is = ap (λ (m : ℕ). take m rest) (omega (arith, is))
take_past (x ∷ first) rest n zero is = absurd (omega (arith, is))
take_past (x ∷ first) rest n (suc k) is = ap (λ (l : List ℕ). x ∷ l) (take_past first rest n k (omega (arith, is)))

-- ---- what a stop may leave of it

unsynced_same : (place : ℕ) (piece d : List ℕ) → Unsynced place piece d d
unsynced_same place piece d = record {
  before = take_min place d;
  after = refl;
  no_shorter = omega arith;
  no_longer = omega arith;
  whole = λ short inside. inl refl;
}

-- of a long piece, and then of its end once more
unsynced_next : (place at : ℕ) (piece rest d c e : List ℕ) → 8 < length piece → place ≤ at → at + length rest ≡ place + length piece → Unsynced place piece d c → Unsynced at rest c e → Unsynced place piece d e
unsynced_next place at piece rest d c e long behind end first second =
    let m = min place (length d) in
    let shorter : m ≤ min at (length c) = omega (arith, behind, first.no_shorter) in
    let same : take m e ≡ take m c = sym (take-take m (min at (length c)) e shorter) ∙ ap (λ (l : List ℕ). take m l) second.before ∙ take-take m at c (omega (arith, behind)) in
    record {
      before = same ∙ first.before;
      after = ap (λ (k : ℕ). drop k e) (sym end) ∙ second.after ∙ ap (λ (k : ℕ). drop k c) end ∙ first.after;
      no_shorter = omega (arith, first.no_shorter, second.no_shorter);
      no_longer = omega (arith, first.no_longer, second.no_longer, end);
      whole = λ short inside. absurd (omega arith);
    }

module _ {S : Type 0} (images : S → List ℕ → Type 0) (moment : S → ℕ) (images_since : S → ℕ → List ℕ → Type 0) where
  pub elapses_none : (old : S) (place : ℕ) (piece : List ℕ) → Elapses images moment images_since old old (AfterWrite place piece (images old))
  elapses_none old place piece = record {
    later = omega arith;
    now = λ c here. (c, here, unsynced_same place piece c);
    nothing_else = λ t c le left. inl left;
    keeps = λ t c le left. left;
  }

  elapses_next : (old mid new : S) (place at : ℕ) (piece rest : List ℕ) → 8 < length piece → place ≤ at → at + length rest ≡ place + length piece
      → Elapses images moment images_since old mid (AfterWrite place piece (images old)) → Elapses images moment images_since mid new (AfterWrite at rest (images mid))
      → Elapses images moment images_since old new (AfterWrite place piece (images old))
  elapses_next old mid new place at piece rest long behind end first second =
      let both : (c : List ℕ) → AfterWrite at rest (images mid) c → AfterWrite place piece (images old) c = λ c after.
      let before = first.now after.0 after.1 in
      (before.0, before.1, unsynced_next place at piece rest before.0 after.0 c long behind end before.2 after.2) in
      record {
        later = omega (arith, first.later, second.later);
        now = λ c here. both c (second.now c here);
        nothing_else = λ t c le left. ⊎_elim (first.nothing_else t c le) (λ q. inr (both c q)) (second.nothing_else t c (omega (arith, le, first.later)) left);
        keeps = λ t c le left. second.keeps t c (omega (arith, le, first.later)) (first.keeps t c le left);
      }

  -- nothing is written yet, or a front of a long piece, or all
  pub record WrittenSoFar (tells : Bool) (bytes : S → List ℕ) (old now : S) (place at : ℕ) (piece rest : List ℕ) : Type 0 where
    pub front : List ℕ
    pub joined : piece ≡ front ++ rest
    pub behind : at ≡ place + length front
    pub puts : IsTrue tells → bytes now ≡ written (bytes old) place front
    pub runs : Elapses images moment images_since old now (AfterWrite place piece (images old))
    pub first : (now ≡ old) × (front ≡ []) ⊎ (8 < length piece) ⊎ (rest ≡ [])

  -- one write more of what is left, which may have failed
  pub runs_on : (tells : Bool) (bytes : S → List ℕ) (old mid new : S) (place at : ℕ) (piece rest : List ℕ) → WrittenSoFar tells bytes old mid place at piece rest → 0 < length rest
      → Elapses images moment images_since mid new (AfterWrite at rest (images mid)) → Elapses images moment images_since old new (AfterWrite place piece (images old))
  runs_on tells bytes old mid new place at piece rest s some call =
      let end : at + length rest ≡ place + length piece = omega (arith, s.behind, ap length s.joined, length-append s.front rest) in
      ⊎_elim
      (λ none.
      let here : at ≡ place = omega (arith, s.behind, ap length none.1) in
      let all : rest ≡ piece = sym (s.joined ∙ ap (λ (l : List ℕ). l ++ rest) none.1) in
      subst (λ (k : ℕ). Elapses images moment images_since old new (AfterWrite k piece (images old))) here
      (subst (λ (l : List ℕ). Elapses images moment images_since old new (AfterWrite at l (images old))) all
      (subst (λ (m : S). Elapses images moment images_since m new (AfterWrite at rest (images m))) none.0 call)))
      (λ more. ⊎_elim (λ long. elapses_next old mid new place at piece rest long (omega (arith, s.behind)) end s.runs call)
      (λ gone. absurd (omega (arith, some, ap length gone))) more)
      s.first

  long_or_all : (tells : Bool) (bytes : S → List ℕ) (old mid new : S) (place at : ℕ) (piece rest part after : List ℕ) (s : WrittenSoFar tells bytes old mid place at piece rest) → 0 < length rest → rest ≡ part ++ after
      → (length rest ≤ 8 → length part ≡ length rest) → (new ≡ old) × (s.front ++ part ≡ []) ⊎ (8 < length piece) ⊎ (after ≡ [])
  long_or_all tells bytes old mid new place at piece rest part after s some e short =
      ⊎_elim
      (λ none. ⊎_elim (λ long. inr (inl (omega (arith, long, ap length s.joined, length-append s.front rest))))
      (λ few. inr (inr (nil_from_length after (omega (arith, short few, ap length e, length-append part after))))) (cases_lt 8 (length rest)))
      (λ more. ⊎_elim (λ long. inr (inl long)) (λ gone. absurd (omega (arith, some, ap length gone))) more)
      s.first

  pub written_more : (tells : Bool) (bytes : S → List ℕ) (old mid new : S) (place at next : ℕ) (piece rest part after : List ℕ) → WrittenSoFar tells bytes old mid place at piece rest → 0 < length rest
      → (IsTrue tells → place ≤ length (bytes old)) → rest ≡ part ++ after → next ≡ at + length part → (length rest ≤ 8 → length part ≡ length rest)
      → (IsTrue tells → bytes new ≡ written (bytes mid) at part) → Elapses images moment images_since mid new (AfterWrite at rest (images mid)) → WrittenSoFar tells bytes old new place next piece after
  written_more tells bytes old mid new place at next piece rest part after s some inside e n short puts call = record {
    front = s.front ++ part;
    joined = s.joined ∙ ap (λ (z : List ℕ). s.front ++ z) e ∙ sym (append_assoc s.front part after);
    behind = omega (arith, s.behind, n, length-append s.front part);
    puts = λ told. puts told ∙ ap (λ (l : List ℕ). written l at part) (s.puts told) ∙ ap (λ (k : ℕ). written (written (bytes old) place s.front) k part) s.behind
        ∙ written-written (bytes old) place s.front part (inside told);
    runs = runs_on tells bytes old mid new place at piece rest s some call;
    first = long_or_all tells bytes old mid new place at piece rest part after s some e short;
  }

  -- the next write failed, and did a front
  pub failed_so_far : (tells : Bool) (bytes : S → List ℕ) (old mid new : S) (place at : ℕ) (piece rest : List ℕ) → WrittenSoFar tells bytes old mid place at piece rest → 0 < length rest → IsTrue tells
      → (IsTrue tells → place ≤ length (bytes old)) → FrontWritten (bytes mid) at rest (bytes new) → FrontWritten (bytes old) place piece (bytes new)
  failed_so_far tells bytes old mid new place at piece rest s some told inside part =
      let size : length piece ≡ length s.front + length rest = ap length s.joined ∙ length-append s.front rest in
      let front = take part.done rest in
      record {
        done = length s.front + part.done;
        within = omega (arith, size, part.within);
        is = part.is ∙ ap (λ (l : List ℕ). written l at front) (s.puts told) ∙ ap (λ (k : ℕ). written (written (bytes old) place s.front) k front) s.behind
            ∙ written-written (bytes old) place s.front front (inside told)
            ∙ ap (λ (l : List ℕ). written (bytes old) place l) (sym (ap (λ (l : List ℕ). take (length s.front + part.done) l) s.joined ∙ take_past s.front rest part.done _ refl));
        whole = λ short. ⊎_elim
            (λ none.
            let nothing : length s.front ≡ 0 = ap length none.1 in
            ⊎_elim (λ zero. inl (omega (arith, nothing, zero))) (λ all. inr (omega (arith, nothing, all, size))) (part.whole (omega (arith, size, short))))
            (λ more. ⊎_elim (λ long. absurd (omega (arith, long, short))) (λ gone. absurd (omega (arith, some, ap length gone))) more) s.first;
      }

  -- one more call of a short piece is the first
  pub one_call : (calls : S → ℕ) (tells : Bool) (bytes : S → List ℕ) (old mid new : S) (place at : ℕ) (piece rest : List ℕ) → WrittenSoFar tells bytes old mid place at piece rest → 0 < length rest
      → calls new ≤ calls mid + 1 → length piece ≤ 8 → calls new ≤ calls old + 1
  one_call calls tells bytes old mid new place at piece rest s some once short = ⊎_elim
      (λ none. subst (λ (m : S). calls new ≤ calls m + 1) none.0 once)
      (λ more. ⊎_elim (λ long. absurd (omega (arith, long, short))) (λ gone. absurd (omega (arith, some, ap length gone))) more) s.first

pub on_err : {T E P : Type 0} (result : Result T E) → P → OnErr result P
on_err (Ok x) p = tt
on_err (Err e) p = p
