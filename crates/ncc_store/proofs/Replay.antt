-- One more call in a log: what a stop may leave, and the moments.
use Rattle.std.proofs.Common.{◌≡◌, ◌⊎◌, inl, inr, ⊎_elim, ℕ, suc, ◌+◌, ◌-◌, ◌≤◌, List, [], ◌∷◌, ◌++◌, length, take, drop, reverse, Vec, sym, ◌∙◌, ap, subst, arith, length-append, append_assoc, take-append-drop}
use Rattle.std.proofs.lemmas.List.{reverse-append, drop-drop}
use Rattle.std.specs.declared.alloc.Global.{Global}
use Rattle.ncc_store.specs.declared.log.Call.{Call}
use Rattle.ncc_store.specs.declared.log.Call.TheVariants.{Write, Sync}
use Rattle.ncc_store.specs.Store.{written, Unsynced, AfterWrite}
use Rattle.ncc_store.specs.Log.{unwritten, images_of, images_back, images_after, images_from}
use Rattle.ncc_store.specs.LogLaws.{images_stand, back_now}
use Rattle.ncc_store.proofs.Pieces.{take-written, drop-written, unsynced_written}

newest_first : {A : Type 0} (xs : List A) (x : A) → reverse (xs ++ x ∷ []) ≡ x ∷ reverse xs
newest_first xs x = reverse-append xs (x ∷ [])

-- the moments of a log go on
pub record Moments (calls later : List Call) (replaced more : List (Vec ℕ Global)) (old new : List ℕ) : Type 0 where
  pub longer : length calls ≤ length later
  pub nothing_else : (t : ℕ) (c : List ℕ) → t ≤ length calls → images_from later more new t c → images_from calls replaced old t c ⊎ images_after later more new c
  pub keeps : (t : ℕ) (c : List ℕ) → t ≤ length calls → images_from calls replaced old t c → images_from later more new t c

-- by one call, before which the bytes were old and the replaced lists those
module _ (calls : List Call) (call : Call) (replaced more : List (Vec ℕ Global)) (old new : List ℕ)
    (opens : (n : ℕ) (c : List ℕ) → images_back (suc n) (call ∷ reverse calls) (reverse more) new c → images_of (call ∷ reverse calls) (reverse more) new c ⊎ images_back n (reverse calls) (reverse replaced) old c)
    (closes : (n : ℕ) (c : List ℕ) → images_back n (reverse calls) (reverse replaced) old c → images_back (suc n) (call ∷ reverse calls) (reverse more) new c) where
  one_more : (t : ℕ) → t ≤ length calls → length (calls ++ call ∷ []) - t ≡ suc (length calls - t)
  one_more t le = omega (arith, length-append calls (call ∷ []))

  opened : (t : ℕ) (c : List ℕ) → t ≤ length calls → images_from (calls ++ call ∷ []) more new t c → images_of (call ∷ reverse calls) (reverse more) new c ⊎ images_from calls replaced old t c
  opened t c le left =
      let counted = subst (λ (m : ℕ). images_back m (reverse (calls ++ call ∷ [])) (reverse more) new c) (one_more t le) left in
      opens (length calls - t) c (subst (λ (l : List Call). images_back (suc (length calls - t)) l (reverse more) new c) (newest_first calls call) counted)

  closed : (t : ℕ) (c : List ℕ) → t ≤ length calls → images_from calls replaced old t c → images_from (calls ++ call ∷ []) more new t c
  closed t c le left =
      let listed = subst (λ (l : List Call). images_back (suc (length calls - t)) l (reverse more) new c) (sym (newest_first calls call)) (closes (length calls - t) c left) in
      subst (λ (m : ℕ). images_back m (reverse (calls ++ call ∷ [])) (reverse more) new c) (sym (one_more t le)) listed

  pushed : Moments calls (calls ++ call ∷ []) replaced more old new
  pushed = record {
    longer = omega (arith, length-append calls (call ∷ []));
    nothing_else = λ t c le left. ⊎_elim (λ here. inr (subst (λ (l : List Call). images_of l (reverse more) new c) (sym (newest_first calls call)) here)) (λ past. inl past) (opened t c le left);
    keeps = closed;
  }

  moments_to : (later : List Call) → later ≡ calls ++ call ∷ [] → Moments calls later replaced more old new
  moments_to later same = subst (λ (l : List Call). Moments calls l replaced more old new) (sym same) pushed

-- a write
module _ (old : List ℕ) (place : ℕ) (copy kept : Vec ℕ Global) (within : place ≤ length old) (is_gone : kept.items ≡ take (length copy.items) (drop place old)) where
  abbrev now : List ℕ
  now = written old place copy.items

  pub unwritten-written : unwritten place (length copy.items) kept.items now ≡ old
  unwritten-written =
      let n = length copy.items in
      ap (λ (l : List ℕ). l ++ kept.items ++ drop (place + n) now) (take-written place copy.items old within)
      ∙ ap (λ (l : List ℕ). take place old ++ l ++ drop (place + n) now) is_gone
      ∙ ap (λ (l : List ℕ). take place old ++ take n (drop place old) ++ l) (drop-written place copy.items old within)
      ∙ append_assoc (take place old) (take n (drop place old)) (drop (place + n) old)
      ∙ ap (λ (l : List ℕ). take place old ++ (take n (drop place old) ++ l)) (sym (drop-drop n place old))
      ∙ ap (λ (l : List ℕ). take place old ++ l) (take-append-drop n (drop place old))
      ∙ take-append-drop place old

  written_follows : (calls : List Call) (replaced : List (Vec ℕ Global)) (c : List ℕ) → images_of (Write place copy ∷ calls) (kept ∷ replaced) now c → AfterWrite place copy.items (images_of calls replaced old) c
  written_follows calls replaced c left =
      ⊎_elim (λ same. (old, images_stand calls replaced old, subst (Unsynced place copy.items old) (sym same) (unsynced_written place copy.items old within)))
      (λ torn. (torn.0, subst (λ (l : List ℕ). images_of calls replaced l torn.0) unwritten-written torn.1, torn.2)) left

  -- by the names that a call gives
  module _ (calls later : List Call) (replaced more : List (Vec ℕ Global)) (new : List ℕ) (is_new : new ≡ now)
      (is_later : later ≡ calls ++ Write place copy ∷ []) (is_more : more ≡ replaced ++ kept ∷ []) where
    listed : reverse more ≡ kept ∷ reverse replaced
    listed = ap reverse is_more ∙ newest_first replaced kept

    was_old : unwritten place (length copy.items) kept.items new ≡ old
    was_old = ap (unwritten place (length copy.items) kept.items) is_new ∙ unwritten-written

    opens : (n : ℕ) (c : List ℕ) → images_back (suc n) (Write place copy ∷ reverse calls) (reverse more) new c
        → images_of (Write place copy ∷ reverse calls) (reverse more) new c ⊎ images_back n (reverse calls) (reverse replaced) old c
    opens n c left =
        let split = subst (λ (l : List (Vec ℕ Global)). images_back (suc n) (Write place copy ∷ reverse calls) l new c) listed left in
        ⊎_elim (λ here. inl (subst (λ (l : List (Vec ℕ Global)). images_of (Write place copy ∷ reverse calls) l new c) (sym listed) here))
        (λ past. inr (subst (λ (l : List ℕ). images_back n (reverse calls) (reverse replaced) l c) was_old past)) split

    closes : (n : ℕ) (c : List ℕ) → images_back n (reverse calls) (reverse replaced) old c → images_back (suc n) (Write place copy ∷ reverse calls) (reverse more) new c
    closes n c left =
        let before = subst (λ (l : List ℕ). images_back n (reverse calls) (reverse replaced) l c) (sym was_old) left in
        let joined : images_back (suc n) (Write place copy ∷ reverse calls) (kept ∷ reverse replaced) new c = inr before in
        subst (λ (l : List (Vec ℕ Global)). images_back (suc n) (Write place copy ∷ reverse calls) l new c) (sym listed) joined

    pub write_moments : Moments calls later replaced more old new
    write_moments = moments_to calls (Write place copy) replaced more old new opens closes later is_later

    pub write_images : (c : List ℕ) → images_after later more new c → AfterWrite place copy.items (images_after calls replaced old) c
    write_images c left =
        let first : reverse later ≡ Write place copy ∷ reverse calls = ap reverse is_later ∙ newest_first calls (Write place copy) in
        let one = subst (λ (l : List Call). images_of l (reverse more) new c) first left in
        let two = subst (λ (l : List (Vec ℕ Global)). images_of (Write place copy ∷ reverse calls) l new c) listed one in
        let three = subst (λ (l : List ℕ). images_of (Write place copy ∷ reverse calls) (kept ∷ reverse replaced) l c) is_new two in
        written_follows (reverse calls) (reverse replaced) c three

    -- each image that the write may leave is one
    pub write_torn : (c : List ℕ) → AfterWrite place copy.items (images_after calls replaced old) c → images_after later more new c
    write_torn c torn =
        let first : reverse later ≡ Write place copy ∷ reverse calls = ap reverse is_later ∙ newest_first calls (Write place copy) in
        let before = subst (λ (l : List ℕ). images_of (reverse calls) (reverse replaced) l torn.0) (sym was_old) torn.1 in
        let one : images_of (Write place copy ∷ reverse calls) (kept ∷ reverse replaced) new c = inr (torn.0, before, torn.2) in
        let two = subst (λ (l : List (Vec ℕ Global)). images_of (Write place copy ∷ reverse calls) l new c) (sym listed) one in
        subst (λ (l : List Call). images_of l (reverse more) new c) (sym first) two

-- a sync, after which there are no more images
module _ (calls later : List Call) (replaced : List (Vec ℕ Global)) (now : List ℕ) (is_later : later ≡ calls ++ Sync ∷ []) where
  pub sync_moments : Moments calls later replaced replaced now now
  sync_moments = moments_to calls Sync replaced replaced now now (λ n c left. left) (λ n c left. inr left) later is_later

  pub sync_only : (c : List ℕ) → images_after later replaced now c → c ≡ now
  sync_only c left = subst (λ (l : List Call). images_of l (reverse replaced) now c) (ap reverse is_later ∙ newest_first calls Sync) left

  pub sync_within : (c : List ℕ) → images_after later replaced now c → images_after calls replaced now c
  sync_within c left = subst (images_after calls replaced now) (sym (sync_only c left)) (images_stand (reverse calls) (reverse replaced) now)

  pub sync_since : (t : ℕ) (c : List ℕ) → t ≤ length calls → images_from later replaced now t c → images_from calls replaced now t c
  sync_since t c le left =
      ⊎_elim (λ past. past) (λ here. back_now (length calls - t) (reverse calls) (reverse replaced) now c (sync_within c here))
      (sync_moments.nothing_else t c le left)
