-- Notes on the places of variables.
use Rattle.std.proofs.Common.{◌≡◌, ◌≢◌, ℕ, ◌+◌, ◌-◌, ◌%◌, ◌<◌, ◌≤◌, Bool, true, false, List, [], ◌∷◌, length, get_or, refl, sym, ap, subst, ◌∙◌, ◌⊎◌, inl, inr, arith, eqb, ltb, true≢false}
use Rattle.std.specs.Prelude.{IsTrue, not, max, slice_get, Some, if◌then◌else◌}
use Rattle.std.proofs.lemmas.Bool.{cases_lt, eqb-true, eq-eqb, ltb-true, lt-ltb}
use Rattle.std.proofs.lemmas.List.{length-map, get_or-map}
use Rattle.std.proofs.lemmas.Option.{slice_get-get_or}
use Rattle.ncc_values.specs.Version.{count_width_of}
use Rattle.ncc_values.specs.declared.version.Version.{Version}
use Rattle.ncc_schema.specs.declared.schema.Dim.{Dim}
use Rattle.ncc_schema.specs.declared.schema.Schema.{Schema}
use Rattle.ncc_schema.specs.declared.schema.Var.{Var}
use Rattle.ncc_schema.specs.declared.schema.VarPlace.{VarPlace}
use Rattle.ncc_schema.specs.Schema as spelled
use Rattle.ncc_layout.specs.Placed.{begin_field}
use Rattle.ncc_schema.specs.Schema.{is_record_var, starts_with_record}
use Rattle.ncc_layout.specs.Standard.{vsize_word}
use Rattle.ncc_check.specs.declared.note.Note.{Note}
use Rattle.ncc_check.specs.declared.note.NoteKind.{NoteKind}
use Rattle.ncc_check.specs.declared.note.NoteKind.TheVariants.{VsizeField, UnalignedBegin, Order}
use Rattle.ncc_check.specs.Notes.{vsizes}
use Rattle.ncc_check.specs.Noting.{Adds, NoteIf, Below, PlaceNotes, PlaceNotesAt, IsSwapped, IsGreatest, begins_of, kinds_of}
use Rattle.ncc_check.proofs.Joining.{as_well, both_join, note_as, one_more}
use Rattle.ncc_check.proofs.Repeats.{untrue, not_true}

-- ---- one place

pub one_place : (v : Version) (p : VarPlace) (rounded g word at : ℕ) (xs ys zs ws : List Note) → word ≡ vsize_word v rounded → at ≡ p.begin_at - count_width_of v
    → Adds (NoteIf (IsTrue (not (eqb p.vsize word))) VsizeField at) xs ys → Adds (NoteIf (IsTrue (not (eqb (p.begin % 4) 0))) UnalignedBegin p.begin_at) ys zs → Adds (NoteIf (IsTrue (ltb p.begin g)) Order p.begin_at) zs ws
    → Adds (PlaceNotes v p rounded g) xs ws
one_place v p rounded g word at xs ys zs ws is stands a b c =
    let size = note_as (IsTrue (not (eqb p.vsize word))) (p.vsize ≢ vsize_word v rounded) VsizeField VsizeField at (p.begin_at - count_width_of v) xs ys
    (λ t e. untrue (eqb p.vsize word) t (eq-eqb p.vsize word (e ∙ sym is)))
    (λ n. not_true (eqb p.vsize word) (λ t. n (eqb-true p.vsize word t ∙ is)))
    refl stands a in
    let unaligned = note_as (IsTrue (not (eqb (p.begin % 4) 0))) (p.begin % 4 ≢ 0) UnalignedBegin UnalignedBegin p.begin_at p.begin_at ys zs
    (λ t e. untrue (eqb (p.begin % 4) 0) t (eq-eqb (p.begin % 4) 0 e))
    (λ n. not_true (eqb (p.begin % 4) 0) (λ t. n (eqb-true (p.begin % 4) 0 t)))
    refl refl b in
    let swapped = note_as (IsTrue (ltb p.begin g)) (p.begin < g) Order Order p.begin_at p.begin_at zs ws (ltb-true p.begin g) (lt-ltb p.begin g) refl refl c in
    both_join (NoteIf (p.vsize ≢ vsize_word v rounded) VsizeField (p.begin_at - count_width_of v)) (λ n. NoteIf (p.begin % 4 ≢ 0) UnalignedBegin p.begin_at n ⊎ NoteIf (p.begin < g) Order p.begin_at n) xs ys ws size
    (both_join (NoteIf (p.begin % 4 ≢ 0) UnalignedBegin p.begin_at) (NoteIf (p.begin < g) Order p.begin_at) ys zs ws unaligned swapped)

-- ---- among those before it

record_too : (dims : List Dim) (ids : List ℕ) → spelled.starts_with_record dims ids ≡ starts_with_record dims ids
record_too dims [] = refl
record_too dims (n ∷ ns) = refl

pub kind_at : (s : Schema) (i : ℕ) (x : Var) (kind : Bool) → i < length s.vars → x ≡ get_or s.vars i x → kind ≡ spelled.is_record_var s.dims x → slice_get (kinds_of s) i ≡ Some kind
kind_at s i x kind below is e =
    slice_get-get_or (kinds_of s) i false (omega (arith, below, length-map s.vars (is_record_var s.dims)))
    ∙ ap (λ (b : Bool). Some b) (get_or-map (is_record_var s.dims) s.vars i x false below ∙ ap (is_record_var s.dims) (sym is) ∙ sym (record_too s.dims x.dims) ∙ sym e)

pub is_out_of_order : (kinds : List Bool) (places : List VarPlace) (i : ℕ) (kind : Bool) (g : ℕ) → slice_get kinds i ≡ Some kind → IsGreatest kinds places i kind g → get_or (begins_of places) i 0 < g → IsSwapped kinds places i
is_out_of_order kinds places i kind g here t less = by t.met
  where
    by : (g ≡ 0) ⊎ ((k : ℕ) × (k < i) × (slice_get kinds k ≡ Some kind) × (get_or (begins_of places) k 0 ≡ g)) → IsSwapped kinds places i
    by (inl none) = absurd (omega (arith, none, less))
    by (inr (k, below, same, is)) = (k, below, same ∙ sym here, omega (arith, is, less))

pub begins_less : (kinds : List Bool) (places : List VarPlace) (i : ℕ) (kind : Bool) (g : ℕ) → slice_get kinds i ≡ Some kind → IsGreatest kinds places i kind g → IsSwapped kinds places i → get_or (begins_of places) i 0 < g
begins_less kinds places i kind g here t (j, below, same, less) = let most = t.bound j below (same ∙ here) in omega (arith, most, less)

pub one_more_place : (v : Version) (kinds : List Bool) (sizes : List ℕ) (places : List VarPlace) (i : ℕ) (d : VarPlace) (kind : Bool) (g : ℕ) (xs ys zs : List Note) → i < length places → slice_get kinds i ≡ Some kind → IsGreatest kinds places i kind g
    → Adds (Below (PlaceNotesAt v kinds sizes places) i) xs ys → Adds (PlaceNotes v (get_or places i d) (get_or sizes i 0) g) ys zs → Adds (Below (PlaceNotesAt v kinds sizes places) (i + 1)) xs zs
one_more_place v kinds sizes places i d kind g xs ys zs below here t a b =
    one_more (PlaceNotesAt v kinds sizes places) i xs ys zs a (as_well (PlaceNotes v (get_or places i d) (get_or sizes i 0) g) (PlaceNotesAt v kinds sizes places i) ys zs to from b)
  where
    p : VarPlace
    p = get_or places i d

    vsize : get_or (vsizes places) i 0 ≡ (get_or places i d).vsize
    vsize = get_or-map (λ (y : VarPlace). y.vsize) places i d 0 below

    begin : get_or (begins_of places) i 0 ≡ (get_or places i d).begin
    begin = get_or-map (λ (y : VarPlace). y.begin) places i d 0 below

    at : begin_field places i ≡ (get_or places i d).begin_at
    at = get_or-map (λ (y : VarPlace). y.begin_at) places i d 0 below

    moved : (A B : Type 0) (k : NoteKind) (m o : ℕ) (n : Note) → (A → B) → m ≡ o → NoteIf A k m n → NoteIf B k o n
    moved A B k m o n f e q = record { is_due = f q.is_due; is = q.is ∙ (λ j. record { kind = k; offset = e j }) }

    to : (n : Note) → PlaceNotes v (get_or places i d) (get_or sizes i 0) g n → PlaceNotesAt v kinds sizes places i n
    to n (inl q) = inl (moved _ _ VsizeField _ _ n (λ other e. other (sym vsize ∙ e)) (ap (λ o. o - count_width_of v) (sym at)) q)
    to n (inr (inl q)) = inr (inl (moved _ _ UnalignedBegin _ _ n (λ other e. other (ap (λ o. o % 4) (sym begin) ∙ e)) (sym at) q))
    to n (inr (inr q)) = inr (inr (moved _ _ Order _ _ n (λ less. is_out_of_order kinds places i kind g here t (omega (arith, less, begin))) (sym at) q))

    from : (n : Note) → PlaceNotesAt v kinds sizes places i n → PlaceNotes v (get_or places i d) (get_or sizes i 0) g n
    from n (inl q) = inl (moved _ _ VsizeField _ _ n (λ other e. other (vsize ∙ e)) (ap (λ o. o - count_width_of v) at) q)
    from n (inr (inl q)) = inr (inl (moved _ _ UnalignedBegin _ _ n (λ other e. other (ap (λ o. o % 4) begin ∙ e)) at q))
    from n (inr (inr q)) = inr (inr (moved _ _ Order _ _ n (λ s. let less = begins_less kinds places i kind g here t s in omega (arith, less, begin)) at q))

-- ---- the greatest begin

pub none_greatest : (kinds : List Bool) (places : List VarPlace) (kind : Bool) → IsGreatest kinds places 0 kind 0
none_greatest kinds places kind = record { bound = λ k below. absurd (omega (arith, below)); met = inl refl }

last : (i k : ℕ) → k < i + 1 → i ≤ k → k ≡ i
last i k below le = omega (arith, below, le)

grown : (kinds : List Bool) (places : List VarPlace) (i : ℕ) (kind : Bool) (g begin : ℕ) → slice_get kinds i ≡ Some kind → get_or (begins_of places) i 0 ≡ begin → IsGreatest kinds places i kind g → IsGreatest kinds places (i + 1) kind (max g begin)
grown kinds places i kind g begin here is t = record { bound = λ k below same. at k below same (cases_lt k i); met = met t.met (cases_lt g begin) }
  where
    at : (k : ℕ) → k < i + 1 → slice_get kinds k ≡ Some kind → (k < i) ⊎ (i ≤ k) → get_or (begins_of places) k 0 ≤ max g begin
    at k below same (inl less) = let most = t.bound k less same in omega (arith, most)
    at k below same (inr le) = let value = ap (λ j. get_or (begins_of places) j 0) (last i k below le) in omega (arith, value, is)

    met : (g ≡ 0) ⊎ ((k : ℕ) × (k < i) × (slice_get kinds k ≡ Some kind) × (get_or (begins_of places) k 0 ≡ g)) → (g < begin) ⊎ (begin ≤ g)
        → (max g begin ≡ 0) ⊎ ((k : ℕ) × (k < i + 1) × (slice_get kinds k ≡ Some kind) × (get_or (begins_of places) k 0 ≡ max g begin))
    met m (inl less) = inr (i, omega arith, here, omega (arith, is, less))
    met (inl none) (inr le) = inl (omega (arith, none, le))
    met (inr (k, below, same, value)) (inr le) = inr (k, omega (arith, below), same, omega (arith, value, le))

unmoved : (kinds : List Bool) (places : List VarPlace) (i : ℕ) (kind other : Bool) (g : ℕ) → slice_get kinds i ≡ Some kind → (kind ≡ other → ⊥) → IsGreatest kinds places i other g → IsGreatest kinds places (i + 1) other g
unmoved kinds places i kind other g here differ t = record { bound = λ k below same. at k below same (cases_lt k i); met = met t.met }
  where
    at : (k : ℕ) → k < i + 1 → slice_get kinds k ≡ Some other → (k < i) ⊎ (i ≤ k) → get_or (begins_of places) k 0 ≤ g
    at k below same (inl less) = t.bound k less same
    at k below same (inr le) =
        let both : Some kind ≡ Some other = sym here ∙ sym (ap (λ j. slice_get kinds j) (last i k below le)) ∙ same in
        absurd (differ cc)

    met : (g ≡ 0) ⊎ ((k : ℕ) × (k < i) × (slice_get kinds k ≡ Some other) × (get_or (begins_of places) k 0 ≡ g))
        → (g ≡ 0) ⊎ ((k : ℕ) × (k < i + 1) × (slice_get kinds k ≡ Some other) × (get_or (begins_of places) k 0 ≡ g))
    met (inl none) = inl none
    met (inr (k, below, same, value)) = inr (k, omega (arith, below), same, value)

-- the greatest begins of both kinds, with one more
pub with_one : (kinds : List Bool) (places : List VarPlace) (i : ℕ) (kind : Bool) (f r f' r' begin : ℕ) → slice_get kinds i ≡ Some kind → get_or (begins_of places) i 0 ≡ begin
    → f' ≡ (if kind then f else max f begin) → r' ≡ (if kind then max r begin else r)
    → IsGreatest kinds places i false f → IsGreatest kinds places i true r → (other : Bool) → IsGreatest kinds places (i + 1) other (if other then r' else f')
with_one kinds places i true f r f' r' begin here is fe re a b false = subst (IsGreatest kinds places (i + 1) false) (sym fe) (unmoved kinds places i true false f here true≢false a)
with_one kinds places i true f r f' r' begin here is fe re a b true = subst (IsGreatest kinds places (i + 1) true) (sym re) (grown kinds places i true r begin here is b)
with_one kinds places i false f r f' r' begin here is fe re a b false = subst (IsGreatest kinds places (i + 1) false) (sym fe) (grown kinds places i false f begin here is a)
with_one kinds places i false f r f' r' begin here is fe re a b true = subst (IsGreatest kinds places (i + 1) true) (sym re) (unmoved kinds places i false true r here (λ e. true≢false (sym e)) b)

pub none_both : (kinds : List Bool) (places : List VarPlace) (kind : Bool) → IsGreatest kinds places 0 kind (if kind then 0 else 0)
none_both kinds places true = none_greatest kinds places true
none_both kinds places false = none_greatest kinds places false
