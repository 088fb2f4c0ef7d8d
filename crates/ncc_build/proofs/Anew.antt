-- A schema built anew: a run over items, each refused or added, and the items of a schema one by one.
use Rattle.std.proofs.Common.{◌≡◌, ◌↔◌, ℕ, zero, suc, ◌+◌, ◌<◌, List, [], ◌∷◌, ◌++◌, length, get_or, drop, Option, Some, None, Result, Ok, Err, inl, inr, refl, sym, ap, subst, ◌∙◌, add-one, drop-cons, append_assoc}
use Rattle.std.specs.Prelude.{◌⊎◌}
use Rattle.std.specs.Result.{IsErrAnd}
use Rattle.std.proofs.lemmas.Result.{err_from_is_err_and}
use Rattle.std.proofs.lemmas.List.{append-nil}
use Rattle.ncc_values.specs.Name.{is_name}
use Rattle.ncc_values.specs.declared.values.Values.{Values}
use Rattle.ncc_values.specs.declared.version.Version.{Version}
use Rattle.ncc_schema.specs.declared.schema.Attr.{Attr}
use Rattle.ncc_schema.specs.declared.schema.Var.{Var}
use Rattle.ncc_schema.specs.declared.schema.Schema.{Schema}
use Rattle.ncc_schema.specs.Schema.{with_count}
use Rattle.ncc_build.specs.Dataset.{with_version}
use Rattle.ncc_build.specs.declared.fault.WriteFault.{WriteFault}
use Rattle.ncc_build.specs.declared.fault.WriteFault.TheVariants.{BadName, DuplicateName, TwoRecordDims, BadDimId, RecordDimNotFirst, TypeForVersion, CountForVersion, OffsetForVersion, SizeForVersion, WrongType, TooManyValues, Unfinished, Failed, Complete, Device, Memory}
use Rattle.ncc_build.specs.Building.{or_else, refuses_vars, refuses_whole, refuses_var, refuses_attrs, refuses_schema, with_var, with_attrs, with_whole, var_with, vars_with, IsJudged, BuildFails, BuildFailsOr, RebuildsAs}

-- ---- one refusal before another

or_else_none : {T : Type 0} (one later : Option WriteFault) (x : T) → IsJudged one (Ok x) → or_else one later ≡ later
or_else_none None later x passed = refl
or_else_none (Some f) later x passed = absurd passed

or_else_first : (S T : Type 0) (one later : Option WriteFault) (e : WriteFault) → IsJudged {T = S} one (Err e) → IsJudged {T = T} (or_else one later) (Err e)
or_else_first S T None None e is = is
or_else_first S T None (Some f) e is = inr is
or_else_first S T (Some f) later e judged = judged

or_else_assoc : (one two later : Option WriteFault) → or_else (or_else one two) later ≡ or_else one (or_else two later)
or_else_assoc None two later = refl
or_else_assoc (Some f) two later = refl

-- what the first refuses is refused, and so at the exit with its error
pub refused_first : (S : Type 0) {T : Type 0} (one later : Option WriteFault) (e : WriteFault) (r : Result T WriteFault) → IsErrAnd r (λ y. y ≡ e) → IsJudged {T = S} one (Err e) → IsJudged (or_else one later) r
refused_first S {T} one later e r exit judged =
    let p = err_from_is_err_and r exit in
    subst (IsJudged (or_else one later)) (sym (p.1 ∙ ap Err p.2)) (or_else_first S T one later e judged)

pub judged_later : {S T : Type 0} (one later : Option WriteFault) (x : S) (r : Result T WriteFault) → IsJudged one (Ok x) → IsJudged later r → IsJudged (or_else one later) r
judged_later one later x r passed judged = subst (λ (o : Option WriteFault). IsJudged o r) (sym (or_else_none one later x passed)) judged

judged_by : {T : Type 0} (one two : Option WriteFault) (r : Result T WriteFault) → one ≡ two → IsJudged two r → IsJudged one r
judged_by one two r same judged = subst (λ (o : Option WriteFault). IsJudged o r) (sym same) judged

-- ---- a run over items

next_item : {A : Type 0} (xs : List A) (i : ℕ) (x d : A) → i < length xs → x ≡ get_or xs i d → drop i xs ≡ x ∷ drop (i + 1) xs
next_item {A = A} xs i x d h e = rw (add-one, drop-cons xs i d) (ap (λ (y : A). y ∷ drop (suc i) xs) (sym e))

-- of what is refused of all items only the rest can be
module _ {A : Type 0} (refuse : Schema → A → Option WriteFault) (step : Schema → A → Schema) (refuses : Schema → List A → Option WriteFault)
    (more : (s : Schema) (x : A) (xs : List A) → refuses s (x ∷ xs) ≡ or_else (refuse s x) (refuses (step s x) xs))
    (first now : Schema) (items : List A) (i : ℕ) (is : refuses first items ≡ refuses now (drop i items)) where
  item_next : (item d : A) → i < length items → item ≡ get_or items i d → refuses first items ≡ or_else (refuse now item) (refuses (step now item) (drop (i + 1) items))
  item_next item d below there = is ∙ ap (refuses now) (next_item items i item d below there) ∙ more now item (drop (i + 1) items)

  pub item_refused : (S : Type 0) {T : Type 0} (item d : A) (e : WriteFault) (r : Result T WriteFault) → i < length items → item ≡ get_or items i d → IsErrAnd r (λ y. y ≡ e) → IsJudged {T = S} (refuse now item) (Err e)
      → IsJudged (refuses first items) r
  item_refused S item d e r below there exit judged =
      judged_by (refuses first items) (or_else (refuse now item) (refuses (step now item) (drop (i + 1) items))) r (item_next item d below there)
      (refused_first S (refuse now item) (refuses (step now item) (drop (i + 1) items)) e r exit judged)

  pub item_passed : {T : Type 0} (item d : A) (after : Schema) (x : T) → i < length items → item ≡ get_or items i d → IsJudged (refuse now item) (Ok x) → after ≡ step now item
      → refuses first items ≡ refuses after (drop (i + 1) items)
  item_passed item d after x below there passed grown =
      item_next item d below there ∙ or_else_none (refuse now item) (refuses (step now item) (drop (i + 1) items)) x passed
      ∙ ap (λ (s : Schema). refuses s (drop (i + 1) items)) (sym grown)

-- what the rest gives is what all items give
module _ {A : Type 0} (step : Schema → A → Schema) (adds : Schema → List A → Schema)
    (more : (s : Schema) (x : A) (xs : List A) → adds s (x ∷ xs) ≡ adds (step s x) xs)
    (first now : Schema) (items : List A) (i : ℕ) (is : adds first items ≡ adds now (drop i items)) where
  pub item_added : (item d : A) (after : Schema) → i < length items → item ≡ get_or items i d → after ≡ step now item → adds first items ≡ adds after (drop (i + 1) items)
  item_added item d after below there grown =
      is ∙ ap (adds now) (next_item items i item d below there) ∙ more now item (drop (i + 1) items) ∙ ap (λ (s : Schema). adds s (drop (i + 1) items)) (sym grown)

-- ---- items behind items

module _ {A : Type 0} (put : List A → Schema) where
  pub put_more : (xs : List A) (x : A) (rest : List A) → put (xs ++ (x ∷ rest)) ≡ put ((xs ++ x ∷ []) ++ rest)
  put_more xs x rest = ap put (sym (append_assoc xs (x ∷ []) rest))

-- ---- the attributes of the last variable

attr_of_last : (vars : List Var) (x : Var) (name : List ℕ) (values : Values) → vars_with (vars ++ x ∷ []) (length vars) name values ≡ vars ++ var_with x name values ∷ []
attr_of_last [] x name values = refl
attr_of_last (y ∷ vars) x name values = ap (λ (xs : List Var). y ∷ xs) (attr_of_last vars x name values)

pub length_with : (vars : List Var) (n : ℕ) (name : List ℕ) (values : Values) → length (vars_with vars n name values) ≡ length vars
length_with [] n name values = refl
length_with (x ∷ vars) zero name values = refl
length_with (x ∷ vars) (suc n) name values = ap suc (length_with vars n name values)

attrs_of_last : (s : Schema) (x : Var) (attrs : List Attr) → with_attrs (with_whole s x) (length s.vars) attrs ≡ with_whole s (record { name = x.name; dims = x.dims; attrs = x.attrs ++ attrs; xtype = x.xtype })
attrs_of_last s x [] = ap (λ (gs : List Attr). with_whole s (record { name = x.name; dims = x.dims; attrs = gs; xtype = x.xtype })) (sym (append-nil x.attrs))
attrs_of_last s x (a ∷ attrs) =
    ap (λ (xs : List Var). with_attrs (record { version = s.version; count = s.count; dims = s.dims; gatts = s.gatts; vars = xs }) (length s.vars) attrs) (attr_of_last s.vars x a.name a.values)
    ∙ attrs_of_last s (var_with x a.name a.values) attrs
    ∙ ap (λ (gs : List Attr). with_whole s (record { name = x.name; dims = x.dims; attrs = gs; xtype = x.xtype })) (append_assoc x.attrs (a ∷ []) attrs)

-- a variable, and then its attributes, are the whole of it
pub whole_is : (s : Schema) (x : Var) → with_attrs (with_var s x.name x.xtype x.dims) (length s.vars) x.attrs ≡ with_whole s x
whole_is s x = attrs_of_last s (record { name = x.name; dims = x.dims; attrs = []; xtype = x.xtype }) x.attrs

pub vars_more : (s : Schema) (x : Var) (vars : List Var) → refuses_vars s (x ∷ vars) ≡ or_else (refuses_whole s x) (refuses_vars (with_whole s x) vars)
vars_more s x vars =
    sym (or_else_assoc (refuses_var (is_name x.name) s x.name x.xtype x.dims) (refuses_attrs (with_var s x.name x.xtype x.dims) (length s.vars) x.attrs) (refuses_vars (with_whole s x) vars))

-- ---- the build

-- how many records there were doesn't matter to it
fails_same : (s : Schema) (n : ℕ) (e : WriteFault) → BuildFails (with_count s 0) n e ↔ BuildFails s n e
fails_same s n BadName = ((λ h. h), (λ h. h))
fails_same s n DuplicateName = ((λ h. h), (λ h. h))
fails_same s n TwoRecordDims = ((λ h. h), (λ h. h))
fails_same s n BadDimId = ((λ h. h), (λ h. h))
fails_same s n RecordDimNotFirst = ((λ h. h), (λ h. h))
fails_same s n TypeForVersion = ((λ h. h), (λ h. h))
fails_same s n CountForVersion = ((λ h. h), (λ h. h))
fails_same s n OffsetForVersion = ((λ h. h), (λ h. h))
fails_same s n SizeForVersion = ((λ h. h), (λ h. h))
fails_same s n WrongType = ((λ h. h), (λ h. h))
fails_same s n TooManyValues = ((λ h. h), (λ h. h))
fails_same s n Unfinished = ((λ h. h), (λ h. h))
fails_same s n Failed = ((λ h. h), (λ h. h))
fails_same s n Complete = ((λ h. h), (λ h. h))
fails_same s n Device = ((λ h. h), (λ h. h))
fails_same s n Memory = ((λ h. h), (λ h. h))

-- a refusal of an item is one of the whole
refusal_of_item : (S T : Type 0) (v : Version) (s : Schema) (n : ℕ) (one : Option WriteFault) (e : WriteFault) → refuses_schema v s ≡ one → IsJudged {T = S} one (Err e) → RebuildsAs {T = T} v s n (Err e)
refusal_of_item S T v s n None e is memory = inl memory
refusal_of_item S T v s n (Some f) e is (inl same) = inr (inl (is ∙ ap Some (sym same)))
refusal_of_item S T v s n (Some f) e is (inr memory) = inl memory

pub refused_by_item : (S : Type 0) {T : Type 0} (v w : Version) (s : Schema) (n : ℕ) (e : WriteFault) (r : Result T WriteFault) → w ≡ v → IsErrAnd r (λ y. y ≡ e)
    → IsJudged {T = S} (refuses_schema w s) (Err e) → RebuildsAs v s n r
refused_by_item S {T} v w s n e r same exit judged =
    let p = err_from_is_err_and r exit in
    let here : IsJudged {T = S} (refuses_schema v s) (Err e) = subst (λ (u : Version). IsJudged {T = S} (refuses_schema u s) (Err e)) same judged in
    subst (RebuildsAs v s n) (sym (p.1 ∙ ap Err p.2)) (refusal_of_item S T v s n (refuses_schema v s) e refl here)

-- all calls passed, and gave this schema
module _ (v w : Version) (s now : Schema) (n : ℕ) (same : w ≡ v) (none : refuses_schema w s ≡ None)
    (grown : now ≡ with_count (with_version s w) 0) where
  none_here : refuses_schema v s ≡ None
  none_here = subst (λ (u : Version). refuses_schema u s ≡ None) same none

  now_is : now ≡ with_count (with_version s v) 0
  now_is = subst (λ (u : Version). now ≡ with_count (with_version s u) 0) same grown

  build_refused : (e : WriteFault) (P Q : Type 0) → Q → BuildFailsOr now n e
      → (e ≡ Memory) ⊎ (P ⊎ (Q × BuildFails (with_version s v) n e))
  build_refused e P Q q (inl memory) = inl memory
  build_refused e P Q q (inr fails) =
      inr (inr (q, (fails_same (with_version s v) n e).0 (subst (λ (t : Schema). BuildFails t n e) now_is fails)))

  -- the build is refused where no call was
  pub refused_last : (T : Type 0) (e : WriteFault) → BuildFailsOr now n e → RebuildsAs {T = T} v s n (Err e)
  refused_last T e fails =
      build_refused e (refuses_schema v s ≡ Some e) (refuses_schema v s ≡ None) none_here fails

  pub rebuilt_so : (T : Type 0) (b : T) → ((f : WriteFault) → BuildFails now n f → ⊥) → RebuildsAs v s n (Ok b)
  rebuilt_so T b passes =
      (none_here, λ f h. passes f (subst (λ (t : Schema). BuildFails t n f) (sym now_is) ((fails_same (with_version s v) n f).1 h)))
