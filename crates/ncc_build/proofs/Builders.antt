-- The fields of a builder with one item more.
use Rattle.std.proofs.Common.{◌≡◌, ℕ, zero, suc, ◌+◌, ◌<◌, Bool, true, false, List, [], ◌∷◌, ◌++◌, length, map, get_or, set, None, Result, Ok, Err, OnOk, OnErr, refl, sym, ap, subst, ◌∙◌, arith}
use Rattle.std.specs.Prelude.{if◌then◌else◌, ◌==◌, ltb}
use Rattle.std.proofs.Math.Logic.{∥∥₁_elim}
use Rattle.std.proofs.Props.{props}
use Rattle.std.proofs.lemmas.Bool.{lt-ltb, ne_eqb}
use Rattle.std.proofs.lemmas.List.{map-append, get_or-map}
use Rattle.ncc_values.specs.Values.{type_of, count_of}
use Rattle.ncc_values.specs.declared.values.Values.{Values}
use Rattle.ncc_values.specs.declared.xtype.XType.{XType}
use Rattle.ncc_schema.specs.declared.schema.Dim.{Dim}
use Rattle.ncc_schema.specs.declared.schema.Attr.{Attr}
use Rattle.ncc_schema.specs.declared.schema.Var.{Var}
use Rattle.ncc_schema.specs.declared.schema.Schema.{Schema}
use Rattle.ncc_schema.specs.declared.schema.Count.{Count}
use Rattle.ncc_schema.specs.declared.schema.Count.TheVariants.{Known}
use Rattle.ncc_schema.specs.Schema.{count_limit, record_dims, with_count}
use Rattle.ncc_values.specs.declared.version.Version.{Version}
use Rattle.ncc_build.specs.Building.{attr_names, var_names, attrs_of, is_duplicate_name, IsBuilt, no_schema, refuses_attr, with_dim, with_global, with_var, with_attr, vars_with}
use Rattle.ncc_build.specs.Tables.{names_of_attrs, names_at, with_name}
use Rattle.ncc_build.specs.Judging.{kind_refusals}
use Rattle.ncc_build.proofs.Passing.{counts_fit, names_fit, name_passes}
use Rattle.ncc_build.proofs.NewItems.{record_dims_last, with_same_names, built_with_count}

pub still_built : (s grown t : Schema) → ∥ IsBuilt s ∥₁ → t ≡ grown → (IsBuilt s → IsBuilt grown) → ∥ IsBuilt t ∥₁
still_built s grown t old e turn = ∥∥₁_elim old (hlevel props) (λ (b : IsBuilt s). ∣ subst IsBuilt (sym e) (turn b) ∣₁)

-- ---- the whole schema

pub no_built : (v : Version) → IsBuilt (no_schema v)
no_built v = record {
  sound = record { count = counts_fit v 0 (some v); dims_number = some v; dims = tt; one_record_dim = omega arith; gatts_number = some v; gatts = tt; vars_number = some v; vars = tt };
  typed = record { dims = tt; gatts = tt; vars = tt };
  names = record { dims = tt; gatts = tt; vars = tt; attrs = tt };
  short = record { dims = tt; gatts = tt; vars = tt; attrs = tt };
  lengths = tt;
}
  where
    some : (u : Version) → 0 < count_limit u
    some u = names_fit u 0 (omega arith)

pub started : (v : Version) (dims : List Dim) (gatts : List Attr) (vars : List Var) → dims ≡ [] → gatts ≡ [] → vars ≡ [] → record { version = v; count = Known 0; dims = dims; gatts = gatts; vars = vars } ≡ no_schema v
started v dims gatts vars d g x =
    ap (λ (ds : List Dim). record { version = v; count = Known 0; dims = ds; gatts = gatts; vars = vars }) d
    ∙ ap (λ (gs : List Attr). record { version = v; count = Known 0; dims = []; gatts = gs; vars = vars }) g
    ∙ ap (λ (xs : List Var). record { version = v; count = Known 0; dims = []; gatts = []; vars = xs }) x

pub start_built : (v : Version) (s : Schema) → s ≡ no_schema v → ∥ IsBuilt s ∥₁
start_built v s e = ∣ subst IsBuilt (sym e) (no_built v) ∣₁

pub built_counted : (s t : Schema) (records limit : ℕ) → t ≡ with_count s records → limit ≡ count_limit s.version → records < limit → ∥ IsBuilt s ∥₁ → ∥ IsBuilt t ∥₁
built_counted s t records limit e is less old = still_built s (with_count s records) t old e (λ b. built_with_count s records b (omega (arith, is, less)))

pub recounted : (s t u : Schema) (records : ℕ) → t ≡ with_count s records → u ≡ with_count t 0 → s.count ≡ Known 0 → u ≡ s
recounted s t u records one two none =
    two ∙ ap (λ (x : Schema). with_count x 0) one ∙ ap (λ (n : Count). record { version = s.version; count = n; dims = s.dims; gatts = s.gatts; vars = s.vars }) (sym none)

-- ---- names

module _ {A : Type 0} (name_of : A → List ℕ) (items after : List A) (item : A) where
  pub names_grown : (names named : List (List ℕ)) (name : List ℕ) → names ≡ map name_of items → named ≡ names ++ name ∷ [] → after ≡ items ++ item ∷ [] → name ≡ name_of item → named ≡ map name_of after
  names_grown names named name told one more same =
      one ∙ ap (λ (ns : List (List ℕ)). ns ++ name ∷ []) told ∙ ap (λ (n : List ℕ). map name_of items ++ n ∷ []) same
      ∙ sym (map-append name_of items (item ∷ [])) ∙ ap (map name_of) (sym more)

-- ---- a dimension

module _ (s : Schema) (name own : List ℕ) (n : ℕ) (dims : List Dim) (more : dims ≡ s.dims ++ record { name = own; length = n } ∷ []) where
  pub dims_grown : own ≡ name → record { version = s.version; count = s.count; dims = dims; gatts = s.gatts; vars = s.vars } ≡ with_dim s name n
  dims_grown same =
      ap (λ (ds : List Dim). record { version = s.version; count = s.count; dims = ds; gatts = s.gatts; vars = s.vars })
      (more ∙ ap (λ (o : List ℕ). s.dims ++ record { name = o; length = n } ∷ []) same)

  grown_count : record_dims dims ≡ (if n == 0 then 1 else 0) + record_dims s.dims
  grown_count = ap record_dims more ∙ record_dims_last s.dims (record { name = own; length = n })

  pub record_dim_now : n ≡ 0 → true ≡ ltb 0 (record_dims dims)
  record_dim_now zero_is =
      let one : record_dims dims ≡ 1 + record_dims s.dims = grown_count ∙ ap (λ (m : ℕ). (if m == 0 then 1 else 0) + record_dims s.dims) zero_is in
      sym (lt-ltb 0 (record_dims dims) (omega (arith, one)))

  pub record_dim_still : (has : Bool) → has ≡ ltb 0 (record_dims s.dims) → (n ≡ 0 → ⊥) → has ≡ ltb 0 (record_dims dims)
  record_dim_still has told other =
      let none : record_dims dims ≡ 0 + record_dims s.dims = grown_count ∙ ap (λ (b : Bool). (if b then 1 else 0) + record_dims s.dims) (ne_eqb n 0 other) in
      let same : record_dims dims ≡ record_dims s.dims = omega (arith, none) in
      told ∙ ap (ltb 0) (sym same)

-- ---- an attribute

pub globals_grown : (s : Schema) (name : List ℕ) (values : Values) (a : Attr) (gatts : List Attr) → gatts ≡ s.gatts ++ a ∷ [] → a.name ≡ name → a.values ≡ values
    → record { version = s.version; count = s.count; dims = s.dims; gatts = gatts; vars = s.vars } ≡ with_global s name values
globals_grown s name values a gatts more same_name same_values =
    ap (λ (gs : List Attr). record { version = s.version; count = s.count; dims = s.dims; gatts = gs; vars = s.vars })
    (more ∙ ap (λ (n : List ℕ). s.gatts ++ record { name = n; values = a.values } ∷ []) same_name ∙ ap (λ (v : Values). s.gatts ++ record { name = name; values = v } ∷ []) same_values)

-- ---- a variable

pub vars_grown : (s : Schema) (name : List ℕ) (t : XType) (ids : List ℕ) (x : Var) (vars : List Var) → vars ≡ s.vars ++ x ∷ [] → x.name ≡ name → x.dims ≡ ids → x.attrs ≡ [] → x.xtype ≡ t
    → record { version = s.version; count = s.count; dims = s.dims; gatts = s.gatts; vars = vars } ≡ with_var s name t ids
vars_grown s name t ids x vars more same_name same_ids none same_type =
    ap (λ (xs : List Var). record { version = s.version; count = s.count; dims = s.dims; gatts = s.gatts; vars = xs })
    (more ∙ ap (λ (n : List ℕ). s.vars ++ record { name = n; dims = x.dims; attrs = x.attrs; xtype = x.xtype } ∷ []) same_name
    ∙ ap (λ (ds : List ℕ). s.vars ++ record { name = name; dims = ds; attrs = x.attrs; xtype = x.xtype } ∷ []) same_ids
    ∙ ap (λ (gs : List Attr). s.vars ++ record { name = name; dims = ids; attrs = gs; xtype = x.xtype } ∷ []) none
    ∙ ap (λ (u : XType). s.vars ++ record { name = name; dims = ids; attrs = []; xtype = u } ∷ []) same_type)

pub tables_grown : (vars after : List Var) (x : Var) (tables more : List (List (List ℕ))) → tables ≡ map (λ (y : Var). attr_names y.attrs) vars → more ≡ tables ++ [] ∷ [] → after ≡ vars ++ x ∷ [] → x.attrs ≡ []
    → more ≡ map (λ (y : Var). attr_names y.attrs) after
tables_grown vars after x tables more told one grown none =
    let f : Var → List (List ℕ) = λ y. attr_names y.attrs in
    one ∙ ap (λ (ts : List (List (List ℕ))). ts ++ [] ∷ []) told ∙ ap (λ (gs : List Attr). map f vars ++ attr_names gs ∷ []) (sym none)
    ∙ sym (map-append f vars (x ∷ [])) ∙ ap (map f) (sym grown)

-- ---- an attribute of a variable

pub attrs_grown : (s : Schema) (n : ℕ) (name : List ℕ) (values : Values) (a : Attr) (vars : List Var) → vars ≡ vars_with s.vars n a.name a.values → a.name ≡ name → a.values ≡ values
    → record { version = s.version; count = s.count; dims = s.dims; gatts = s.gatts; vars = vars } ≡ with_attr s n name values
attrs_grown s n name values a vars more same_name same_values =
    ap (λ (xs : List Var). record { version = s.version; count = s.count; dims = s.dims; gatts = s.gatts; vars = xs })
    (more ∙ ap (λ (o : List ℕ). vars_with s.vars n o a.values) same_name ∙ ap (λ (v : Values). vars_with s.vars n name v) same_values)

pub tables_with : (vars : List Var) (n : ℕ) (name : List ℕ) (values : Values) → with_name (map (λ (y : Var). attr_names y.attrs) vars) n name ≡ map (λ (y : Var). attr_names y.attrs) (vars_with vars n name values)
tables_with [] n name values = refl
tables_with (x ∷ vars) zero name values =
    ap (λ (names : List (List ℕ)). names ∷ map (λ (y : Var). attr_names y.attrs) vars) (sym (map-append (λ (a : Attr). a.name) x.attrs (record { name = name; values = values } ∷ [])))
tables_with (x ∷ vars) (suc n) name values = ap (λ (ts : List (List (List ℕ))). attr_names x.attrs ∷ ts) (tables_with vars n name values)

-- the names in the table of a variable are those of its attributes
pub names_of_var : (vars : List Var) (n : ℕ) → names_at (map (λ (y : Var). attr_names y.attrs) vars) n ≡ attr_names (get_or (map (λ (y : Var). y.attrs) vars) n [])
names_of_var [] n = refl
names_of_var (x ∷ vars) zero = refl
names_of_var (x ∷ vars) (suc n) = names_of_var vars n

-- what a slice of the variables shows
pub var_attrs : (vars slice : List Var) (n : ℕ) (x : Var) (attrs : List Attr) → attrs ≡ (get_or slice n x).attrs → slice ≡ vars → n < length vars → attrs ≡ get_or (map (λ (y : Var). y.attrs) vars) n []
var_attrs vars slice n x attrs shown same below =
    shown ∙ ap (λ (xs : List Var). (get_or xs n x).attrs) same ∙ sym (get_or-map (λ (y : Var). y.attrs) vars n x [] below)

-- a name that passes isn't in that table
pub fresh_in_table : (s : Schema) (n : ℕ) (name listed : List ℕ) (values : Values) (tables : List (List (List ℕ))) → tables ≡ names_of_attrs s → listed ≡ name → refuses_attr true s n name values ≡ None
    → is_duplicate_name listed (names_at tables n) ≡ false
fresh_in_table s n name listed values tables told same none =
    ap (λ (l : List ℕ). is_duplicate_name l (names_at tables n)) same
    ∙ ap (λ (ts : List (List (List ℕ))). is_duplicate_name name (names_at ts n)) told
    ∙ ap (is_duplicate_name name) (names_of_var s.vars n)
    ∙ (name_passes (attr_names (attrs_of s n)) name (kind_refusals s.version (type_of values) (length (attrs_of s n)) (count_of values)) none).1

module _ (s : Schema) (n : ℕ) (a : Attr) (vars : List Var) (more : vars ≡ vars_with s.vars n a.name a.values) where
  pub vars_still : (names : List (List ℕ)) → names ≡ var_names s → names ≡ map (λ (x : Var). x.name) vars
  vars_still names told = told ∙ sym (with_same_names a.name a.values s.vars n) ∙ ap (map (λ (x : Var). x.name)) (sym more)

  pub tables_still : (listed : List ℕ) (tables after : List (List (List ℕ))) → tables ≡ names_of_attrs s → after ≡ with_name tables n listed → listed ≡ a.name → after ≡ map (λ (x : Var). attr_names x.attrs) vars
  tables_still listed tables after told one same =
      one ∙ ap (λ (ts : List (List (List ℕ))). with_name ts n listed) told ∙ ap (with_name (names_of_attrs s) n) same
      ∙ tables_with s.vars n a.name a.values ∙ ap (map (λ (x : Var). attr_names x.attrs)) (sym more)

-- a write in the place of a variable, and of its names
written_var : (vars : List Var) (n : ℕ) (d : Var) (a : Attr) → n < length vars
    → set vars n (record { name = (get_or vars n d).name; dims = (get_or vars n d).dims; attrs = (get_or vars n d).attrs ++ a ∷ []; xtype = (get_or vars n d).xtype }) ≡ vars_with vars n a.name a.values
written_var [] n d a below = absurd (omega (arith, below))
written_var (x ∷ vars) zero d a below = refl
written_var (x ∷ vars) (suc n) d a below = ap (λ (xs : List Var). x ∷ xs) (written_var vars n d a (omega (arith, below)))

written_names : (tables : List (List (List ℕ))) (n : ℕ) (d : List (List ℕ)) (name : List ℕ) → n < length tables → set tables n (get_or tables n d ++ name ∷ []) ≡ with_name tables n name
written_names [] n d name below = absurd (omega (arith, below))
written_names (ns ∷ tables) zero d name below = refl
written_names (ns ∷ tables) (suc n) d name below = ap (λ (ts : List (List (List ℕ))). ns ∷ ts) (written_names tables n d name (omega (arith, below)))

pub var_written : (vars listed after : List Var) (n : ℕ) (old : Var) (a : Attr) (attrs : List Attr) → listed ≡ vars → n < length vars → old ≡ get_or listed n old
    → after ≡ set listed n (record { name = old.name; dims = old.dims; attrs = attrs; xtype = old.xtype }) → attrs ≡ old.attrs ++ a ∷ [] → after ≡ vars_with vars n a.name a.values
var_written vars listed after n old a attrs same below there written more =
    written ∙ ap (λ (gs : List Attr). set listed n (record { name = old.name; dims = old.dims; attrs = gs; xtype = old.xtype })) more
    ∙ ap (λ (x : Var). set listed n (record { name = x.name; dims = x.dims; attrs = x.attrs ++ a ∷ []; xtype = x.xtype })) there
    ∙ ap (λ (xs : List Var). set xs n (record { name = (get_or xs n old).name; dims = (get_or xs n old).dims; attrs = (get_or xs n old).attrs ++ a ∷ []; xtype = (get_or xs n old).xtype })) same
    ∙ written_var vars n old a below

pub names_written : (tables : List (List (List ℕ))) (n : ℕ) (old names : List (List ℕ)) (name : List ℕ) → n < length tables → old ≡ get_or tables n old → names ≡ old ++ name ∷ [] → set tables n names ≡ with_name tables n name
names_written tables n old names name below there more =
    ap (set tables n) (more ∙ ap (λ (ns : List (List ℕ)). ns ++ name ∷ []) there) ∙ written_names tables n old name below

pub on_ok : {T E : Type 0} (r : Result T E) (P Q : Type 0) → (P → Q) → OnOk r P → OnOk r Q
on_ok (Ok x) P Q turn p = turn p
on_ok (Err e) P Q turn p = p

-- a call that did both, or nothing
pub on_either : {T E : Type 0} (r : Result T E) (A B C D P : Type 0) → OnOk r A → OnOk r B → OnErr r C → OnErr r D → (A → B → P) → (C → D → P) → P
on_either (Ok x) A B C D P a b c d did nothing = did a b
on_either (Err e) A B C D P a b c d did nothing = nothing c d

pub built_unmoved : (s t : Schema) → ∥ IsBuilt s ∥₁ → t ≡ s → ∥ IsBuilt t ∥₁
built_unmoved s t old e = subst (λ (u : Schema). ∥ IsBuilt u ∥₁) (sym e) old

pub globals_unmoved : (s : Schema) (gatts : List Attr) → gatts ≡ s.gatts → record { version = s.version; count = s.count; dims = s.dims; gatts = gatts; vars = s.vars } ≡ s
globals_unmoved s gatts same = ap (λ (gs : List Attr). record { version = s.version; count = s.count; dims = s.dims; gatts = gs; vars = s.vars }) same

pub vars_unmoved : (s : Schema) (vars : List Var) → vars ≡ s.vars → record { version = s.version; count = s.count; dims = s.dims; gatts = s.gatts; vars = vars } ≡ s
vars_unmoved s vars same = ap (λ (xs : List Var). record { version = s.version; count = s.count; dims = s.dims; gatts = s.gatts; vars = xs }) same
