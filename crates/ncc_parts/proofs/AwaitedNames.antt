-- The names that a decoder knows of the part that its next field is in are those of every header that can follow.
use Rattle.std.proofs.Common.{◌≡◌, ℕ, suc, ◌+◌, List, [], ◌∷◌, ◌++◌, length, drop, refl, ap, ◌∙◌, append_assoc}
use Rattle.std.proofs.lemmas.List.{drop_at}
use Rattle.ncc_values.specs.Values.{type_of}
use Rattle.ncc_schema.specs.declared.names.NameOf.TheVariants as of
use Rattle.ncc_schema.specs.declared.schema.Attr.{Attr}
use Rattle.ncc_schema.specs.declared.schema.Dim.{Dim}
use Rattle.ncc_schema.specs.declared.schema.Schema.{Schema}
use Rattle.ncc_schema.specs.declared.schema.Var.{Var}
use Rattle.ncc_schema.specs.Header.{canon_attr, canon_dim}
use Rattle.ncc_schema.specs.Names.{first_attr, first_attrs, first_dim, first_var, list_size, name_of}
use Rattle.ncc_schema.specs.Schema.{Place}
use Rattle.ncc_header.specs.declared.partial.Partial.{Partial}
use Rattle.ncc_header.specs.declared.partial.Lists.{Lists}
use Rattle.ncc_header.specs.declared.partial.Named.{Named}
use Rattle.ncc_header.specs.declared.partial.Named.TheVariants as named
use Rattle.ncc_header.specs.declared.partial.Next.{Next}
use Rattle.ncc_header.specs.declared.partial.Next.TheVariants as nexts
use Rattle.ncc_header.specs.declared.partial.Owner.{Owner}
use Rattle.ncc_header.specs.declared.partial.Owner.TheVariants as owners
use Rattle.ncc_header.specs.Fields.{attr, attrs, dim, dimid, list_nelems, name}
use Rattle.ncc_header.specs.Grammar.{Grammar, done, field, ◌>>=◌, repeat}
use Rattle.ncc_header.specs.Left.{from_attr_count, from_attr_padding, from_attr_type, from_begin, from_dims_of_var, from_dimids, from_length, from_rank, from_type, from_values, from_vsize, in_attr, in_dim, in_var, left_of, var_list, var_of, with_attrs, with_dims, with_name}
use Rattle.ncc_header.specs.Awaited.{AreNamesOf, attr_names, names_around, named_names, next_names, var_names, var_number}
use Rattle.ncc_parts.proofs.Remaining.{AllVars, HasDims, ThisVar, rest_of_dims, rest_of_var, rest_of_var_list}
use Rattle.ncc_parts.proofs.Runs.{HasFirstDims, HasName, IsVar, MoreItems, Runs, in_attr as run_attr, in_dim as run_dim, in_dimids, in_items, in_rank, in_type, join, weaken}

-- nothing is said
abbrev Any : {A : Type 0} → A → ℕ → Type 0
Any a m = Unit {0}

anything : {A : Type 0} (g : Grammar A) (n : ℕ) → Runs g n Any
anything (done a) n = tt
anything (field label size wrong next) n = λ b e. anything (next b) (n + size)

-- ---- dimensions

abbrev DimNamed : List ℕ → Dim → ℕ → Type 0
DimNamed text d m = d.name ≡ text

dim_named : (l : Lists) (g : Grammar Dim) (text : List ℕ) (n : ℕ) → Runs g n (DimNamed text) → Runs (in_dim l.parts l.dims_left g) n (λ x m. name_of x.0 (of.Dim (length l.parts.dims.items)) ≡ text)
dim_named l g text n h =
    let v = l.parts.version in
    let dims = l.parts.dims.items in
    join (g >>= λ d. repeat (dim v) (dims ++ d ∷ []) l.dims_left) (with_dims v l.parts.count) n Both (λ x m. name_of x.0 (of.Dim (length dims)) ≡ text)
    (join g (λ d. repeat (dim v) (dims ++ d ∷ []) l.dims_left) n (DimNamed text) Both h
    (λ d k q. weaken (repeat (dim v) (dims ++ d ∷ []) l.dims_left) k (MoreItems (canon_dim v) k (dims ++ d ∷ [])) Both (λ all m more. (d, q, (more.0, more.1))) (in_items (dim v) (canon_dim v) (run_dim v) (dims ++ d ∷ []) l.dims_left k)))
    (λ all m both. weaken (with_dims v l.parts.count all) m (HasDims v all m) (λ x k. name_of x.0 (of.Dim (length dims)) ≡ text)
    (λ x end is.
    ap (λ xs. first_dim (drop (length dims) xs)) (is.1 ∙ both.2.1 ∙ append_assoc dims (both.0 ∷ []) both.2.0) ∙ ap first_dim (drop_at dims (both.0 ∷ both.2.0) (length dims) refl) ∙ both.1)
    (rest_of_dims v l.parts.count all m))
  where
    Both : List Dim → ℕ → Type 0
    Both all m = (d : Dim) × (d.name ≡ text) × ((more : List Dim) × (all ≡ (l.parts.dims.items ++ d ∷ []) ++ more))

-- ---- variables

abbrev VarNamed : List ℕ → Var × Place → ℕ → Type 0
VarNamed text y m = y.0.name ≡ text

var_named : (l : Lists) (g : Grammar (Var × Place)) (n : ℕ) → Runs g n (VarNamed l.var.name) → Runs (in_var l.parts l.vars g) n (λ x m. AreNamesOf x.0 (var_names l))
var_named l g n h =
    weaken (in_var l.parts l.vars g) n (ThisVar l.parts l.vars (VarNamed l.var.name)) (λ x m. AreNamesOf x.0 (var_names l))
    (λ x end is. (
      ap (λ (s : Schema). first_var (drop (var_number l) s.vars)) is.3.1 ∙ ap first_var (drop_at l.vars.vars.items (is.0.0 ∷ is.3.0) (var_number l) refl) ∙ is.2,
      tt,
    ))
    (rest_of_var l.parts l.vars g n (VarNamed l.var.name) h)

named_type : (l : Lists) (notes : List Attr) (n : ℕ) → Runs (from_type l.parts.version l.var.name l.var.dims.items notes) n (VarNamed l.var.name)
named_type l notes n =
    let v = l.parts.version in
    weaken (from_type v l.var.name l.var.dims.items notes) n (IsVar v l.var.name l.var.dims.items notes n) (VarNamed l.var.name) (λ y m is. is.0) (in_type v l.var.name l.var.dims.items notes n)

-- what is known around a list of attributes, whichever they are
around : (o : Owner) (l : Lists) (notes : List Attr) (n : ℕ) → Runs (with_attrs o l.parts l.vars l.var notes) n (λ x m. AreNamesOf x.0 (names_around o l))
around owners.File l notes n = weaken (var_list l.parts notes) n Any (λ x m. Unit {0}) (λ x m is. tt) (anything (var_list l.parts notes) n)
around owners.Variable l notes n = var_named l (from_type l.parts.version l.var.name l.var.dims.items notes) n (named_type l notes n)

around_any : (o : Owner) (l : Lists) (g : Grammar (List Attr)) (n : ℕ) → Runs (g >>= with_attrs o l.parts l.vars l.var) n (λ x m. AreNamesOf x.0 (names_around o l))
around_any o l g n = join g (with_attrs o l.parts l.vars l.var) n Any (λ x m. AreNamesOf x.0 (names_around o l)) (anything g n) (λ notes m q. around o l notes m)

-- ---- attributes

abbrev AttrNamed : List ℕ → Attr → ℕ → Type 0
AttrNamed text a m = a.name ≡ text

-- the attributes so far, one of this name, and more
abbrev HasNext : (before : List Attr) → (name : List ℕ) → List Attr → ℕ → Type 0
HasNext before text all m = (a : Attr) × (a.name ≡ text) × ((more : List Attr) × (all ≡ (before ++ a ∷ []) ++ more))

has_next : (l : Lists) (g : Grammar Attr) (text : List ℕ) (n : ℕ) → Runs g n (AttrNamed text)
    → Runs (g >>= λ a. repeat (λ before. attr l.parts.version) (l.attrs.items ++ a ∷ []) l.attrs_left) n (HasNext l.attrs.items text)
has_next l g text n h =
    let v = l.parts.version in
    let own = l.attrs.items in
    join g (λ a. repeat (λ before. attr v) (own ++ a ∷ []) l.attrs_left) n (AttrNamed text) (HasNext own text) h
    (λ a k q. weaken (repeat (λ before. attr v) (own ++ a ∷ []) l.attrs_left) k (MoreItems (canon_attr v) k (own ++ a ∷ [])) (HasNext own text) (λ all m more. (a, q, (more.0, more.1)))
    (in_items (λ before. attr v) (canon_attr v) (λ before. run_attr v) (own ++ a ∷ []) l.attrs_left k))

next_named : (own all : List Attr) (text : List ℕ) (m : ℕ) → HasNext own text all m → first_attr (drop (length own) all) ≡ text
next_named own all text m both =
    ap (λ xs. first_attr (drop (length own) xs)) (both.2.1 ∙ append_assoc own (both.0 ∷ []) both.2.0) ∙ ap first_attr (drop_at own (both.0 ∷ both.2.0) (length own) refl) ∙ both.1

attr_named : (o : Owner) (l : Lists) (g : Grammar Attr) (text : List ℕ) (n : ℕ) → Runs g n (AttrNamed text) → Runs (in_attr o l g) n (λ x m. AreNamesOf x.0 (attr_names o l text))
attr_named owners.File l g text n h =
    let own = l.attrs.items in
    join (g >>= λ a. repeat (λ before. attr l.parts.version) (own ++ a ∷ []) l.attrs_left) (λ notes. var_list l.parts notes) n (HasNext own text) (λ x m. AreNamesOf x.0 (attr_names owners.File l text)) (has_next l g text n h)
    (λ all m both. weaken (var_list l.parts all) m (AllVars l.parts all (m + list_size l.parts.version)) (λ x k. AreNamesOf x.0 (attr_names owners.File l text))
    (λ x end is. (ap (λ (s : Schema). first_attr (drop (length own) s.gatts)) is.1 ∙ next_named own all text m both, tt))
    (rest_of_var_list l.parts all m))
attr_named owners.Variable l g text n h =
    let v = l.parts.version in
    let own = l.attrs.items in
    let ids = l.var.dims.items in
    let vars = l.vars.vars.items in
    join (g >>= λ a. repeat (λ before. attr v) (own ++ a ∷ []) l.attrs_left) (λ notes. in_var l.parts l.vars (from_type v l.var.name ids notes)) n (HasNext own text) (λ x m. AreNamesOf x.0 (attr_names owners.Variable l text)) (has_next l g text n h)
    (λ all m both. weaken (in_var l.parts l.vars (from_type v l.var.name ids all)) m (ThisVar l.parts l.vars (IsVar v l.var.name ids all m)) (λ x k. AreNamesOf x.0 (attr_names owners.Variable l text))
    (λ x end is. (
      ap (λ (s : Schema). first_attr (drop (length own) (first_attrs (drop (var_number l) s.vars)))) is.3.1
          ∙ ap (λ xs. first_attr (drop (length own) (first_attrs xs))) (drop_at vars (is.0.0 ∷ is.3.0) (var_number l) refl)
          ∙ ap (λ xs. first_attr (drop (length own) xs)) is.2.2
          ∙ next_named own all text m both,
      (ap (λ (s : Schema). first_var (drop (var_number l) s.vars)) is.3.1 ∙ ap first_var (drop_at vars (is.0.0 ∷ is.3.0) (var_number l) refl) ∙ is.2.0, tt),
    ))
    (rest_of_var l.parts l.vars (from_type v l.var.name ids all) m (IsVar v l.var.name ids all m) (in_type v l.var.name ids all m)))

-- ---- names that are still to come

named_around : (x : Named) (l : Lists) (text : List ℕ) (n : ℕ) → Runs (with_name x l text) n (λ y m. AreNamesOf y.0 (named_names x l))
named_around named.Dim l text n = weaken (with_name named.Dim l text) n Any (λ y m. Unit {0}) (λ y m is. tt) (anything (with_name named.Dim l text) n)
named_around (named.Attr o) l text n = around_any o l (from_attr_type l.parts.version text >>= λ a. repeat (λ before. attr l.parts.version) (l.attrs.items ++ a ∷ []) l.attrs_left) n
named_around named.Var l text n = weaken (with_name named.Var l text) n Any (λ y m. Unit {0}) (λ y m is. tt) (anything (with_name named.Var l text) n)

-- ---- wherever a decoder stands

pub names_known : (next : Next) (b : Partial) (n : ℕ) → Runs (left_of next b) n (λ x m. AreNamesOf x.0 (next_names next b))
names_known nexts.Magic b n = anything (left_of nexts.Magic b) n
names_known nexts.VersionByte b n = anything (left_of nexts.VersionByte b) n
names_known nexts.NumRecs b n = anything (left_of nexts.NumRecs b) n
names_known nexts.DimsTag b n = anything (left_of nexts.DimsTag b) n
names_known (nexts.DimsCount t) b n = anything (left_of (nexts.DimsCount t) b) n
names_known (nexts.NameLength x) b n =
    let l = b.lists in
    join (name l.parts.version) (with_name x l) n Any (λ y m. AreNamesOf y.0 (named_names x l)) (anything (name l.parts.version) n) (λ text m q. named_around x l text m)
names_known (nexts.NameText x k) b n = λ text f zeros g. named_around x b.lists text _
names_known (nexts.NamePadding x) b n = λ zeros g. named_around x b.lists b.name _
names_known nexts.DimLength b n =
    weaken (left_of nexts.DimLength b) n (λ x m. name_of x.0 (of.Dim (length b.lists.parts.dims.items)) ≡ b.name) (λ x m. AreNamesOf x.0 (next_names nexts.DimLength b)) (λ x m is. (is, tt))
    (dim_named b.lists (from_length b.lists.parts b.name) b.name n (λ c f. refl))
names_known (nexts.AttrsTag o) b n = around_any o b.lists (attrs b.lists.parts.version) n
names_known (nexts.AttrsCount o t) b n = around_any o b.lists (list_nelems b.lists.parts.version t >>= repeat (λ before. attr b.lists.parts.version) []) n
names_known (nexts.AttrType o) b n = attr_named o b.lists (from_attr_type b.lists.parts.version b.name) b.name n (λ c f k g vs h zeros i. refl)
names_known (nexts.AttrCount o t) b n = attr_named o b.lists (from_attr_count b.lists.parts.version b.name t) b.name n (λ k g vs h zeros i. refl)
names_known (nexts.AttrValues o k) b n = attr_named o b.lists (from_values b.name (type_of b.body.values) k) b.name n (λ vs h zeros i. refl)
names_known (nexts.AttrPadding o k) b n = attr_named o b.lists (from_attr_padding b.name k b.body.values) b.name n (λ zeros i. refl)
names_known nexts.VarsTag b n = anything (left_of nexts.VarsTag b) n
names_known (nexts.VarsCount t) b n = anything (left_of (nexts.VarsCount t) b) n
names_known nexts.DimIdsCount b n =
    let l = b.lists in
    let v = l.parts.version in
    var_named l (from_rank l.parts l.var.name) n (weaken (from_rank l.parts l.var.name) n (HasName v l.var.name n) (VarNamed l.var.name) (λ y m q. q.0) (in_rank l.parts l.var.name n))
names_known (nexts.DimId k) b n =
    let l = b.lists in
    let v = l.parts.version in
    let ids = l.var.dims.items in
    let item = dimid v l.parts.dims.items in
    var_named l ((item ids >>= λ i. repeat item (ids ++ i ∷ []) k) >>= λ dims. from_dims_of_var v l.var.name dims) n
    (weaken (from_dimids l.parts l.var.name ids (suc k)) n (HasFirstDims v l.var.name ids n) (VarNamed l.var.name) (λ y m q. q.0) (in_dimids l.parts l.var.name ids (suc k) n))
names_known nexts.VarType b n = var_named b.lists (from_type b.lists.parts.version b.lists.var.name b.lists.var.dims.items b.lists.attrs.items) n (named_type b.lists b.lists.attrs.items n)
names_known (nexts.Vsize t) b n = var_named b.lists (from_vsize b.lists.parts.version (var_of b.lists t)) n (λ c f d g. refl)
names_known (nexts.VarBegin t size) b n = var_named b.lists (from_begin b.lists.parts.version (var_of b.lists t) size) n (λ d g. refl)
names_known nexts.Whole b n = tt
