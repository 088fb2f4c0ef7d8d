-- The next field of a decoder is in the part that is told, in every header that can follow.
use Rattle.std.proofs.Common.{◌≡◌, ℕ, ◌+◌, ◌-◌, ◌*◌, ◌<◌, ◌≤◌, List, [], ◌∷◌, ◌++◌, length, Some, refl, sym, ap, subst, ◌∙◌, append_assoc, length-append, arith}
use Rattle.std.specs.List.{flat_map}
use Rattle.ncc_values.specs.BigEndian.{length-big_endian}
use Rattle.ncc_values.specs.Numbers.{big_endian, number_of}
use Rattle.ncc_values.specs.Padding.{padding_of}
use Rattle.ncc_values.specs.Values.{type_of, count_of, values_of}
use Rattle.ncc_values.specs.Version.{count_width_of, offset_width_of}
use Rattle.ncc_values.specs.XType.{size_of as bytes_each}
use Rattle.ncc_values.specs.declared.version.Version.{Version}
use Rattle.ncc_values.specs.declared.version.Version.TheVariants.{V1, V2, V5}
use Rattle.ncc_values.specs.declared.xtype.XType.{XType}
use Rattle.ncc_values.proofs.ValuesLemmas.{type_of-values_of, count_of-values_of}
use Rattle.ncc_schema.specs.declared.schema.Attr.{Attr}
use Rattle.ncc_schema.specs.declared.schema.Count.{Count}
use Rattle.ncc_schema.specs.declared.schema.Dim.{Dim}
use Rattle.ncc_schema.specs.declared.schema.Schema.{Schema}
use Rattle.ncc_schema.specs.declared.schema.Var.{Var}
use Rattle.ncc_schema.specs.Header.{nc_dimension, canon_attr, canon_dim, canon_dimids, canon_name}
use Rattle.ncc_schema.specs.Names.{canon_unplaced, header_length, list_size, no_place}
use Rattle.ncc_schema.specs.Schema.{Place}
use Rattle.ncc_schema.proofs.Sizes.{length-canon_attr, length-canon_dim, length-canon_dimids, length-canon_var}
use Rattle.ncc_header.specs.declared.partial.Partial.{Partial}
use Rattle.ncc_header.specs.declared.partial.Lists.{Lists}
use Rattle.ncc_header.specs.declared.partial.Named.{Named}
use Rattle.ncc_header.specs.declared.partial.Named.TheVariants as named
use Rattle.ncc_header.specs.declared.partial.Next.{Next}
use Rattle.ncc_header.specs.declared.partial.Next.TheVariants as nexts
use Rattle.ncc_header.specs.declared.partial.Owner.{Owner}
use Rattle.ncc_header.specs.declared.partial.Owner.TheVariants as owners
use Rattle.ncc_header.specs.declared.partial.Parts.{Parts}
use Rattle.ncc_header.specs.Fields.{attr, attrs, dim, dimid, list, list_nelems, name, var, version}
use Rattle.ncc_header.specs.Grammar.{Grammar, ◌>>=◌, repeat}
use Rattle.ncc_header.specs.Left.{Given, ended, from_attr_count, from_attr_padding, from_attr_type, from_begin, from_count, from_dims_of_var, from_dimids, from_length, from_rank, from_type, from_values, from_version, from_vsize, in_attr, in_dim, in_var, left_of, schema_of, var_list, var_of, with_attrs, with_dims, with_name}
use Rattle.ncc_header.specs.Steps.{size_of}
use Rattle.ncc_header.specs.declared.part.Part.{Part}
use Rattle.ncc_header.specs.declared.part.Part.TheVariants as parts
use Rattle.ncc_header.specs.Awaited.{attr_part, list_part, named_part, next_part, var_number}
use Rattle.ncc_parts.proofs.Remaining.{AllVars, HasDims, ThisVar, rest_of_all_vars, rest_of_dims, rest_of_var, rest_of_var_list}
use Rattle.ncc_parts.proofs.Runs.{AllItems, HasFirstDims, HasName, IsVar, MoreItems, Runs, fields_size, in_all, in_attr as run_attr, in_attrs, in_dim as run_dim, in_dimids, in_items, in_list, in_name, in_rank, in_type, in_vsize, join, length-canon_name, weaken}
use Rattle.ncc_parts.proofs.Within.{Within, whole, within_attr, within_attr_list, within_dim, within_dim_list, within_global, within_global_list, within_magic, within_numrecs, within_place, within_var, within_var_list}

-- what is left from a part's first byte on, of which so many are in it
abbrev pub InPart : Part → (reach : ℕ) → Given → ℕ → Type 0
InPart p reach x m = Within p reach x.0 m

-- the same from another number of bytes on, that is the same
from_same : {A : Type 0} (g : Grammar A) (n m : ℕ) (P : A → ℕ → Type 0) → n ≡ m → Runs g m P → Runs g n P
from_same g n m P e h = subst (λ (k : ℕ). Runs g k P) (sym e) h

-- ---- dimensions

abbrev ThisDim : Version → (reach : ℕ) → Dim → ℕ → Type 0
ThisDim v reach d m = (m ≡ length (canon_dim v d)) × (reach ≤ m)

in_this_dim : (l : Lists) (g : Grammar Dim) (n reach : ℕ) → Runs g n (ThisDim l.parts.version reach) → Runs (in_dim l.parts l.dims_left g) n (InPart (parts.Dim (length l.parts.dims.items)) reach)
in_this_dim l g n reach h =
    let v = l.parts.version in
    let dims = l.parts.dims.items in
    join (g >>= λ d. repeat (dim v) (dims ++ d ∷ []) l.dims_left) (with_dims v l.parts.count) n Both (InPart (parts.Dim (length dims)) reach)
    (join g (λ d. repeat (dim v) (dims ++ d ∷ []) l.dims_left) n (ThisDim v reach) Both h
    (λ d k q. weaken (repeat (dim v) (dims ++ d ∷ []) l.dims_left) k (MoreItems (canon_dim v) k (dims ++ d ∷ [])) Both (λ all m more. (d, k, q, more)) (in_items (dim v) (canon_dim v) (run_dim v) (dims ++ d ∷ []) l.dims_left k)))
    (λ all m both. weaken (with_dims v l.parts.count all) m (HasDims v all m) (InPart (parts.Dim (length dims)) reach)
    (λ x end is. found x.0 end all m both is)
    (rest_of_dims v l.parts.count all m))
  where
    Both : List Dim → ℕ → Type 0
    Both all m = (d : Dim) × (k : ℕ) × ThisDim l.parts.version reach d k × MoreItems (canon_dim l.parts.version) k (l.parts.dims.items ++ d ∷ []) all m

    found : (s : Schema) (end : ℕ) (all : List Dim) (m : ℕ) → Both all m
        → (s.version ≡ l.parts.version) × (s.dims ≡ all) × (end ≡ m + (list_size l.parts.version + length (flat_map (canon_attr l.parts.version) s.gatts)) + (list_size l.parts.version + length (flat_map (canon_unplaced l.parts.version) s.vars)))
        → Within (parts.Dim (length l.parts.dims.items)) reach s end
    found s end all m both is =
        let dims = l.parts.dims.items in
        let split : s.dims ≡ dims ++ both.0 ∷ both.3.0 = is.1 ∙ both.3.1 ∙ append_assoc dims (both.0 ∷ []) both.3.0 in
        within_dim s dims both.3.0 both.0 reach end split
        (omega (arith, both.2.0, both.2.1, ap (λ w. length (canon_dim w both.0)) is.0))
        (omega (
          arith,
          is.2,
          both.3.2,
          both.2.0,
          ap (λ w. length (canon_dim w both.0)) is.0,
          ap (λ w. length (flat_map (canon_dim w) both.3.0)) is.0,
          ap list_size is.0,
          ap (λ w. length (flat_map (canon_attr w) s.gatts)) is.0,
          ap (λ w. length (flat_map (canon_unplaced w) s.vars)) is.0,
        ))

-- ---- attributes

abbrev ThisAttr : Version → (reach : ℕ) → Attr → ℕ → Type 0
ThisAttr v reach a m = (m ≡ length (canon_attr v a)) × (reach ≤ m)

abbrev AttrAndMore : Version → (before : List Attr) → (reach : ℕ) → List Attr → ℕ → Type 0
AttrAndMore v before reach all m = (a : Attr) × (k : ℕ) × ThisAttr v reach a k × MoreItems (canon_attr v) k (before ++ a ∷ []) all m

attr_and_more : (l : Lists) (g : Grammar Attr) (n reach : ℕ) → Runs g n (ThisAttr l.parts.version reach)
    → Runs (g >>= λ a. repeat (λ before. attr l.parts.version) (l.attrs.items ++ a ∷ []) l.attrs_left) n (AttrAndMore l.parts.version l.attrs.items reach)
attr_and_more l g n reach h =
    let v = l.parts.version in
    let own = l.attrs.items in
    join g (λ a. repeat (λ before. attr v) (own ++ a ∷ []) l.attrs_left) n (ThisAttr v reach) (AttrAndMore v own reach) h
    (λ a k q. weaken (repeat (λ before. attr v) (own ++ a ∷ []) l.attrs_left) k (MoreItems (canon_attr v) k (own ++ a ∷ [])) (AttrAndMore v own reach) (λ all m more. (a, k, q, more))
    (in_items (λ before. attr v) (canon_attr v) (λ before. run_attr v) (own ++ a ∷ []) l.attrs_left k))

attr_split : (v : Version) (before all : List Attr) (reach m : ℕ) (both : AttrAndMore v before reach all m) → all ≡ before ++ both.0 ∷ both.3.0
attr_split v before all reach m both = both.3.1 ∙ append_assoc before (both.0 ∷ []) both.3.0

in_this_attr : (o : Owner) (l : Lists) (g : Grammar Attr) (n reach : ℕ) → Runs g n (ThisAttr l.parts.version reach) → Runs (in_attr o l g) n (InPart (attr_part o l) reach)
in_this_attr owners.File l g n reach h =
    let v = l.parts.version in
    let own = l.attrs.items in
    join (g >>= λ a. repeat (λ before. attr v) (own ++ a ∷ []) l.attrs_left) (λ notes. var_list l.parts notes) n (AttrAndMore v own reach) (InPart (parts.Global (length own)) reach) (attr_and_more l g n reach h)
    (λ all m both. weaken (var_list l.parts all) m (AllVars l.parts all (m + list_size v)) (InPart (parts.Global (length own)) reach)
    (λ x end is.
    let s = schema_of l.parts all is.0 in
    subst (λ (t : Schema). Within (parts.Global (length own)) reach t end) (sym is.1)
    (within_global s own both.3.0 both.0 reach end (attr_split v own all reach m both) (omega (arith, both.2.0, both.2.1)) (omega (arith, is.2, both.3.2, both.2.0))))
    (rest_of_var_list l.parts all m))
in_this_attr owners.Variable l g n reach h =
    let v = l.parts.version in
    let own = l.attrs.items in
    let part = parts.Attr (var_number l) (length own) in
    let text = l.var.name in
    let ids = l.var.dims.items in
    join (g >>= λ a. repeat (λ before. attr v) (own ++ a ∷ []) l.attrs_left) (λ notes. in_var l.parts l.vars (from_type v text ids notes)) n (AttrAndMore v own reach) (InPart part reach) (attr_and_more l g n reach h)
    (λ all m both. weaken (in_var l.parts l.vars (from_type v text ids all)) m (ThisVar l.parts l.vars (IsVar v text ids all m)) (InPart part reach)
    (λ x end is.
    let y = is.0.0 in
    let vars = is.3.0 in
    let s = schema_of l.parts l.parts.gatts.items (l.vars.vars.items ++ y ∷ vars) in
    subst (λ (t : Schema). Within part reach t end) (sym is.3.1)
    (within_attr s l.vars.vars.items vars y refl own both.3.0 both.0 reach end (is.2.2 ∙ attr_split v own all reach m both) (omega (arith, both.2.0, both.2.1))
    (omega (arith, is.3.2, is.2.3, both.3.2, both.2.0))))
    (rest_of_var l.parts l.vars (from_type v text ids all) m (IsVar v text ids all m) (in_type v text ids all m)))

-- ---- variables

abbrev ThisName : Version → (reach : ℕ) → Var × Place → ℕ → Type 0
ThisName v reach y m = (m ≡ length (canon_unplaced v y.0)) × (reach ≤ length (canon_name v y.0.name) + length (canon_dimids v y.0.dims))

in_this_var : (l : Lists) (g : Grammar (Var × Place)) (n reach : ℕ) → Runs g n (ThisName l.parts.version reach) → Runs (in_var l.parts l.vars g) n (InPart (parts.Var (var_number l)) reach)
in_this_var l g n reach h =
    let part = parts.Var (var_number l) in
    weaken (in_var l.parts l.vars g) n (ThisVar l.parts l.vars (ThisName l.parts.version reach)) (InPart part reach)
    (λ x end is.
    let y = is.0.0 in
    let vars = is.3.0 in
    let s = schema_of l.parts l.parts.gatts.items (l.vars.vars.items ++ y ∷ vars) in
    subst (λ (t : Schema). Within part reach t end) (sym is.3.1) (within_var s l.vars.vars.items vars y refl reach end is.2.1 (omega (arith, is.3.2, is.2.0))))
    (rest_of_var l.parts l.vars g n (ThisName l.parts.version reach) h)

abbrev TheseFields : Version → Var × Place → ℕ → Type 0
TheseFields v y m = m ≡ fields_size v

in_this_place : (l : Lists) (g : Grammar (Var × Place)) (n reach : ℕ) → reach ≤ fields_size l.parts.version → Runs g n (TheseFields l.parts.version) → Runs (in_var l.parts l.vars g) n (InPart (parts.Place (var_number l)) reach)
in_this_place l g n reach few h =
    let part = parts.Place (var_number l) in
    weaken (in_var l.parts l.vars g) n (ThisVar l.parts l.vars (TheseFields l.parts.version)) (InPart part reach)
    (λ x end is.
    let y = is.0.0 in
    let vars = is.3.0 in
    let s = schema_of l.parts l.parts.gatts.items (l.vars.vars.items ++ y ∷ vars) in
    subst (λ (t : Schema). Within part reach t end) (sym is.3.1) (within_place s l.vars.vars.items vars y refl reach end few (omega (arith, is.3.2, is.2))))
    (rest_of_var l.parts l.vars g n (TheseFields l.parts.version) h)

-- ---- an attribute, from each of its fields on

-- its values are the last thing that its length hangs on
attr_size : (v : Version) (text : List ℕ) (t : XType) (k : ℕ) (b : List ℕ) → length b ≡ k * bytes_each t
    → length (canon_attr v (record { name = text; values = values_of t b })) ≡ length (canon_name v text) + (4 + count_width_of v) + k * bytes_each t + padding_of (k * bytes_each t)
attr_size v text t k b e =
    let number : count_of (values_of t b) ≡ k = count_of-values_of t k b e in
    let size : count_of (values_of t b) * bytes_each (type_of (values_of t b)) ≡ k * bytes_each t =
    ap (λ (x : XType). count_of (values_of t b) * bytes_each x) (type_of-values_of t b) ∙ ap (λ (j : ℕ). j * bytes_each t) number in
    omega (arith, length-canon_attr v (record { name = text; values = values_of t b }), size, ap padding_of size)

behind_values : (v : Version) (text : List ℕ) (t : XType) (k n reach : ℕ) → n ≡ length (canon_name v text) + 4 + count_width_of v → reach ≤ n + k * bytes_each t → Runs (from_values text t k) n (ThisAttr v reach)
behind_values v text t k n reach is few = λ b e zeros f. (omega (arith, is, attr_size v text t k b e), omega (arith, few))

behind_count : (v : Version) (text : List ℕ) (t : XType) (n reach : ℕ) → n ≡ length (canon_name v text) + 4 → reach ≤ n + count_width_of v → Runs (from_attr_count v text t) n (ThisAttr v reach)
behind_count v text t n reach is few = λ b e. behind_values v text t (number_of b) (n + count_width_of v) reach (omega (arith, is)) (omega (arith, few))

behind_type : (v : Version) (text : List ℕ) (n : ℕ) → n ≡ length (canon_name v text) → (reach : ℕ) → reach ≤ n + 4 → Runs (from_attr_type v text) n (ThisAttr v reach)
behind_type v text n is reach few = λ b e. behind_count v text _ (n + 4) reach (omega (arith, is)) (omega (arith, few))

-- ---- the rest, behind each name

abbrev pub after_name : Named → Lists → (text : List ℕ) → ℕ
after_name x l text = length (canon_name l.parts.version text)

in_named : (x : Named) (l : Lists) (text : List ℕ) (reach : ℕ) → reach ≤ after_name x l text → Runs (with_name x l text) (after_name x l text) (InPart (named_part x l) reach)
in_named named.Dim l text reach few =
    let v = l.parts.version in
    in_this_dim l (from_length l.parts text) (after_name named.Dim l text) reach
    (λ b e. let d : Dim = record { name = text; length = number_of b } in (sym (length-canon_dim v d), omega (arith, few)))
in_named (named.Attr o) l text reach few =
    let v = l.parts.version in
    let n = after_name (named.Attr o) l text in
    in_this_attr o l (from_attr_type v text) n reach (behind_type v text n refl reach (omega (arith, few)))
in_named named.Var l text reach few =
    let v = l.parts.version in
    let n = after_name named.Var l text in
    in_this_var l (from_rank l.parts text) n reach
    (weaken (from_rank l.parts text) n (HasName v text n) (ThisName v reach)
    (λ y m is. (omega (arith, is.1, length-canon_var v y.0 no_place, ap (λ t. length (canon_name v t)) is.0), omega (arith, few, ap (λ t. length (canon_name v t)) is.0)))
    (in_rank l.parts text n))

-- ---- lists

in_list_of : (o : Owner) (l : Lists) (notes : List Attr) (m reach : ℕ) → reach ≤ list_size l.parts.version → m ≡ list_size l.parts.version + length (flat_map (canon_attr l.parts.version) notes)
    → Runs (with_attrs o l.parts l.vars l.var notes) m (InPart (list_part o l) reach)
in_list_of owners.File l notes m reach few q =
    let v = l.parts.version in
    weaken (var_list l.parts notes) m (AllVars l.parts notes (m + list_size v)) (InPart parts.GlobalList reach)
    (λ x end is.
    let s = schema_of l.parts notes is.0 in
    subst (λ (t : Schema). Within parts.GlobalList reach t end) (sym is.1) (within_global_list s reach end few (omega (arith, is.2, q))))
    (rest_of_var_list l.parts notes m)
in_list_of owners.Variable l notes m reach few q =
    let v = l.parts.version in
    let part = parts.AttrList (var_number l) in
    let g = from_type v l.var.name l.var.dims.items notes in
    weaken (in_var l.parts l.vars g) m (ThisVar l.parts l.vars (IsVar v l.var.name l.var.dims.items notes m)) (InPart part reach)
    (λ x end is.
    let y = is.0.0 in
    let vars = is.3.0 in
    let s = schema_of l.parts l.parts.gatts.items (l.vars.vars.items ++ y ∷ vars) in
    subst (λ (t : Schema). Within part reach t end) (sym is.3.1)
    (within_attr_list s l.vars.vars.items vars y refl reach end few (omega (arith, is.3.2, is.2.3, q, ap (λ xs. length (flat_map (canon_attr v) xs)) is.2.2))))
    (rest_of_var l.parts l.vars g m (IsVar v l.var.name l.var.dims.items notes m) (in_type v l.var.name l.var.dims.items notes m))

-- the tag of the list of attributes, and their number
in_attr_list : (o : Owner) (l : Lists) (reach : ℕ) → reach ≤ list_size l.parts.version → Runs (attrs l.parts.version >>= with_attrs o l.parts l.vars l.var) 0 (InPart (list_part o l) reach)
in_attr_list o l reach few =
    let v = l.parts.version in
    join (attrs v) (with_attrs o l.parts l.vars l.var) 0 (AllItems (canon_attr v) (0 + list_size v)) (InPart (list_part o l) reach) (in_attrs v 0)
    (λ notes m q. in_list_of o l notes m reach few (omega (arith, q)))

in_attr_number : (o : Owner) (l : Lists) (t reach : ℕ) → reach ≤ list_size l.parts.version
    → Runs ((list_nelems l.parts.version t >>= repeat (λ before. attr l.parts.version) []) >>= with_attrs o l.parts l.vars l.var) 4 (InPart (list_part o l) reach)
in_attr_number o l t reach few =
    let v = l.parts.version in
    λ b e. join (repeat (λ before. attr v) [] (number_of b)) (with_attrs o l.parts l.vars l.var) (4 + count_width_of v) (AllItems (canon_attr v) (4 + count_width_of v)) (InPart (list_part o l) reach)
    (in_all (λ before. attr v) (canon_attr v) (λ before. run_attr v) (number_of b) (4 + count_width_of v))
    (λ notes m q. in_list_of o l notes m reach few q)

in_var_list : (p : Parts) (reach : ℕ) → reach ≤ list_size p.version → Runs (var_list p p.gatts.items) 0 (InPart parts.VarList reach)
in_var_list p reach few =
    weaken (var_list p p.gatts.items) 0 (AllVars p p.gatts.items (0 + list_size p.version)) (InPart parts.VarList reach)
    (λ x end is. subst (λ (t : Schema). Within parts.VarList reach t end) (sym is.1) (within_var_list (schema_of p p.gatts.items is.0) reach end few (omega (arith, is.2))))
    (rest_of_var_list p p.gatts.items 0)

in_var_number : (p : Parts) (t reach : ℕ) → reach ≤ list_size p.version
    → Runs ((list_nelems p.version t >>= repeat (λ before. var p.version p.dims.items) []) >>= ended p p.gatts.items) 4 (InPart parts.VarList reach)
in_var_number p t reach few =
    let n = 4 + count_width_of p.version in
    λ b e. weaken (repeat (λ before. var p.version p.dims.items) [] (number_of b) >>= ended p p.gatts.items) n (AllVars p p.gatts.items n) (InPart parts.VarList reach)
    (λ x end is. subst (λ (t : Schema). Within parts.VarList reach t end) (sym is.1) (within_var_list (schema_of p p.gatts.items is.0) reach end few (omega (arith, is.2))))
    (rest_of_all_vars p p.gatts.items (number_of b) n)

-- ---- the front of a header

-- the schema is of this version, and its lists take the rest
abbrev AllLists : Version → (n : ℕ) → Given → ℕ → Type 0
AllLists v n x m =
    (x.0.version ≡ v)
    × (m ≡ n + (list_size v + length (flat_map (canon_dim v) x.0.dims)) + (list_size v + length (flat_map (canon_attr v) x.0.gatts)) + (list_size v + length (flat_map (canon_unplaced v) x.0.vars)))

rest_of_lists : (v : Version) (c : Count) (n : ℕ) → Runs (from_count v c) n (AllLists v n)
rest_of_lists v c n =
    join (list v nc_dimension (dim v)) (with_dims v c) n (AllItems (canon_dim v) (n + list_size v)) (AllLists v n) (in_list v nc_dimension (dim v) (canon_dim v) (run_dim v) n)
    (λ dims m q. weaken (with_dims v c dims) m (HasDims v dims m) (AllLists v n)
    (λ x end is. (is.0, omega (arith, is.2, q, ap (λ xs. length (flat_map (canon_dim v) xs)) is.1)))
    (rest_of_dims v c dims m))

rest_of_counted : (v : Version) (c : Count) (t n : ℕ) → Runs ((list_nelems v t >>= repeat (dim v) []) >>= with_dims v c) (n + 4) (AllLists v n)
rest_of_counted v c t n =
    λ b e. join (repeat (dim v) [] (number_of b)) (with_dims v c) (n + 4 + count_width_of v) (AllItems (canon_dim v) (n + 4 + count_width_of v)) (AllLists v n)
    (in_all (dim v) (canon_dim v) (run_dim v) (number_of b) (n + 4 + count_width_of v))
    (λ dims m q. weaken (with_dims v c dims) m (HasDims v dims m) (AllLists v n)
    (λ x end is. (is.0, omega (arith, is.2, q, ap (λ xs. length (flat_map (canon_dim v) xs)) is.1)))
    (rest_of_dims v c dims m))

-- all of a header is as long as its lists and what stands before them
whole_of : (v : Version) (n m : ℕ) (x : Given) → AllLists v n x m → m + (4 + count_width_of v) ≡ header_length x.0 + n
whole_of v n m x is = subst (λ (w : Version). AllLists w n x m → m + (4 + count_width_of w) ≡ header_length x.0 + n) is.0 (λ all. omega (arith, all.1, whole x.0)) is

rest_of_version : (v : Version) (n : ℕ) → Runs (from_version v) n (λ x m. m + 4 ≡ header_length x.0 + n)
rest_of_version v n =
    λ b e. weaken (from_count v _) (n + count_width_of v) (AllLists v (n + count_width_of v)) (λ x m. m + 4 ≡ header_length x.0 + n)
    (λ x m is. omega (arith, whole_of v (n + count_width_of v) m x is))
    (rest_of_lists v _ (n + count_width_of v))

in_magic : (n reach : ℕ) → reach ≤ 4 → n ≡ 3 → Runs (version >>= from_version) n (InPart parts.Magic reach)
in_magic n reach few is =
    λ b e. weaken (from_version _) (n + 1) (λ x m. m + 4 ≡ header_length x.0 + (n + 1)) (InPart parts.Magic reach)
    (λ x m q. within_magic x.0 reach m few (omega (arith, q, is)))
    (rest_of_version _ (n + 1))

-- ---- wherever a decoder stands

-- The next field, of this size, is in this part, so many bytes behind its first one.
pub record Located (next : Next) (b : Partial) (size : ℕ) : Type 0 where
  pub part : Part
  pub told : next_part next b.lists ≡ Some part
  pub into : ℕ
  pub runs : Runs (left_of next b) into (InPart part (into + size))

named_first : (x : Named) (l : Lists) (size : ℕ) → size ≡ count_width_of l.parts.version → Runs (name l.parts.version >>= with_name x l) 0 (InPart (named_part x l) (0 + size))
named_first x l size is =
    let v = l.parts.version in
    join (name v) (with_name x l) 0 (λ text m. m ≡ 0 + length (canon_name v text)) (InPart (named_part x l) (0 + size)) (in_name v 0)
    (λ text m q. from_same (with_name x l text) m (after_name x l text) (InPart (named_part x l) (0 + size)) (omega (arith, q)) (in_named x l text (0 + size) (omega (arith, is, length-canon_name v text))))

var_from : (v : Version) (x : Var) (n : ℕ) → n ≡ 4 → Runs (from_vsize v x) n (TheseFields v)
var_from v x n is = weaken (from_vsize v x) n (λ y m. (y.0 ≡ x) × (m ≡ n + count_width_of v + offset_width_of v)) (TheseFields v) (λ y m q. omega (arith, q.1, is)) (in_vsize v x n)

-- so many numbers, and one more before them
numbers : (v : Version) (i j : ℕ) → count_width_of v * (1 + (i + j)) ≡ count_width_of v + count_width_of v * i + count_width_of v * j
numbers V1 i j = omega arith
numbers V2 i j = omega arith
numbers V5 i j = omega arith

one_more : (v : Version) (i : ℕ) → count_width_of v * (1 + i) ≡ count_width_of v + count_width_of v * i
one_more V1 i = omega arith
one_more V2 i = omega arith
one_more V5 i = omega arith

-- behind some of a variable's numbers of dimensions
in_ids : (v : Version) (text ids : List ℕ) (n m reach : ℕ) (y : Var × Place) → reach ≤ n → n ≡ length (canon_name v text) + count_width_of v + count_width_of v * length ids → HasFirstDims v text ids n y m → ThisName v reach y m
in_ids v text ids n m reach y few begun q =
    let w = count_width_of v in
    let more = q.1.0 in
    let named : length (canon_name v y.0.name) ≡ length (canon_name v text) = ap (λ t. length (canon_name v t)) q.0 in
    let all : length y.0.dims ≡ length ids + length more = ap length q.1.1 ∙ length-append ids more in
    let counted : length (canon_dimids v y.0.dims) ≡ w + w * length ids + w * length more = length-canon_dimids v y.0.dims ∙ ap (λ k. w * (1 + k)) all ∙ numbers v (length ids) (length more) in
    let later : w + length (flat_map (big_endian w) more) ≡ w + w * length more =
    omega (arith, length-append (big_endian w (length more)) (flat_map (big_endian w) more), length-big_endian w (length more), length-canon_dimids v more ∙ one_more v (length more)) in
    (omega (arith, q.1.2, begun, length-canon_var v y.0 no_place, named, counted, later), omega (arith, few, begun, named, counted))

pub located : (next : Next) (b : Partial) (size : ℕ) → size_of (left_of next b) ≡ Some size → Located next b size
located nexts.Magic b size e =
    let is : 3 ≡ size = cc in
    record { part = parts.Magic; told = refl; into = 0; runs = λ letters f. in_magic (0 + 3) (0 + size) (omega (arith, is)) (omega arith) }
located nexts.VersionByte b size e =
    let is : 1 ≡ size = cc in
    record { part = parts.Magic; told = refl; into = 3; runs = in_magic 3 (3 + size) (omega (arith, is)) refl }
located nexts.NumRecs b size e =
    let v = b.lists.parts.version in
    let is : count_width_of v ≡ size = cc in
    record {
      part = parts.NumRecs;
      told = refl;
      into = 0;
      runs = λ c f. weaken (from_count v _) (0 + count_width_of v) (AllLists v (0 + count_width_of v)) (InPart parts.NumRecs (0 + size))
          (λ x m q. within_numrecs x.0 (0 + size) m (omega (arith, is, ap count_width_of q.0)) (omega (arith, whole_of v (0 + count_width_of v) m x q)))
          (rest_of_lists v _ (0 + count_width_of v));
    }
located nexts.DimsTag b size e =
    let v = b.lists.parts.version in
    let c = b.lists.parts.count in
    let is : 4 ≡ size = cc in
    record {
      part = parts.DimList;
      told = refl;
      into = 0;
      runs = weaken (from_count v c) 0 (AllLists v 0) (InPart parts.DimList (0 + size))
          (λ x m q. within_dim_list x.0 (0 + size) m (omega (arith, is)) (omega (arith, ap count_width_of q.0, whole_of v 0 m x q)))
          (rest_of_lists v c 0);
    }
located (nexts.DimsCount t) b size e =
    let v = b.lists.parts.version in
    let c = b.lists.parts.count in
    let is : count_width_of v ≡ size = cc in
    record {
      part = parts.DimList;
      told = refl;
      into = 4;
      runs = weaken ((list_nelems v t >>= repeat (dim v) []) >>= with_dims v c) 4 (AllLists v 0) (InPart parts.DimList (4 + size))
          (λ x m q. within_dim_list x.0 (4 + size) m (omega (arith, is, ap list_size q.0)) (omega (arith, ap count_width_of q.0, whole_of v 0 m x q)))
          (rest_of_counted v c t 0);
    }
located (nexts.NameLength x) b size e =
    let is : count_width_of b.lists.parts.version ≡ size = cc in
    record { part = named_part x b.lists; told = refl; into = 0; runs = named_first x b.lists size (sym is) }
located (nexts.NameText x n) b size e =
    let l = b.lists in
    let v = l.parts.version in
    let w = count_width_of v in
    let is : n ≡ size = cc in
    record {
      part = named_part x l;
      told = refl;
      into = w;
      runs = λ text f zeros g. from_same (with_name x l text) (w + n + padding_of n) (after_name x l text) (InPart (named_part x l) (w + size))
          (omega (arith, length-canon_name v text, f, ap padding_of f))
          (in_named x l text (w + size) (omega (arith, length-canon_name v text, f, is)));
    }
located (nexts.NamePadding x) b size e =
    let l = b.lists in
    let v = l.parts.version in
    let n = count_width_of v + length b.name in
    let pad = padding_of (length b.name) in
    let is : pad ≡ size = cc in
    record {
      part = named_part x l;
      told = refl;
      into = n;
      runs = λ zeros g. from_same (with_name x l b.name) (n + pad) (after_name x l b.name) (InPart (named_part x l) (n + size))
          (omega (arith, length-canon_name v b.name))
          (in_named x l b.name (n + size) (omega (arith, length-canon_name v b.name, is)));
    }
located nexts.DimLength b size e =
    let l = b.lists in
    let v = l.parts.version in
    let n = length (canon_name v b.name) in
    let is : count_width_of v ≡ size = cc in
    record {
      part = named_part named.Dim l;
      told = refl;
      into = n;
      runs = in_this_dim l (from_length l.parts b.name) n (n + size)
          (λ c f. let d : Dim = record { name = b.name; length = number_of c } in (sym (length-canon_dim v d), omega (arith, is)));
    }
located (nexts.AttrsTag o) b size e =
    let is : 4 ≡ size = cc in
    record { part = list_part o b.lists; told = refl; into = 0; runs = in_attr_list o b.lists (0 + size) (omega (arith, is)) }
located (nexts.AttrsCount o t) b size e =
    let is : count_width_of b.lists.parts.version ≡ size = cc in
    record { part = list_part o b.lists; told = refl; into = 4; runs = in_attr_number o b.lists t (4 + size) (omega (arith, is)) }
located (nexts.AttrType o) b size e =
    let l = b.lists in
    let v = l.parts.version in
    let n = length (canon_name v b.name) in
    let is : 4 ≡ size = cc in
    record { part = attr_part o l; told = refl; into = n; runs = in_this_attr o l (from_attr_type v b.name) n (n + size) (behind_type v b.name n refl (n + size) (omega (arith, is))) }
located (nexts.AttrCount o t) b size e =
    let l = b.lists in
    let v = l.parts.version in
    let n = length (canon_name v b.name) + 4 in
    let is : count_width_of v ≡ size = cc in
    record { part = attr_part o l; told = refl; into = n; runs = in_this_attr o l (from_attr_count v b.name t) n (n + size) (behind_count v b.name t n (n + size) refl (omega (arith, is))) }
located (nexts.AttrValues o k) b size e =
    let l = b.lists in
    let v = l.parts.version in
    let t = type_of b.body.values in
    let n = length (canon_name v b.name) + 4 + count_width_of v in
    let is : k * bytes_each t ≡ size = cc in
    record { part = attr_part o l; told = refl; into = n; runs = in_this_attr o l (from_values b.name t k) n (n + size) (behind_values v b.name t k n (n + size) refl (omega (arith, is))) }
located (nexts.AttrPadding o k) b size e =
    let l = b.lists in
    let v = l.parts.version in
    let a : Attr = record { name = b.name; values = b.body.values } in
    let n = length (canon_attr v a) - padding_of k in
    let is : padding_of k ≡ size = cc in
    let long = length-canon_attr v a in
    let few : padding_of k < 4 = omega arith in
    record {
      part = attr_part o l;
      told = refl;
      into = n;
      runs = in_this_attr o l (from_attr_padding b.name k b.body.values) n (n + size) (λ zeros f. (omega (arith, long, few), omega (arith, is)));
    }
located nexts.VarsTag b size e =
    let is : 4 ≡ size = cc in
    record { part = parts.VarList; told = refl; into = 0; runs = in_var_list b.lists.parts (0 + size) (omega (arith, is)) }
located (nexts.VarsCount t) b size e =
    let is : count_width_of b.lists.parts.version ≡ size = cc in
    record { part = parts.VarList; told = refl; into = 4; runs = in_var_number b.lists.parts t (4 + size) (omega (arith, is)) }
located nexts.DimIdsCount b size e =
    let l = b.lists in
    let v = l.parts.version in
    let text = l.var.name in
    let n = length (canon_name v text) in
    let is : count_width_of v ≡ size = cc in
    record {
      part = parts.Var (var_number l);
      told = refl;
      into = n;
      runs = in_this_var l (from_rank l.parts text) n (n + size)
          (weaken (from_rank l.parts text) n (HasName v text n) (ThisName v (n + size))
          (λ y m q. (
            omega (arith, q.1, length-canon_var v y.0 no_place, ap (λ t. length (canon_name v t)) q.0),
            omega (arith, is, ap (λ t. length (canon_name v t)) q.0, length-canon_dimids v y.0.dims),
          ))
          (in_rank l.parts text n));
    }
located (nexts.DimId k) b size e =
    let l = b.lists in
    let v = l.parts.version in
    let w = count_width_of v in
    let text = l.var.name in
    let ids = l.var.dims.items in
    let item = dimid v l.parts.dims.items in
    let n = length (canon_name v text) + w + w * length ids in
    let is : w ≡ size = cc in
    record {
      part = parts.Var (var_number l);
      told = refl;
      into = n;
      runs = in_this_var l ((item ids >>= λ i. repeat item (ids ++ i ∷ []) k) >>= λ dims. from_dims_of_var v text dims) n (n + size)
          (λ c f.
          let now = ids ++ number_of c ∷ [] in
          let count : length now ≡ 1 + length ids = omega (arith, length-append ids (number_of c ∷ [])) in
          let long : w * length now ≡ w + w * length ids = ap (λ j. w * j) count ∙ one_more v (length ids) in
          weaken (from_dimids l.parts text now k) (n + w) (HasFirstDims v text now (n + w)) (ThisName v (n + size))
          (λ y m q. in_ids v text now (n + w) m (n + size) y (omega (arith, is)) (omega (arith, long)) q)
          (in_dimids l.parts text now k (n + w)));
    }
located nexts.VarType b size e =
    let l = b.lists in
    let v = l.parts.version in
    let is : 4 ≡ size = cc in
    let g = from_type v l.var.name l.var.dims.items l.attrs.items in
    record {
      part = parts.Place (var_number l);
      told = refl;
      into = 0;
      runs = in_this_place l g 0 (0 + size) (omega (arith, is))
          (weaken g 0 (IsVar v l.var.name l.var.dims.items l.attrs.items 0) (TheseFields v) (λ y m q. omega (arith, q.3)) (in_type v l.var.name l.var.dims.items l.attrs.items 0));
    }
located (nexts.Vsize t) b size e =
    let l = b.lists in
    let v = l.parts.version in
    let is : count_width_of v ≡ size = cc in
    record { part = parts.Place (var_number l); told = refl; into = 4; runs = in_this_place l (from_vsize v (var_of l t)) 4 (4 + size) (omega (arith, is)) (var_from v (var_of l t) 4 refl) }
located (nexts.VarBegin t vsize) b size e =
    let l = b.lists in
    let v = l.parts.version in
    let n = 4 + count_width_of v in
    let is : offset_width_of v ≡ size = cc in
    record { part = parts.Place (var_number l); told = refl; into = n; runs = in_this_place l (from_begin v (var_of l t) vsize) n (n + size) (omega (arith, is)) (λ c f. refl) }
located nexts.Whole b size e = absurd cc
