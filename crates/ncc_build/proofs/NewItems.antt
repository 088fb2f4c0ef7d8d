-- What was built stays so with one item more.
use Rattle.std.proofs.Common.{◌≡◌, ℕ, zero, suc, ◌+◌, ◌<◌, ◌≤◌, Bool, true, false, ◌&&◌, List, [], ◌∷◌, ◌++◌, length, map, get_or, None, refl, sym, ap, subst, ◌∙◌, arith}
use Rattle.std.specs.Prelude.{if◌then◌else◌, ◌==◌, ltb}
use Rattle.std.specs.List.{AllByRecursion}
use Rattle.std.proofs.lemmas.Bool.{ltb-false}
use Rattle.std.proofs.lemmas.List.{map-append, length-append, length-map, get_or_append_left}
use Rattle.ncc_values.specs.Name.{FitsAsName}
use Rattle.ncc_values.specs.Numbers.{IsBytes}
use Rattle.ncc_values.specs.Values.{type_of, count_of, AreInRange}
use Rattle.ncc_values.specs.declared.values.Values.{Values}
use Rattle.ncc_values.specs.declared.version.Version.{Version}
use Rattle.ncc_values.specs.declared.xtype.XType.{XType}
use Rattle.ncc_schema.specs.declared.schema.Dim.{Dim}
use Rattle.ncc_schema.specs.declared.schema.Attr.{Attr}
use Rattle.ncc_schema.specs.declared.schema.Var.{Var}
use Rattle.ncc_schema.specs.declared.schema.Schema.{Schema}
use Rattle.ncc_schema.specs.Schema.{count_limit, record_dims, lengths, with_count, IsFixed, LegalDims, LegalDim, LegalAttr, LegalVar, IsTypedAttr, IsTypedVar}
use Rattle.ncc_build.specs.Building.{dim_names, var_names, attr_names, AreNames, AreShort, IsBuilt, refuses_dim, refuses_global, refuses_attr_of, refuses_attr, refuses_var, with_dim, with_global, with_var, with_attr, var_with, vars_with}
use Rattle.ncc_build.specs.Judging.{dim_refusals, dims_refusals, kind_refusals}
use Rattle.ncc_build.proofs.Lists.{all_last, all_other}
use Rattle.ncc_build.proofs.Passing.{names_fit, lengths_fit, counts_fit, name_passes, dim_passes, kind_passes, ids_pass}
use Rattle.ncc_build.proofs.NewNames.{are_names_last, are_short_last}

-- ---- a dimension

count_by_kind : (b : Bool) (k more : ℕ) (c : Bool) → more ≡ (if c then 1 else 0) + k → (if b then suc more else more) ≡ (if c then 1 else 0) + (if b then suc k else k)
count_by_kind true k more true e = omega (arith, e)
count_by_kind true k more false e = omega (arith, e)
count_by_kind false k more c e = e

one_record : (b : Bool) → (if b then 1 else 0) ≡ (if b then 1 else 0) + 0
one_record true = refl
one_record false = refl

pub record_dims_last : (dims : List Dim) (d : Dim) → record_dims (dims ++ d ∷ []) ≡ (if d.length == 0 then 1 else 0) + record_dims dims
record_dims_last [] d = one_record (d.length == 0)
record_dims_last (x ∷ dims) d = count_by_kind (x.length == 0) (record_dims dims) (record_dims (dims ++ d ∷ [])) (d.length == 0) (record_dims_last dims d)

one_still : (b : Bool) (k : ℕ) → (b && ltb 0 k) ≡ false → k ≤ 1 → (if b then 1 else 0) + k ≤ 1
one_still true k e le = let z = ltb-false 0 k e in omega (arith, z)
one_still false k e le = omega (arith, le)

fixed_still : (dims : List Dim) (d : Dim) (n : ℕ) → IsFixed dims n → IsFixed (dims ++ d ∷ []) n
fixed_still dims d n f = (
  omega (arith, f.0, length-append dims (d ∷ [])),
  ap (λ ls. get_or ls n 1 == 0) (map-append (λ (x : Dim). x.length) dims (d ∷ []))
      ∙ ap (λ m. m == 0) (get_or_append_left (lengths dims) (d.length ∷ []) 1 n (subst (λ k. n < k) (sym (length-map dims (λ (x : Dim). x.length))) f.0))
      ∙ f.1,
)

dims_still : (dims : List Dim) (d : Dim) (ids : List ℕ) → LegalDims dims ids → LegalDims (dims ++ d ∷ []) ids
dims_still dims d [] legal = tt
dims_still dims d (n ∷ ids) legal = (
  omega (arith, legal.0, length-append dims (d ∷ [])),
  all_other (IsFixed dims) (IsFixed (dims ++ d ∷ [])) ids (fixed_still dims d) legal.1,
)

var_still : (v : Version) (dims : List Dim) (d : Dim) (x : Var) → LegalVar v dims x → LegalVar v (dims ++ d ∷ []) x
var_still v dims d x legal = record {
  name = legal.name;
  rank = legal.rank;
  dimids = dims_still dims d x.dims legal.dimids;
  attrs_number = legal.attrs_number;
  attrs = legal.attrs;
  xtype = legal.xtype;
}

pub built_with_dim : (s : Schema) (name : List ℕ) (n : ℕ) → IsBuilt s → FitsAsName name → IsBytes name → refuses_dim true s name n ≡ None → IsBuilt (with_dim s name n)
built_with_dim s name n built fits bytes none =
    let named = name_passes (dim_names s) name (dim_refusals s.version s.dims n) none in
    let room = dim_passes s.version s.dims n named.2 in
    let d : Dim = record { name = name; length = n } in
    record {
      sound = record {
        count = built.sound.count;
        dims_number = omega (arith, room.1, length-append s.dims (d ∷ []));
        dims = all_last (LegalDim s.version) s.dims d built.sound.dims (record { name = names_fit s.version (length name) named.0; long = lengths_fit s.version n room.2 });
        one_record_dim = subst (λ k. k ≤ 1) (sym (record_dims_last s.dims d)) (one_still (n == 0) (record_dims s.dims) room.0 built.sound.one_record_dim);
        gatts_number = built.sound.gatts_number;
        gatts = built.sound.gatts;
        vars_number = built.sound.vars_number;
        vars = all_other (LegalVar s.version s.dims) (LegalVar s.version (s.dims ++ d ∷ [])) s.vars (var_still s.version s.dims d) built.sound.vars;
      };
      typed = record { dims = all_last (λ (x : Dim). IsBytes x.name) s.dims d built.typed.dims bytes; gatts = built.typed.gatts; vars = built.typed.vars };
      names = record {
        dims = are_names_last (λ (x : Dim). x.name) s.dims d built.names.dims fits named.1;
        gatts = built.names.gatts;
        vars = built.names.vars;
        attrs = built.names.attrs;
      };
      short = record { dims = are_short_last (λ (x : Dim). x.name) s.dims d built.short.dims named.0; gatts = built.short.gatts; vars = built.short.vars; attrs = built.short.attrs };
      lengths = all_last (λ (x : Dim). x.length < count_limit s.version) s.dims d built.lengths room.2;
    }

-- ---- an attribute

record NewAttr (v : Version) (attrs : List Attr) (name : List ℕ) (values : Values) : Type 0 where
  number : length (attrs ++ record { name = name; values = values } ∷ []) < count_limit v
  legal : AllByRecursion (LegalAttr v) (attrs ++ record { name = name; values = values } ∷ [])
  typed : AllByRecursion IsTypedAttr (attrs ++ record { name = name; values = values } ∷ [])
  names : AreNames (attr_names (attrs ++ record { name = name; values = values } ∷ []))
  short : AreShort (attr_names (attrs ++ record { name = name; values = values } ∷ []))

new_attr : (v : Version) (attrs : List Attr) (name : List ℕ) (values : Values) → FitsAsName name → IsBytes name → AreInRange values → refuses_attr_of true v attrs name values ≡ None
    → AllByRecursion (LegalAttr v) attrs → AllByRecursion IsTypedAttr attrs → AreNames (attr_names attrs) → AreShort (attr_names attrs) → NewAttr v attrs name values
new_attr v attrs name values fits bytes range none legal typed names short =
    let a : Attr = record { name = name; values = values } in
    let named = name_passes (attr_names attrs) name (kind_refusals v (type_of values) (length attrs) (count_of values)) none in
    let kind = kind_passes v (type_of values) (length attrs) (count_of values) named.2 in
    record {
      number = omega (arith, kind.1, length-append attrs (a ∷ []));
      legal = all_last (LegalAttr v) attrs a legal (record { name = names_fit v (length name) named.0; xtype = kind.0; number = kind.2 });
      typed = all_last IsTypedAttr attrs a typed (record { name = bytes; values = range });
      names = are_names_last (λ (x : Attr). x.name) attrs a names fits named.1;
      short = are_short_last (λ (x : Attr). x.name) attrs a short named.0;
    }

pub built_with_global : (s : Schema) (name : List ℕ) (values : Values) → IsBuilt s → FitsAsName name → IsBytes name → AreInRange values → refuses_global true s name values ≡ None → IsBuilt (with_global s name values)
built_with_global s name values built fits bytes range none =
    let new = new_attr s.version s.gatts name values fits bytes range none built.sound.gatts built.typed.gatts built.names.gatts built.short.gatts in
    record {
      sound = record {
        count = built.sound.count;
        dims_number = built.sound.dims_number;
        dims = built.sound.dims;
        one_record_dim = built.sound.one_record_dim;
        gatts_number = new.number;
        gatts = new.legal;
        vars_number = built.sound.vars_number;
        vars = built.sound.vars;
      };
      typed = record { dims = built.typed.dims; gatts = new.typed; vars = built.typed.vars };
      names = record { dims = built.names.dims; gatts = new.names; vars = built.names.vars; attrs = built.names.attrs };
      short = record { dims = built.short.dims; gatts = new.short; vars = built.short.vars; attrs = built.short.attrs };
      lengths = built.lengths;
    }

-- ---- a variable

pub built_with_var : (s : Schema) (name : List ℕ) (t : XType) (ids : List ℕ) → IsBuilt s → FitsAsName name → IsBytes name → refuses_var true s name t ids ≡ None → IsBuilt (with_var s name t ids)
built_with_var s name t ids built fits bytes none =
    let x : Var = record { name = name; dims = ids; attrs = []; xtype = t } in
    let kinds = kind_refusals s.version t (length s.vars) (length ids) in
    let named = name_passes (var_names s) name (dims_refusals s.dims ids ++ kinds) none in
    let there = ids_pass s.dims ids kinds named.2 in
    let kind = kind_passes s.version t (length s.vars) (length ids) there.1 in
    record {
      sound = record {
        count = built.sound.count;
        dims_number = built.sound.dims_number;
        dims = built.sound.dims;
        one_record_dim = built.sound.one_record_dim;
        gatts_number = built.sound.gatts_number;
        gatts = built.sound.gatts;
        vars_number = omega (arith, kind.1, length-append s.vars (x ∷ []));
        vars = all_last (LegalVar s.version s.dims) s.vars x built.sound.vars (record {
          name = names_fit s.version (length name) named.0;
          rank = kind.2;
          dimids = there.0;
          attrs_number = omega (arith, kind.1);
          attrs = tt;
          xtype = kind.0;
        });
      };
      typed = record { dims = built.typed.dims; gatts = built.typed.gatts; vars = all_last IsTypedVar s.vars x built.typed.vars (record { name = bytes; attrs = tt }) };
      names = record {
        dims = built.names.dims;
        gatts = built.names.gatts;
        vars = are_names_last (λ (y : Var). y.name) s.vars x built.names.vars fits named.1;
        attrs = all_last (λ (y : Var). AreNames (attr_names y.attrs)) s.vars x built.names.attrs tt;
      };
      short = record {
        dims = built.short.dims;
        gatts = built.short.gatts;
        vars = are_short_last (λ (y : Var). y.name) s.vars x built.short.vars named.0;
        attrs = all_last (λ (y : Var). AreShort (attr_names y.attrs)) s.vars x built.short.attrs tt;
      };
      lengths = built.lengths;
    }

-- ---- an attribute of a variable

module _ (name : List ℕ) (values : Values) where
  -- what holds of each variable, holds with the attribute that passes
  all_with : (P : Var → Type 0) (Q : List Attr → Type 0) (vars : List Var) (n : ℕ) → ((x : Var) → P x → Q x.attrs → P (var_with x name values))
      → AllByRecursion P vars → Q (get_or (map (λ x. x.attrs) vars) n []) → AllByRecursion P (vars_with vars n name values)
  all_with P Q [] n step all here = tt
  all_with P Q (x ∷ vars) zero step all here = (step x all.0 here, all.1)
  all_with P Q (x ∷ vars) (suc n) step all here = (all.0, all_with P Q vars n step all.1 here)

  with_same_number : (vars : List Var) (n : ℕ) → length (vars_with vars n name values) ≡ length vars
  with_same_number [] n = refl
  with_same_number (x ∷ vars) zero = refl
  with_same_number (x ∷ vars) (suc n) = ap suc (with_same_number vars n)

  pub with_same_names : (vars : List Var) (n : ℕ) → map (λ x. x.name) (vars_with vars n name values) ≡ map (λ x. x.name) vars
  with_same_names [] n = refl
  with_same_names (x ∷ vars) zero = refl
  with_same_names (x ∷ vars) (suc n) = ap (λ names. x.name ∷ names) (with_same_names vars n)

-- all that is asked of a variable
record Kept (v : Version) (dims : List Dim) (x : Var) : Type 0 where
  legal : LegalVar v dims x
  typed : IsTypedVar x
  names : AreNames (attr_names x.attrs)
  short : AreShort (attr_names x.attrs)

module _ (s : Schema) (name : List ℕ) (values : Values) (fits : FitsAsName name) (bytes : IsBytes name) (range : AreInRange values) where
  kept_with : (x : Var) → Kept s.version s.dims x → refuses_attr_of true s.version x.attrs name values ≡ None → Kept s.version s.dims (var_with x name values)
  kept_with x kept none =
      let new = new_attr s.version x.attrs name values fits bytes range none kept.legal.attrs kept.typed.attrs kept.names kept.short in
      record {
        legal = record {
          name = kept.legal.name;
          rank = kept.legal.rank;
          dimids = kept.legal.dimids;
          attrs_number = new.number;
          attrs = new.legal;
          xtype = kept.legal.xtype;
        };
        typed = record { name = kept.typed.name; attrs = new.typed };
        names = new.names;
        short = new.short;
      }

  all_kept : (vars : List Var) → AllByRecursion (LegalVar s.version s.dims) vars → AllByRecursion IsTypedVar vars → AllByRecursion (λ x. AreNames (attr_names x.attrs)) vars → AllByRecursion (λ x. AreShort (attr_names x.attrs)) vars → AllByRecursion (Kept s.version s.dims) vars
  all_kept [] legal typed names short = tt
  all_kept (x ∷ vars) legal typed names short = (record { legal = legal.0; typed = typed.0; names = names.0; short = short.0 }, all_kept vars legal.1 typed.1 names.1 short.1)

  pub built_with_attr : (n : ℕ) → IsBuilt s → refuses_attr true s n name values ≡ None → IsBuilt (with_attr s n name values)
  built_with_attr n built none =
      let all = all_with name values (Kept s.version s.dims) (λ attrs. refuses_attr_of true s.version attrs name values ≡ None) s.vars n kept_with (all_kept s.vars built.sound.vars built.typed.vars built.names.attrs built.short.attrs) none in
      let more = vars_with s.vars n name values in
      record {
        sound = record {
          count = built.sound.count;
          dims_number = built.sound.dims_number;
          dims = built.sound.dims;
          one_record_dim = built.sound.one_record_dim;
          gatts_number = built.sound.gatts_number;
          gatts = built.sound.gatts;
          vars_number = subst (λ k. k < count_limit s.version) (sym (with_same_number name values s.vars n)) built.sound.vars_number;
          vars = all_other (Kept s.version s.dims) (LegalVar s.version s.dims) more (λ x k. k.legal) all;
        };
        typed = record { dims = built.typed.dims; gatts = built.typed.gatts; vars = all_other (Kept s.version s.dims) IsTypedVar more (λ x k. k.typed) all };
        names = record {
          dims = built.names.dims;
          gatts = built.names.gatts;
          vars = subst AreNames (sym (with_same_names name values s.vars n)) built.names.vars;
          attrs = all_other (Kept s.version s.dims) (λ (x : Var). AreNames (attr_names x.attrs)) more (λ x k. k.names) all;
        };
        short = record {
          dims = built.short.dims;
          gatts = built.short.gatts;
          vars = subst AreShort (sym (with_same_names name values s.vars n)) built.short.vars;
          attrs = all_other (Kept s.version s.dims) (λ (x : Var). AreShort (attr_names x.attrs)) more (λ x k. k.short) all;
        };
        lengths = built.lengths;
      }

-- ---- the number of records

pub built_with_count : (s : Schema) (records : ℕ) → IsBuilt s → records < count_limit s.version → IsBuilt (with_count s records)
built_with_count s records built less = record {
  sound = record {
    count = counts_fit s.version records less;
    dims_number = built.sound.dims_number;
    dims = built.sound.dims;
    one_record_dim = built.sound.one_record_dim;
    gatts_number = built.sound.gatts_number;
    gatts = built.sound.gatts;
    vars_number = built.sound.vars_number;
    vars = built.sound.vars;
  };
  typed = record { dims = built.typed.dims; gatts = built.typed.gatts; vars = built.typed.vars };
  names = record { dims = built.names.dims; gatts = built.names.gatts; vars = built.names.vars; attrs = built.names.attrs };
  short = record { dims = built.short.dims; gatts = built.short.gatts; vars = built.short.vars; attrs = built.short.attrs };
  lengths = built.lengths;
}
