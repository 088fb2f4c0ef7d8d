-- What is left of a header has so many bytes at least.
use Rattle.std.proofs.Common.{ℕ, ◌+◌, ◌*◌, ◌≤◌, List, [], ◌∷◌, ◌++◌, length, arith}
use Rattle.ncc_values.specs.Version.{count_width_of, offset_width_of}
use Rattle.ncc_values.specs.declared.version.Version.{Version}
use Rattle.ncc_values.specs.declared.version.Version.TheVariants.{V1, V2, V5}
use Rattle.ncc_values.specs.declared.xtype.XType.{XType}
use Rattle.ncc_values.specs.XType.{size_of as bytes_each}
use Rattle.ncc_values.specs.Padding.{padding_of}
use Rattle.ncc_values.specs.Values.{type_of}
use Rattle.ncc_schema.specs.declared.schema.Attr.{Attr}
use Rattle.ncc_schema.specs.declared.schema.Count.{Count}
use Rattle.ncc_schema.specs.declared.schema.Dim.{Dim}
use Rattle.ncc_schema.specs.declared.schema.Var.{Var}
use Rattle.ncc_schema.specs.Header.{nc_dimension, nc_variable, nc_attribute}
use Rattle.ncc_schema.specs.Schema.{Place}
use Rattle.ncc_header.specs.declared.partial.Partial.{Partial}
use Rattle.ncc_header.specs.declared.partial.Lists.{Lists}
use Rattle.ncc_header.specs.declared.partial.Named.{Named}
use Rattle.ncc_header.specs.declared.partial.Named.TheVariants as named
use Rattle.ncc_header.specs.declared.partial.Next.{Next}
use Rattle.ncc_header.specs.declared.partial.Next.TheVariants as nexts
use Rattle.ncc_header.specs.declared.partial.Owner.{Owner}
use Rattle.ncc_header.specs.declared.partial.Owner.TheVariants as owners
use Rattle.ncc_header.specs.declared.partial.Parts.{Parts}
use Rattle.ncc_header.specs.declared.partial.Vars.{Vars}
use Rattle.ncc_header.specs.Grammar.{Grammar, done, ◌>>=◌, repeat}
use Rattle.ncc_header.specs.Fields.{magic, version, numrecs, nelems, name, bytes, padding, list, list_head, list_tag, list_nelems, dim, dim_length, attr, attrs, nc_type, values, var, dimid, dimids, vsize, begin}
use Rattle.ncc_header.specs.Least.{rest_of_dims, rest_of_vars, rest_of_owner, rest_of_attrs, rest_of_named, rest_of}
use Rattle.ncc_header.specs.Left.{left_of, with_dims, in_dim, from_length, with_attrs, in_attr, from_attr_type, from_attr_count, from_values, from_attr_padding, var_list, ended, in_var, before_of, from_rank, from_dims_of_var, from_type, from_vsize, from_begin, with_name, var_of, from_version, from_count}
use Rattle.ncc_header.specs.Steps.{next_size}
use Rattle.ncc_header.proofs.AtLeast.{AtLeast, fewer, none, both, front, one, each}

count_width : (v : Version) → 4 ≤ count_width_of v
count_width V1 = omega arith
count_width V2 = omega arith
count_width V5 = omega arith

offset_width : (v : Version) → 4 ≤ offset_width_of v
offset_width V1 = omega arith
offset_width V2 = omega arith
offset_width V5 = omega arith

nelems_long : (v : Version) → AtLeast (nelems v) 4
nelems_long v = fewer 4 (count_width_of v) (count_width v) (one _ (count_width_of v) _ _)

-- ---- names and lists

name_long : (v : Version) → AtLeast (name v) 4
name_long v = front (nelems v) (λ n. bytes n >>= λ text. padding n >>= λ zeros. done text) 4 (nelems_long v)

list_head_long : (v : Version) (own : ℕ) → AtLeast (list_head v own) 8
list_head_long v own = both (list_tag own) (λ t. list_nelems v t) 4 4 (one _ 4 _ _) (λ t. fewer 4 (count_width_of v) (count_width v) (one _ (count_width_of v) _ _))

list_long : {A : Type 0} (v : Version) (own : ℕ) (item : List A → Grammar A) → AtLeast (list v own item) 8
list_long v own item = front (list_head v own) (λ n. repeat item [] n) 8 (list_head_long v own)

-- ---- dimensions and attributes

dim_long : (v : Version) (before : List Dim) → AtLeast (dim v before) 8
dim_long v before = both (name v) (λ text. dim_length v before >>= λ n. done (record { name = text; length = n })) 4 4 (name_long v)
    (λ text. front (dim_length v before) (λ n. done (record { name = text; length = n })) 4 (fewer 4 (count_width_of v) (count_width v) (one _ (count_width_of v) _ _)))

nc_type_long : (v : Version) → AtLeast (nc_type v) 4
nc_type_long v = one _ 4 _ _

from_attr_count_long : (v : Version) (text : List ℕ) (t : XType) → AtLeast (from_attr_count v text t) 4
from_attr_count_long v text t = front (nelems v) (λ k. from_values text t k) 4 (nelems_long v)

from_attr_type_long : (v : Version) (text : List ℕ) → AtLeast (from_attr_type v text) 8
from_attr_type_long v text = both (nc_type v) (from_attr_count v text) 4 4 (nc_type_long v) (λ t. from_attr_count_long v text t)

attr_long : (v : Version) → AtLeast (attr v) 12
attr_long v = both (name v) (from_attr_type v) 4 8 (name_long v) (from_attr_type_long v)

-- ---- variables

from_begin_long : (v : Version) (x : Var) (size : ℕ) → AtLeast (from_begin v x size) 4
from_begin_long v x size = front (begin v) (λ at. done (x, record { vsize = size; begin = at })) 4 (fewer 4 (offset_width_of v) (offset_width v) (one _ (offset_width_of v) _ _))

from_vsize_long : (v : Version) (x : Var) → AtLeast (from_vsize v x) 8
from_vsize_long v x = both (vsize v) (from_begin v x) 4 4 (fewer 4 (count_width_of v) (count_width v) (one _ (count_width_of v) _ _)) (from_begin_long v x)

from_type_long : (v : Version) (text dims : List ℕ) (notes : List Attr) → AtLeast (from_type v text dims notes) 12
from_type_long v text dims notes = both (nc_type v) (λ t. from_vsize v (record { name = text; dims = dims; attrs = notes; xtype = t })) 4 8 (nc_type_long v) (λ t. from_vsize_long v (record { name = text; dims = dims; attrs = notes; xtype = t }))

from_dims_long : (v : Version) (text dims : List ℕ) → AtLeast (from_dims_of_var v text dims) 20
from_dims_long v text dims = both (attrs v) (from_type v text dims) 8 12 (list_long v nc_attribute (λ before. attr v)) (from_type_long v text dims)

from_rank_long : (p : Parts) (text : List ℕ) → AtLeast (from_rank p text) 24
from_rank_long p text = both (dimids p.version p.dims.items) (from_dims_of_var p.version text) 4 20 (front (nelems p.version) (λ n. repeat (dimid p.version p.dims.items) [] n) 4 (nelems_long p.version)) (from_dims_long p.version text)

var_long : (p : Parts) → AtLeast (var p.version p.dims.items) 28
var_long p = both (name p.version) (from_rank p) 4 24 (name_long p.version) (from_rank_long p)

in_var_long : (p : Parts) (v : Vars) (g : Grammar (Var × Place)) (m : ℕ) → AtLeast g m → AtLeast (in_var p v g) (m + v.left * 28)
in_var_long p v g m h =
    let more = λ (x : Var × Place). repeat (λ before. var p.version p.dims.items) (before_of v ++ x ∷ []) v.left in
    front (g >>= more) (ended p p.gatts.items) (m + v.left * 28) (both g more m (v.left * 28) h (λ x. each (λ before. var p.version p.dims.items) 28 (λ before. var_long p) (before_of v ++ x ∷ []) v.left))

var_list_long : (p : Parts) (gatts : List Attr) → AtLeast (var_list p gatts) 8
var_list_long p gatts = front (list p.version nc_variable (λ before. var p.version p.dims.items)) (ended p gatts) 8 (list_long p.version nc_variable (λ before. var p.version p.dims.items))

-- ---- behind lists of attributes and of dimensions

owner_long : (o : Owner) (l : Lists) (notes : List Attr) → AtLeast (with_attrs o l.parts l.vars l.var notes) (rest_of_owner o l)
owner_long owners.File l notes = var_list_long l.parts notes
owner_long owners.Variable l notes = in_var_long l.parts l.vars (from_type l.parts.version l.var.name l.var.dims.items notes) 12 (from_type_long l.parts.version l.var.name l.var.dims.items notes)

in_attr_long : (o : Owner) (l : Lists) (g : Grammar Attr) (m : ℕ) → AtLeast g m → AtLeast (in_attr o l g) (m + rest_of_attrs o l)
in_attr_long o l g m h =
    let more = λ (x : Attr). repeat (λ before. attr l.parts.version) (l.attrs.items ++ x ∷ []) l.attrs_left in
    fewer (m + rest_of_attrs o l) ((m + l.attrs_left * 12) + rest_of_owner o l) (omega arith)
    (both (g >>= more) (with_attrs o l.parts l.vars l.var) (m + l.attrs_left * 12) (rest_of_owner o l)
    (both g more m (l.attrs_left * 12) h (λ x. each (λ before. attr l.parts.version) 12 (λ before. attr_long l.parts.version) (l.attrs.items ++ x ∷ []) l.attrs_left))
    (owner_long o l))

with_dims_long : (v : Version) (c : Count) (dims : List Dim) → AtLeast (with_dims v c dims) 16
with_dims_long v c dims = both (attrs v) _ 8 8 (list_long v nc_attribute (λ before. attr v)) (λ gatts. front (list v nc_variable (λ before. var v dims)) _ 8 (list_long v nc_variable (λ before. var v dims)))

in_dim_long : (l : Lists) (g : Grammar Dim) (m : ℕ) → AtLeast g m → AtLeast (in_dim l.parts l.dims_left g) (m + rest_of_dims l)
in_dim_long l g m h =
    let more = λ (x : Dim). repeat (dim l.parts.version) (l.parts.dims.items ++ x ∷ []) l.dims_left in
    fewer (m + rest_of_dims l) ((m + l.dims_left * 8) + 16) (omega arith)
    (both (g >>= more) (with_dims l.parts.version l.parts.count) (m + l.dims_left * 8) 16
    (both g more m (l.dims_left * 8) h (λ x. each (dim l.parts.version) 8 (dim_long l.parts.version) (l.parts.dims.items ++ x ∷ []) l.dims_left))
    (with_dims_long l.parts.version l.parts.count))

dim_length_long : (p : Parts) (text : List ℕ) → AtLeast (from_length p text) (count_width_of p.version)
dim_length_long p text = front (dim_length p.version p.dims.items) (λ n. done (record { name = text; length = n })) (count_width_of p.version) (one _ (count_width_of p.version) _ _)

named_long : (x : Named) (l : Lists) (text : List ℕ) → AtLeast (with_name x l text) (rest_of_named x l)
named_long named.Dim l text = in_dim_long l (from_length l.parts text) 4 (fewer 4 (count_width_of l.parts.version) (count_width l.parts.version) (dim_length_long l.parts text))
named_long (named.Attr o) l text = in_attr_long o l (from_attr_type l.parts.version text) 8 (from_attr_type_long l.parts.version text)
named_long named.Var l text = in_var_long l.parts l.vars (from_rank l.parts text) 24 (from_rank_long l.parts text)

-- ---- what is left

from_count_long : (v : Version) (c : Count) → AtLeast (from_count v c) 24
from_count_long v c = both (list v nc_dimension (dim v)) (with_dims v c) 8 16 (list_long v nc_dimension (dim v)) (with_dims_long v c)

from_version_long : (v : Version) → AtLeast (from_version v) 28
from_version_long v = both (numrecs v) (from_count v) 4 24 (fewer 4 (count_width_of v) (count_width v) (one _ (count_width_of v) _ _)) (from_count_long v)

-- a list's number of items, whatever follows
counted_long : {A : Type 0} (v : Version) (t : ℕ) (item : List A → Grammar A) → AtLeast (list_nelems v t >>= repeat item []) (count_width_of v)
counted_long v t item = front (list_nelems v t) (repeat item []) (count_width_of v) (one _ (count_width_of v) _ _)

-- so many bytes, and those of what follows
size_and : {A B : Type 0} (g : Grammar A) (f : A → Grammar B) (m n k : ℕ) → k ≤ m + n → AtLeast g m → ((a : A) → AtLeast (f a) n) → AtLeast (g >>= f) k
size_and g f m n k le h more = fewer k (m + n) le (both g f m n h more)

pub least : (next : Next) (b : Partial) → AtLeast (left_of next b) (next_size next b + rest_of next b.lists)
least nexts.Magic b = both magic (λ letters. version >>= from_version) 3 29 (one _ 3 _ _) (λ letters. both version from_version 1 28 (one _ 1 _ _) from_version_long)
least nexts.VersionByte b = both version from_version 1 28 (one _ 1 _ _) from_version_long
least nexts.NumRecs b = let v = b.lists.parts.version in both (numrecs v) (from_count v) (count_width_of v) 24 (one _ (count_width_of v) _ _) (from_count_long v)
least nexts.DimsTag b = from_count_long b.lists.parts.version b.lists.parts.count
least (nexts.DimsCount t) b =
    let v = b.lists.parts.version in
    both (list_nelems v t >>= repeat (dim v) []) (with_dims v b.lists.parts.count) (count_width_of v) 16 (counted_long v t (dim v)) (with_dims_long v b.lists.parts.count)
least (nexts.NameLength x) b =
    let v = b.lists.parts.version in
    both (name v) (with_name x b.lists) (count_width_of v) (rest_of_named x b.lists)
    (front (nelems v) (λ n. bytes n >>= λ text. padding n >>= λ zeros. done text) (count_width_of v) (one _ (count_width_of v) _ _)) (named_long x b.lists)
least (nexts.NameText x n) b =
    both (bytes n) (λ text. padding n >>= λ zeros. with_name x b.lists text) n (rest_of_named x b.lists) (one _ n _ _)
    (λ text. size_and (padding n) (λ zeros. with_name x b.lists text) 0 (rest_of_named x b.lists) (rest_of_named x b.lists) (omega arith) (none (padding n)) (λ zeros. named_long x b.lists text))
least (nexts.NamePadding x) b =
    let n = padding_of (length b.name) in
    both (padding (length b.name)) (λ zeros. with_name x b.lists b.name) n (rest_of_named x b.lists) (one _ n _ _) (λ zeros. named_long x b.lists b.name)
least nexts.DimLength b = in_dim_long b.lists (from_length b.lists.parts b.name) (count_width_of b.lists.parts.version) (dim_length_long b.lists.parts b.name)
least (nexts.AttrsTag o) b =
    let v = b.lists.parts.version in
    size_and (attrs v) (with_attrs o b.lists.parts b.lists.vars b.lists.var) 8 (rest_of_owner o b.lists) (4 + (4 + rest_of_owner o b.lists)) (omega arith) (list_long v nc_attribute (λ before. attr v)) (owner_long o b.lists)
least (nexts.AttrsCount o t) b =
    let v = b.lists.parts.version in
    both (list_nelems v t >>= repeat (λ before. attr v) []) (with_attrs o b.lists.parts b.lists.vars b.lists.var) (count_width_of v) (rest_of_owner o b.lists) (counted_long v t (λ before. attr v)) (owner_long o b.lists)
least (nexts.AttrType o) b =
    fewer (4 + (4 + rest_of_attrs o b.lists)) (8 + rest_of_attrs o b.lists) (omega arith)
    (in_attr_long o b.lists (from_attr_type b.lists.parts.version b.name) 8 (from_attr_type_long b.lists.parts.version b.name))
least (nexts.AttrCount o t) b =
    let v = b.lists.parts.version in
    in_attr_long o b.lists (from_attr_count v b.name t) (count_width_of v) (front (nelems v) (λ k. from_values b.name t k) (count_width_of v) (one _ (count_width_of v) _ _))
least (nexts.AttrValues o k) b =
    let t = type_of b.body.values in
    in_attr_long o b.lists (from_values b.name t k) (k * bytes_each t) (front (values t k) (λ vs. from_attr_padding b.name (k * bytes_each t) vs) (k * bytes_each t) (one _ (k * bytes_each t) _ _))
least (nexts.AttrPadding o n) b = in_attr_long o b.lists (from_attr_padding b.name n b.body.values) (padding_of n) (one _ (padding_of n) _ _)
least nexts.VarsTag b = var_list_long b.lists.parts b.lists.parts.gatts.items
least (nexts.VarsCount t) b =
    let v = b.lists.parts.version in
    fewer (count_width_of v + 0) (count_width_of v) (omega arith)
    (front (list_nelems v t >>= repeat (λ before. var v b.lists.parts.dims.items) []) (ended b.lists.parts b.lists.parts.gatts.items) (count_width_of v) (counted_long v t (λ before. var v b.lists.parts.dims.items)))
least nexts.DimIdsCount b =
    let p = b.lists.parts in
    let w = count_width_of p.version in
    fewer (w + (20 + rest_of_vars b.lists)) ((w + 20) + rest_of_vars b.lists) (omega arith)
    (in_var_long p b.lists.vars (from_rank p b.lists.var.name) (w + 20)
    (both (dimids p.version p.dims.items) (from_dims_of_var p.version b.lists.var.name) w 20 (front (nelems p.version) (λ n. repeat (dimid p.version p.dims.items) [] n) w (one _ w _ _)) (from_dims_long p.version b.lists.var.name)))
least (nexts.DimId k) b =
    let p = b.lists.parts in
    let w = count_width_of p.version in
    let before = b.lists.var.dims.items in
    let rest = λ (n : ℕ). repeat (dimid p.version p.dims.items) (before ++ n ∷ []) k in
    fewer (w + (k * 4 + 20 + rest_of_vars b.lists)) ((w + k * 4 + 20) + rest_of_vars b.lists) (omega arith)
    (in_var_long p b.lists.vars ((dimid p.version p.dims.items before >>= rest) >>= λ dims. from_dims_of_var p.version b.lists.var.name dims) (w + k * 4 + 20)
    (both (dimid p.version p.dims.items before >>= rest) (from_dims_of_var p.version b.lists.var.name) (w + k * 4) 20
    (both (dimid p.version p.dims.items before) rest w (k * 4) (one _ w _ _)
    (λ n. each (dimid p.version p.dims.items) 4 (λ x. fewer 4 w (count_width p.version) (one _ w _ _)) (before ++ n ∷ []) k))
    (from_dims_long p.version b.lists.var.name)))
least nexts.VarType b =
    let l = b.lists in
    fewer (4 + (8 + rest_of_vars l)) (12 + rest_of_vars l) (omega arith)
    (in_var_long l.parts l.vars (from_type l.parts.version l.var.name l.var.dims.items l.attrs.items) 12 (from_type_long l.parts.version l.var.name l.var.dims.items l.attrs.items))
least (nexts.Vsize t) b =
    let l = b.lists in
    let w = count_width_of l.parts.version in
    fewer (w + (4 + rest_of_vars l)) ((w + 4) + rest_of_vars l) (omega arith)
    (in_var_long l.parts l.vars (from_vsize l.parts.version (var_of l t)) (w + 4) (both (vsize l.parts.version) (from_begin l.parts.version (var_of l t)) w 4 (one _ w _ _) (from_begin_long l.parts.version (var_of l t))))
least (nexts.VarBegin t size) b =
    let l = b.lists in
    in_var_long l.parts l.vars (from_begin l.parts.version (var_of l t) size) (offset_width_of l.parts.version) (one _ (offset_width_of l.parts.version) _ _)
least nexts.Whole b = none (left_of nexts.Whole b)
