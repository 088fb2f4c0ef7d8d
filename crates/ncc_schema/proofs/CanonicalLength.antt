-- A header is as long as its canonical spelling.
use Rattle.std.proofs.Common.{◌≡◌, ℕ, zero, suc, ◌*◌, List, [], ◌∷◌, ◌++◌, length, refl, sym, ap, ◌∙◌, inl, inr, arith, length-append}
use Rattle.std.specs.List.{flat_map}
use Rattle.std.specs.Prelude.{zip}
use Rattle.std.proofs.lemmas.List.{length-replicate}
use Rattle.ncc_values.specs.Numbers.{big_endian}
use Rattle.ncc_values.specs.BigEndian.{length-big_endian}
use Rattle.ncc_values.specs.Padding.{padding_of}
use Rattle.ncc_values.specs.Values.{type_of, count_of, bytes_of}
use Rattle.ncc_values.specs.XType.{code_of, size_of}
use Rattle.ncc_values.specs.Version.{byte_of, count_width_of, offset_width_of}
use Rattle.ncc_values.specs.declared.version.Version.{Version}
use Rattle.ncc_schema.specs.declared.schema.Dim.{Dim}
use Rattle.ncc_schema.specs.declared.schema.Attr.{Attr}
use Rattle.ncc_schema.specs.declared.schema.Var.{Var}
use Rattle.ncc_schema.specs.declared.schema.Schema.{Schema}
use Rattle.ncc_schema.specs.Schema.{Place}
use Rattle.ncc_schema.specs.Header as spelled
use Rattle.ncc_schema.specs.Header.{Language, ◌⨾◌, IsHeader, nc_dimension, nc_variable, nc_attribute, zeros, canon_name, canon_head, canon_list, canon_dim, canon_attr, canon_dimids, canon_var, canon}

-- each spelling is as long as this one
abbrev pub AsLong : Language → List ℕ → Type 0
AsLong p c = (b : List ℕ) → p b → length b ≡ length c

pub both : (p q : Language) (x y : List ℕ) → AsLong p x → AsLong q y → AsLong (p ⨾ q) (x ++ y)
both p q x y p_long q_long b s =
    omega (arith, ap length s.2, length-append s.0 s.1, length-append x y, p_long s.0 s.3, q_long s.1 s.4)

pub exact : (c : List ℕ) → AsLong (spelled.exactly c) c
exact c b e = ap length e

pub pads : (n : ℕ) → AsLong (spelled.padding n) (zeros (padding_of n))
pads n b s = s.0 ∙ sym (length-replicate {A = ℕ} (padding_of n) 0)

pub each_long : {A : Type 0} (item : A → Language) (canonical : A → List ℕ) → ((a : A) → AsLong (item a) (canonical a)) → (items : List A) → AsLong (spelled.each item items) (flat_map canonical items)
each_long item canonical long [] = exact []
each_long item canonical long (a ∷ items) = both (item a) (spelled.each item items) (canonical a) (flat_map canonical items) (long a) (each_long item canonical long items)

-- a tag has four bytes, whichever it is
pub tag_long : (tag n other : ℕ) → AsLong (spelled.list_tag tag n) (big_endian 4 other)
tag_long tag n other b (inl own) = ap length own ∙ length-big_endian 4 tag ∙ sym (length-big_endian 4 other)
tag_long tag n other b (inr none) = ap length none.1 ∙ length-big_endian 4 0 ∙ sym (length-big_endian 4 other)

pub head_long : (v : Version) (tag n : ℕ) → AsLong (spelled.list_head v tag n) (canon_head v tag n)
head_long v tag zero = both (spelled.list_tag tag 0) (spelled.non_neg v 0) (big_endian 4 0) (big_endian (count_width_of v) 0) (tag_long tag 0 0) (exact (big_endian (count_width_of v) 0))
head_long v tag (suc n) = both (spelled.list_tag tag (suc n)) (spelled.non_neg v (suc n)) (big_endian 4 tag) (big_endian (count_width_of v) (suc n)) (tag_long tag (suc n) tag) (exact (big_endian (count_width_of v) (suc n)))

pub list_long : {A : Type 0} (v : Version) (tag : ℕ) (item : A → Language) (canonical : A → List ℕ) → ((a : A) → AsLong (item a) (canonical a)) → (items : List A) → AsLong (spelled.list v tag item items) (canon_list v tag canonical items)
list_long v tag item canonical long items = both _ _ _ _ (head_long v tag (length items)) (each_long item canonical long items)

pub name_long : (v : Version) (name : List ℕ) → AsLong (spelled.name v name) (canon_name v name)
name_long v name = both _ _ _ _ (exact _) (both _ _ _ _ (exact name) (pads (length name)))

pub dim_long : (v : Version) (d : Dim) → AsLong (spelled.dim v d) (canon_dim v d)
dim_long v d = both _ _ _ _ (name_long v d.name) (exact _)

pub attr_long : (v : Version) (a : Attr) → AsLong (spelled.attr v a) (canon_attr v a)
attr_long v a =
    let n = count_of a.values * size_of (type_of a.values) in
    let code = big_endian 4 (code_of (type_of a.values)) in
    let number = big_endian (count_width_of v) (count_of a.values) in
    let bytes = bytes_of a.values in
    let zero_pad = zeros (padding_of n) in
    let of_code = spelled.exactly code in
    let of_number = spelled.exactly number in
    let of_bytes = spelled.exactly bytes in
    let of_pad = spelled.padding n in
    both (spelled.name v a.name) (of_code ⨾ of_number ⨾ of_bytes ⨾ of_pad) (canon_name v a.name) (code ++ (number ++ (bytes ++ zero_pad))) (name_long v a.name)
    (both of_code (of_number ⨾ of_bytes ⨾ of_pad) code (number ++ (bytes ++ zero_pad)) (exact code)
    (both of_number (of_bytes ⨾ of_pad) number (bytes ++ zero_pad) (exact number)
    (both of_bytes of_pad bytes zero_pad (exact bytes) (pads n))))

pub numbers_long : (v : Version) (ids : List ℕ) → AsLong (spelled.each (spelled.non_neg v) ids) (flat_map (big_endian (count_width_of v)) ids)
numbers_long v ids = each_long (spelled.non_neg v) (big_endian (count_width_of v)) (λ n. exact (big_endian (count_width_of v) n)) ids

pub dimids_long : (v : Version) (ids : List ℕ) → AsLong (spelled.dimids v ids) (canon_dimids v ids)
dimids_long v ids = both _ _ _ _ (exact _) (numbers_long v ids)

pub attrs_long : (v : Version) (attrs : List Attr) → AsLong (spelled.list v nc_attribute (spelled.attr v) attrs) (canon_list v nc_attribute (canon_attr v) attrs)
attrs_long v attrs = list_long v nc_attribute (spelled.attr v) (canon_attr v) (attr_long v) attrs

pub var_long : (v : Version) (x : Var × Place) → AsLong (spelled.var v x) (canon_var v x)
var_long v x =
    let code = big_endian 4 (code_of x.0.xtype) in
    let vsize = big_endian (count_width_of v) x.1.vsize in
    let begin = big_endian (offset_width_of v) x.1.begin in
    let of_code = spelled.exactly code in
    let of_vsize = spelled.exactly vsize in
    let of_begin = spelled.exactly begin in
    let of_attrs = spelled.list v nc_attribute (spelled.attr v) x.0.attrs in
    let of_dims = spelled.dimids v x.0.dims in
    let attrs = canon_list v nc_attribute (canon_attr v) x.0.attrs in
    let dims = canon_dimids v x.0.dims in
    both (spelled.name v x.0.name) (of_dims ⨾ of_attrs ⨾ of_code ⨾ of_vsize ⨾ of_begin) (canon_name v x.0.name) (dims ++ (attrs ++ (code ++ (vsize ++ begin)))) (name_long v x.0.name)
    (both of_dims (of_attrs ⨾ of_code ⨾ of_vsize ⨾ of_begin) dims (attrs ++ (code ++ (vsize ++ begin))) (dimids_long v x.0.dims)
    (both of_attrs (of_code ⨾ of_vsize ⨾ of_begin) attrs (code ++ (vsize ++ begin)) (attrs_long v x.0.attrs)
    (both of_code (of_vsize ⨾ of_begin) code (vsize ++ begin) (exact code)
    (both of_vsize of_begin vsize begin (exact vsize) (exact begin)))))

-- the lists of a header
pub lists_long : (s : Schema) (places : List Place) → AsLong (spelled.list s.version nc_dimension (spelled.dim s.version) s.dims ⨾ spelled.list s.version nc_attribute (spelled.attr s.version) s.gatts ⨾ spelled.list s.version nc_variable (spelled.var s.version) (zip s.vars places)) (canon_list s.version nc_dimension (canon_dim s.version) s.dims ++ (canon_list s.version nc_attribute (canon_attr s.version) s.gatts ++ canon_list s.version nc_variable (canon_var s.version) (zip s.vars places)))
lists_long s places =
    let v = s.version in
    let of_dims = spelled.list v nc_dimension (spelled.dim v) s.dims in
    let of_gatts = spelled.list v nc_attribute (spelled.attr v) s.gatts in
    let of_vars = spelled.list v nc_variable (spelled.var v) (zip s.vars places) in
    let dims = canon_list v nc_dimension (canon_dim v) s.dims in
    let gatts = canon_list v nc_attribute (canon_attr v) s.gatts in
    let vars = canon_list v nc_variable (canon_var v) (zip s.vars places) in
    both of_dims (of_gatts ⨾ of_vars) dims (gatts ++ vars) (list_long v nc_dimension (spelled.dim v) (canon_dim v) (dim_long v) s.dims)
    (both of_gatts of_vars gatts vars (attrs_long v s.gatts) (list_long v nc_variable (spelled.var v) (canon_var v) (var_long v) (zip s.vars places)))

header_long : (s : Schema) (places : List Place) → AsLong (spelled.header s places) (canon s places)
header_long s places =
    let v = s.version in
    let letters = 0x43 ∷ 0x44 ∷ 0x46 ∷ [] in
    let version = big_endian 1 (byte_of v) in
    let numrecs = big_endian (count_width_of v) (spelled.numrecs_word v s.count) in
    let of_lists = spelled.list v nc_dimension (spelled.dim v) s.dims ⨾ spelled.list v nc_attribute (spelled.attr v) s.gatts ⨾ spelled.list v nc_variable (spelled.var v) (zip s.vars places) in
    let lists = canon_list v nc_dimension (canon_dim v) s.dims ++ (canon_list v nc_attribute (canon_attr v) s.gatts ++ canon_list v nc_variable (canon_var v) (zip s.vars places)) in
    both (spelled.exactly letters) (spelled.exactly version ⨾ spelled.exactly numrecs ⨾ of_lists) letters (version ++ (numrecs ++ lists)) (exact letters)
    (both (spelled.exactly version) (spelled.exactly numrecs ⨾ of_lists) version (numrecs ++ lists) (exact version)
    (both (spelled.exactly numrecs) of_lists numrecs lists (exact numrecs) (lists_long s places)))

pub canonical_length : (s : Schema) (places : List Place) (b : List ℕ) → IsHeader s places b → length b ≡ length (canon s places)
canonical_length s places b h = header_long s places b h.spelled
