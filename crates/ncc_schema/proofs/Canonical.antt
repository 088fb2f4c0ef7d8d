-- The canonical spelling is a header.
use Rattle.std.proofs.Common.{ℕ, zero, suc, ◌*◌, List, [], ◌∷◌, ◌++◌, length, refl, ap, arith, inl, inr}
use Rattle.std.specs.List.{flat_map}
use Rattle.std.specs.Prelude.{zip}
use Rattle.ncc_values.specs.Padding.{padding_of}
use Rattle.ncc_values.specs.Values.{type_of, count_of}
use Rattle.ncc_values.specs.XType.{size_of}
use Rattle.ncc_values.specs.declared.version.Version.{Version}
use Rattle.ncc_schema.specs.declared.schema.Dim.{Dim}
use Rattle.ncc_schema.specs.declared.schema.Attr.{Attr}
use Rattle.ncc_schema.specs.declared.schema.Var.{Var}
use Rattle.ncc_schema.specs.declared.schema.Schema.{Schema}
use Rattle.ncc_schema.specs.Schema.{Place, Legal, IsTyped}
use Rattle.ncc_schema.specs.Header.{◌⨾◌, any_bytes, each, IsHeader, zeros, canon_name, canon_head, canon_list, canon_dim, canon_attr, canon_dimids, canon_var, canon}
use Rattle.ncc_schema.specs.Header as spelled

zeros_fit : (n : ℕ) → any_bytes n (zeros n)
zeros_fit zero = (refl, tt)
zeros_fit (suc n) = (ap suc (zeros_fit n).0, (omega arith, (zeros_fit n).1))

each_canon : {A : Type 0} (S : A → List ℕ → Type 0) (c : A → List ℕ) → ((a : A) → S a (c a)) → (items : List A) → each S items (flat_map c items)
each_canon S c h [] = refl
each_canon S c h (a ∷ items) = (c a, flat_map c items, refl, h a, each_canon S c h items)

-- one spelling, and then the other
both : {p q : List ℕ → Type 0} (x y : List ℕ) → p x → q y → (p ⨾ q) (x ++ y)
both x y h k = (x, y, refl, h, k)

name_canon : (v : Version) (n : List ℕ) → spelled.name v n (canon_name v n)
name_canon v n = both _ _ refl (both _ _ refl (zeros_fit (padding_of (length n))))

head_canon : (v : Version) (tag n : ℕ) → spelled.list_head v tag n (canon_head v tag n)
head_canon v tag zero = both _ _ (inr (refl, refl)) refl
head_canon v tag (suc n) = both _ _ (inl refl) refl

list_canon : {A : Type 0} (v : Version) (tag : ℕ) (S : A → List ℕ → Type 0) (c : A → List ℕ) → ((a : A) → S a (c a)) → (items : List A) → spelled.list v tag S items (canon_list v tag c items)
list_canon v tag S c h items = both _ _ (head_canon v tag (length items)) (each_canon S c h items)

dim_canon : (v : Version) (d : Dim) → spelled.dim v d (canon_dim v d)
dim_canon v d = both _ _ (name_canon v d.name) refl

attr_canon : (v : Version) (a : Attr) → spelled.attr v a (canon_attr v a)
attr_canon v a = both _ _ (name_canon v a.name) (both _ _ refl (both _ _ refl (both _ _ refl (zeros_fit (padding_of (count_of a.values * size_of (type_of a.values)))))))

dimids_canon : (v : Version) (ids : List ℕ) → spelled.dimids v ids (canon_dimids v ids)
dimids_canon v ids = both _ _ refl (each_canon (spelled.non_neg v) _ (λ n. refl) ids)

attrs_canon : (v : Version) (attrs : List Attr) → spelled.list v 12 (spelled.attr v) attrs (canon_list v 12 (canon_attr v) attrs)
attrs_canon v attrs = list_canon v 12 (spelled.attr v) (canon_attr v) (attr_canon v) attrs

var_canon : (v : Version) (x : Var × Place) → spelled.var v x (canon_var v x)
var_canon v x = both _ _ (name_canon v x.0.name) (both _ _ (dimids_canon v x.0.dims) (both _ _ (attrs_canon v x.0.attrs) (both _ _ refl (both _ _ refl refl))))

pub canonical_header : (s : Schema) (places : List Place) → Legal s places → IsTyped s → IsHeader s places (canon s places)
canonical_header s places legal typed =
    let v = s.version in
    record {
      legal = legal;
      typed = typed;
      spelled = both _ _ refl (both _ _ refl (both _ _ refl (both _ _ (list_canon v 10 (spelled.dim v) (canon_dim v) (dim_canon v) s.dims)
          (both _ _ (attrs_canon v s.gatts) (list_canon v 11 (spelled.var v) (canon_var v) (var_canon v) (zip s.vars places))))));
    }
