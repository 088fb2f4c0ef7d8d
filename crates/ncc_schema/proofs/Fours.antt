-- A canonical header is a multiple of four bytes long.
use Rattle.std.proofs.Common.{◌≡◌, ℕ, ◌+◌, ◌*◌, ◌/◌, ◌%◌, List, [], ◌∷◌, ◌++◌, length, arith, length-append}
use Rattle.std.specs.List.{flat_map}
use Rattle.std.proofs.lemmas.List.{length-map, length-replicate}
use Rattle.ncc_values.specs.Numbers.{big_endian}
use Rattle.ncc_values.specs.BigEndian.{length-big_endian}
use Rattle.ncc_values.specs.Padding.{padding_of}
use Rattle.ncc_values.specs.Values.{type_of, count_of}
use Rattle.ncc_values.specs.Version.{count_width_of, offset_width_of}
use Rattle.ncc_values.specs.XType.{size_of}
use Rattle.ncc_values.specs.declared.version.Version.{Version}
use Rattle.ncc_values.specs.declared.version.Version.TheVariants.{V1, V2, V5}
use Rattle.ncc_schema.specs.declared.schema.Dim.{Dim}
use Rattle.ncc_schema.specs.declared.schema.Attr.{Attr}
use Rattle.ncc_schema.specs.declared.schema.Var.{Var}
use Rattle.ncc_schema.specs.declared.schema.Schema.{Schema}
use Rattle.ncc_schema.specs.Header.{nc_dimension, nc_attribute, zeros, canon_name, canon_dim, canon_attr}
use Rattle.ncc_schema.specs.Names.{list_size, no_place, canon_unplaced, unplaced, header_length}
use Rattle.ncc_schema.proofs.Sizes.{length-canon_list, length-canon_dim, length-canon_attr, length-canon_dimids, length-canon_var, length-canon}

-- n is a multiple of four
abbrev Fours : ℕ → Type 0
Fours n = (k : ℕ) × (n ≡ 4 * k)

sum : (m n : ℕ) → Fours m → Fours n → Fours (m + n)
sum m n h k = (h.0 + k.0, omega (arith, h.1, k.1))

same : (m n : ℕ) → m ≡ n → Fours n → Fours m
same m n e h = (h.0, omega (arith, e, h.1))

count_width : (v : Version) → Fours (count_width_of v)
count_width V1 = (1, omega arith)
count_width V2 = (1, omega arith)
count_width V5 = (2, omega arith)

offset_width : (v : Version) → Fours (offset_width_of v)
offset_width V1 = (1, omega arith)
offset_width V2 = (2, omega arith)
offset_width V5 = (2, omega arith)

count_times : (v : Version) (m : ℕ) → Fours (count_width_of v * m)
count_times V1 m = (m, omega arith)
count_times V2 m = (m, omega arith)
count_times V5 m = (2 * m, omega arith)

padded : (n : ℕ) → Fours (n + padding_of n)
padded n = ((n + 3) / 4, omega arith)

list_head : (v : Version) → Fours (list_size v)
list_head v = sum 4 (count_width_of v) (1, omega arith) (count_width v)

flat : {A : Type 0} (item : A → List ℕ) → ((a : A) → Fours (length (item a))) → (items : List A) → Fours (length (flat_map item items))
flat item each [] = (0, omega arith)
flat item each (a ∷ items) = same (length (flat_map item (a ∷ items))) (length (item a) + length (flat_map item items)) (length-append (item a) (flat_map item items)) (sum (length (item a)) (length (flat_map item items)) (each a) (flat item each items))

name : (v : Version) (n : List ℕ) → Fours (length (canon_name v n))
name v n =
    let w = count_width_of v in
    let pad = zeros (padding_of (length n)) in
    same (length (canon_name v n)) (w + (length n + padding_of (length n)))
    (omega (arith, length-append (big_endian w (length n)) (n ++ pad), length-append n pad, length-big_endian w (length n), length-replicate {A = ℕ} (padding_of (length n)) 0))
    (sum w (length n + padding_of (length n)) (count_width v) (padded (length n)))

dim : (v : Version) (d : Dim) → Fours (length (canon_dim v d))
dim v d = same (length (canon_dim v d)) (length (canon_name v d.name) + count_width_of v) (length-canon_dim v d) (sum (length (canon_name v d.name)) (count_width_of v) (name v d.name) (count_width v))

attr : (v : Version) (a : Attr) → Fours (length (canon_attr v a))
attr v a =
    let bytes = count_of a.values * size_of (type_of a.values) in
    let head = sum (length (canon_name v a.name)) (list_size v) (name v a.name) (list_head v) in
    same (length (canon_attr v a)) ((length (canon_name v a.name) + list_size v) + (bytes + padding_of bytes)) (omega (arith, length-canon_attr v a))
    (sum (length (canon_name v a.name) + list_size v) (bytes + padding_of bytes) head (padded bytes))

var : (v : Version) (x : Var) → Fours (length (canon_unplaced v x))
var v x =
    let front = length (canon_name v x.name) in
    let ids = count_width_of v * (1 + length x.dims) in
    let attrs = length (flat_map (canon_attr v) x.attrs) in
    let w = count_width_of v in
    let o = offset_width_of v in
    same (length (canon_unplaced v x)) ((front + ids) + (list_size v + (attrs + (4 + (w + o)))))
    (omega (arith, length-canon_var v x no_place, length-canon_dimids v x.dims))
    (sum (front + ids) (list_size v + (attrs + (4 + (w + o)))) (sum front ids (name v x.name) (count_times v (1 + length x.dims)))
    (sum (list_size v) (attrs + (4 + (w + o))) (list_head v) (sum attrs (4 + (w + o)) (flat (canon_attr v) (attr v) x.attrs)
    (sum 4 (w + o) (1, omega arith) (sum w o (count_width v) (offset_width v))))))

-- the canonical header of a schema
fours : (s : Schema) → Fours (header_length s)
fours s =
    let v = s.version in
    let dims = length (flat_map (canon_dim v) s.dims) in
    let gatts = length (flat_map (canon_attr v) s.gatts) in
    let vars = length (flat_map (canon_unplaced v) s.vars) in
    let l = list_size v in
    same (header_length s) ((l + (l + dims)) + ((l + gatts) + (l + vars)))
    (omega (arith, length-canon s (unplaced s.vars) (length-map s.vars (λ x. no_place)), length-canon_list v nc_dimension (canon_dim v) s.dims, length-canon_list v nc_attribute (canon_attr v) s.gatts))
    (sum (l + (l + dims)) ((l + gatts) + (l + vars)) (sum l (l + dims) (list_head v) (sum l dims (list_head v) (flat (canon_dim v) (dim v) s.dims)))
    (sum (l + gatts) (l + vars) (sum l gatts (list_head v) (flat (canon_attr v) (attr v) s.gatts)) (sum l vars (list_head v) (flat (canon_unplaced v) (var v) s.vars))))

pub header_aligned : (s : Schema) → header_length s % 4 ≡ 0
header_aligned s = let h = fours s in omega (arith, h.1)
