-- The sizes of the parts of a canonical header.
use Rattle.std.proofs.Common.{◌≡◌, ℕ, zero, suc, ◌+◌, ◌*◌, ◌≤◌, List, [], ◌∷◌, ◌++◌, length, take, drop, refl, sym, ap, ◌∙◌, arith, length-append}
use Rattle.std.specs.List.{flat_map}
use Rattle.std.specs.Prelude.{zip}
use Rattle.std.proofs.lemmas.List.{length-replicate, take-append-drop}
use Rattle.std.proofs.lemmas.Grind.{flat_map-append}
use Rattle.ncc_values.specs.Numbers.{big_endian}
use Rattle.ncc_values.specs.BigEndian.{length-big_endian}
use Rattle.ncc_values.specs.Padding.{padding_of}
use Rattle.ncc_values.specs.Values.{type_of, count_of, bytes_of}
use Rattle.ncc_values.specs.Version.{byte_of, count_width_of, offset_width_of}
use Rattle.ncc_values.specs.XType.{code_of, size_of}
use Rattle.ncc_values.specs.declared.version.Version.{Version}
use Rattle.ncc_values.proofs.ValuesLemmas.{length-bytes_of}
use Rattle.ncc_schema.specs.declared.schema.Dim.{Dim}
use Rattle.ncc_schema.specs.declared.schema.Attr.{Attr}
use Rattle.ncc_schema.specs.declared.schema.Var.{Var}
use Rattle.ncc_schema.specs.declared.schema.Schema.{Schema}
use Rattle.ncc_schema.specs.Schema.{Place}
use Rattle.ncc_schema.specs.Header.{zeros, numrecs_word, canon_name, canon_head, canon_list, canon_dim, canon_attr, canon_dimids, canon_var, canon}
use Rattle.ncc_schema.specs.Names.{list_size, before, attrs_in, canon_unplaced, vars_at}

pub length-canon_head : (v : Version) (tag n : ℕ) → length (canon_head v tag n) ≡ list_size v
length-canon_head v tag zero = let w = count_width_of v in omega (arith, length-append (big_endian 4 0) (big_endian w 0), length-big_endian 4 0, length-big_endian w 0)
length-canon_head v tag (suc n) = let w = count_width_of v in omega (arith, length-append (big_endian 4 tag) (big_endian w (suc n)), length-big_endian 4 tag, length-big_endian w (suc n))

pub length-canon_list : {A : Type 0} (v : Version) (tag : ℕ) (item : A → List ℕ) (items : List A) → length (canon_list v tag item items) ≡ list_size v + length (flat_map item items)
length-canon_list v tag item items = omega (arith, length-append (canon_head v tag (length items)) (flat_map item items), length-canon_head v tag (length items))

pub length-canon_dim : (v : Version) (d : Dim) → length (canon_dim v d) ≡ length (canon_name v d.name) + count_width_of v
length-canon_dim v d = omega (arith, length-append (canon_name v d.name) (big_endian (count_width_of v) d.length), length-big_endian (count_width_of v) d.length)

pub length-canon_attr : (v : Version) (a : Attr) → length (canon_attr v a) ≡ length (canon_name v a.name) + (4 + count_width_of v) + count_of a.values * size_of (type_of a.values) + padding_of (count_of a.values * size_of (type_of a.values))
length-canon_attr v a =
    let w = count_width_of v in
    let code = big_endian 4 (code_of (type_of a.values)) in
    let number = big_endian w (count_of a.values) in
    let pad = zeros (padding_of (count_of a.values * size_of (type_of a.values))) in
    omega (
      arith,
      length-append (canon_name v a.name) (code ++ (number ++ (bytes_of a.values ++ pad))),
      length-append code (number ++ (bytes_of a.values ++ pad)),
      length-append number (bytes_of a.values ++ pad),
      length-append (bytes_of a.values) pad,
      length-big_endian 4 (code_of (type_of a.values)),
      length-big_endian w (count_of a.values),
      length-bytes_of a.values,
      length-replicate {A = ℕ} (padding_of (count_of a.values * size_of (type_of a.values))) 0,
    )

length-numbers : (w : ℕ) (ns : List ℕ) → length (flat_map (big_endian w) ns) ≡ w * length ns
length-numbers w [] = omega arith
length-numbers w (n ∷ ns) = omega (arith, length-append (big_endian w n) (flat_map (big_endian w) ns), length-big_endian w n, length-numbers w ns)

pub length-canon_dimids : (v : Version) (ids : List ℕ) → length (canon_dimids v ids) ≡ count_width_of v * (1 + length ids)
length-canon_dimids v ids =
    let w = count_width_of v in
    omega (arith, length-append (big_endian w (length ids)) (flat_map (big_endian w) ids), length-big_endian w (length ids), length-numbers w ids)

pub length-canon_var : (v : Version) (x : Var) (p : Place) → length (canon_var v (x, p)) ≡ attrs_in v x + length (flat_map (canon_attr v) x.attrs) + (4 + count_width_of v + offset_width_of v)
length-canon_var v x p =
    let w = count_width_of v in
    let attrs = canon_list v 12 (canon_attr v) x.attrs in
    let code = big_endian 4 (code_of x.xtype) in
    let size = big_endian w p.vsize in
    let begin = big_endian (offset_width_of v) p.begin in
    omega (
      arith,
      length-append (canon_name v x.name) (canon_dimids v x.dims ++ (attrs ++ (code ++ (size ++ begin)))),
      length-append (canon_dimids v x.dims) (attrs ++ (code ++ (size ++ begin))),
      length-append attrs (code ++ (size ++ begin)),
      length-append code (size ++ begin),
      length-append size begin,
      length-canon_list v 12 (canon_attr v) x.attrs,
      length-big_endian 4 (code_of x.xtype),
      length-big_endian w p.vsize,
      length-big_endian (offset_width_of v) p.begin,
    )

-- the first items are no longer than all
pub first_size : {A : Type 0} (item : A → List ℕ) (items : List A) (i : ℕ) → before item i items ≤ length (flat_map item items)
first_size item items i =
    let split = ap (λ xs. length (flat_map item xs)) (sym (take-append-drop i items)) ∙ ap length (flat_map-append item (take i items) (drop i items)) in
    omega (arith, split, length-append (flat_map item (take i items)) (flat_map item (drop i items)))

-- ---- variables, whatever their places

same_size : (v : Version) (x : Var) (p : Place) → length (canon_var v (x, p)) ≡ length (canon_unplaced v x)
same_size v x p = length-canon_var v x p ∙ sym (length-canon_var v x (record { vsize = 0; begin = 0 }))

-- the first variables, at places and without
pub before-placed : (v : Version) (i : ℕ) (vars : List Var) (places : List Place) → length places ≡ length vars → before (canon_var v) i (zip vars places) ≡ before (canon_unplaced v) i vars
before-placed v zero vars places e = refl
before-placed v (suc i) [] places e = refl
before-placed v (suc i) (x ∷ vars) [] e = absurd (omega (arith, e))
before-placed v (suc i) (x ∷ vars) (p ∷ places) e =
    omega (
      arith,
      length-append (canon_var v (x, p)) (flat_map (canon_var v) (take i (zip vars places))),
      length-append (canon_unplaced v x) (flat_map (canon_unplaced v) (take i vars)),
      same_size v x p,
      before-placed v i vars places (omega (arith, e)),
    )

all_placed : (v : Version) (vars : List Var) (places : List Place) → length places ≡ length vars → length (flat_map (canon_var v) (zip vars places)) ≡ length (flat_map (canon_unplaced v) vars)
all_placed v [] places e = refl
all_placed v (x ∷ vars) [] e = absurd (omega (arith, e))
all_placed v (x ∷ vars) (p ∷ places) e =
    omega (
      arith,
      length-append (canon_var v (x, p)) (flat_map (canon_var v) (zip vars places)),
      length-append (canon_unplaced v x) (flat_map (canon_unplaced v) vars),
      same_size v x p,
      all_placed v vars places (omega (arith, e)),
    )

-- ---- the header

pub length-canon : (s : Schema) (places : List Place) → length places ≡ length s.vars → length (canon s places) ≡ vars_at s + list_size s.version + length (flat_map (canon_unplaced s.version) s.vars)
length-canon s places e =
    let v = s.version in
    let count = big_endian (count_width_of v) (numrecs_word v s.count) in
    let dims = canon_list v 10 (canon_dim v) s.dims in
    let gatts = canon_list v 12 (canon_attr v) s.gatts in
    let vars = canon_list v 11 (canon_var v) (zip s.vars places) in
    omega (
      arith,
      length-append (0x43 ∷ 0x44 ∷ 0x46 ∷ []) (big_endian 1 (byte_of v) ++ (count ++ (dims ++ (gatts ++ vars)))),
      length-append (big_endian 1 (byte_of v)) (count ++ (dims ++ (gatts ++ vars))),
      length-append count (dims ++ (gatts ++ vars)),
      length-append dims (gatts ++ vars),
      length-append gatts vars,
      length-big_endian 1 (byte_of v),
      length-big_endian (count_width_of v) (numrecs_word v s.count),
      length-canon_list v 11 (canon_var v) (zip s.vars places),
      all_placed v s.vars places e,
    )
