-- The bytes of the parts are the header.
use Rattle.std.proofs.Common.{◌≡◌, ℕ, suc, ◌+◌, List, [], ◌∷◌, ◌++◌, ◌-◌, length, refl, sym, ap, ◌∙◌, append_assoc, append-nil, arith, length-append}
use Rattle.std.specs.Prelude.{zip}
use Rattle.std.specs.List.{flat_map}
use Rattle.std.proofs.lemmas.Grind.{flat_map-append}
use Rattle.ncc_values.specs.Numbers.{big_endian}
use Rattle.ncc_values.specs.Version.{count_width_of, offset_width_of}
use Rattle.ncc_values.specs.XType.{code_of}
use Rattle.ncc_values.specs.declared.version.Version.{Version}
use Rattle.ncc_schema.specs.declared.schema.Attr.{Attr}
use Rattle.ncc_schema.specs.declared.schema.Dim.{Dim}
use Rattle.ncc_schema.specs.declared.schema.Schema.{Schema}
use Rattle.ncc_schema.specs.declared.schema.Var.{Var}
use Rattle.ncc_schema.specs.Schema.{Place}
use Rattle.ncc_schema.specs.Header.{nc_dimension, nc_attribute, nc_variable, numrecs_word, canon_name, canon_head, canon_list, canon_dim, canon_attr, canon_dimids, canon_var, canon}
use Rattle.ncc_schema.specs.Names.{attrs_in, canon_unplaced, list_size, no_place, unplaced}
use Rattle.ncc_schema.proofs.Sizes.{length-canon, length-canon_head, length-canon_list, length-canon_var}
use Rattle.ncc_values.specs.BigEndian.{length-big_endian}
use Rattle.ncc_header.specs.declared.part.Part.{Part}
use Rattle.ncc_header.specs.declared.part.Part.TheVariants as parts
use Rattle.ncc_parts.specs.declared.part.Piece.{Piece}
use Rattle.ncc_parts.specs.Parts.{dims_from, globals_from, attrs_from, place_fields, var_parts, vars_from, magic_bytes, parts_of, ends_from}

abbrev pub spelling : List (Part × List ℕ) → List ℕ
spelling ps = flat_map (λ p. p.1) ps

pub spelling-append : (ps qs : List (Part × List ℕ)) → spelling (ps ++ qs) ≡ spelling ps ++ spelling qs
spelling-append ps qs = flat_map-append (λ (p : Part × List ℕ). p.1) ps qs

pub dims_spell : (v : Version) (n : ℕ) (dims : List Dim) → spelling (dims_from v n dims) ≡ flat_map (canon_dim v) dims
dims_spell v n [] = refl
dims_spell v n (d ∷ dims) = ap (λ xs. canon_dim v d ++ xs) (dims_spell v (suc n) dims)

pub globals_spell : (v : Version) (n : ℕ) (attrs : List Attr) → spelling (globals_from v n attrs) ≡ flat_map (canon_attr v) attrs
globals_spell v n [] = refl
globals_spell v n (a ∷ attrs) = ap (λ xs. canon_attr v a ++ xs) (globals_spell v (suc n) attrs)

pub attrs_spell : (v : Version) (var n : ℕ) (attrs : List Attr) → spelling (attrs_from v var n attrs) ≡ flat_map (canon_attr v) attrs
attrs_spell v var n [] = refl
attrs_spell v var n (a ∷ attrs) = ap (λ xs. canon_attr v a ++ xs) (attrs_spell v var (suc n) attrs)

pub var_spells : (v : Version) (n : ℕ) (x : Var) (p : Place) → spelling (var_parts v n x p) ≡ canon_var v (x, p)
var_spells v n x p =
    let name = canon_name v x.name in
    let ids = canon_dimids v x.dims in
    let head = canon_head v nc_attribute (length x.attrs) in
    let attrs = flat_map (canon_attr v) x.attrs in
    let fields = place_fields v x p in
    ap (λ xs. (name ++ ids) ++ (head ++ xs)) (spelling-append (attrs_from v n 0 x.attrs) ((parts.Place n, fields) ∷ []) ∙ ap (λ ys. ys ++ (fields ++ [])) (attrs_spell v n 0 x.attrs) ∙ ap (λ ys. attrs ++ ys) (append-nil fields))
    ∙ ap (λ xs. (name ++ ids) ++ xs) (sym (append_assoc head attrs fields))
    ∙ append_assoc name ids ((head ++ attrs) ++ fields)

vars_spell : (v : Version) (n : ℕ) (vars : List Var) → spelling (vars_from v n vars) ≡ flat_map (canon_var v) (zip vars (unplaced vars))
vars_spell v n [] = refl
vars_spell v n (x ∷ vars) =
    spelling-append (var_parts v n x no_place) (vars_from v (suc n) vars)
    ∙ ap (λ xs. xs ++ spelling (vars_from v (suc n) vars)) (var_spells v n x no_place)
    ∙ ap (λ xs. canon_unplaced v x ++ xs) (vars_spell v (suc n) vars)

-- ---- the whole header

list_spells : {A : Type 0} (v : Version) (tag : ℕ) (item : A → List ℕ) (items : List A) (head : Part) (ps rest : List (Part × List ℕ)) → spelling ps ≡ flat_map item items
    → spelling ((head, canon_head v tag (length items)) ∷ (ps ++ rest)) ≡ canon_list v tag item items ++ spelling rest
list_spells v tag item items head ps rest is =
    ap (λ xs. canon_head v tag (length items) ++ xs) (spelling-append ps rest ∙ ap (λ xs. xs ++ spelling rest) is)
    ∙ sym (append_assoc (canon_head v tag (length items)) (flat_map item items) (spelling rest))

length-unplaced : (vars : List Var) → length (zip vars (unplaced vars)) ≡ length vars
length-unplaced [] = refl
length-unplaced (x ∷ vars) = ap suc (length-unplaced vars)

vars_list_spells : (v : Version) (vars : List Var) → spelling ((parts.VarList, canon_head v nc_variable (length vars)) ∷ vars_from v 0 vars) ≡ canon_list v nc_variable (canon_var v) (zip vars (unplaced vars))
vars_list_spells v vars =
    ap (λ xs. canon_head v nc_variable (length vars) ++ xs) (vars_spell v 0 vars)
    ∙ ap (λ n. canon_head v nc_variable n ++ flat_map (canon_var v) (zip vars (unplaced vars))) (sym (length-unplaced vars))

pub header_spells : (s : Schema) → spelling (parts_of s) ≡ canon s (unplaced s.vars)
header_spells s =
    let v = s.version in
    let globals = (parts.VarList, canon_head v nc_variable (length s.vars)) ∷ vars_from v 0 s.vars in
    let dims = (parts.GlobalList, canon_head v nc_attribute (length s.gatts)) ∷ (globals_from v 0 s.gatts ++ globals) in
    ap (λ xs. magic_bytes v ++ (big_endian (count_width_of v) (numrecs_word v s.count) ++ xs))
    (list_spells v nc_dimension (canon_dim v) s.dims parts.DimList (dims_from v 0 s.dims) dims (dims_spell v 0 s.dims)
    ∙ ap (λ xs. canon_list v nc_dimension (canon_dim v) s.dims ++ xs)
    (list_spells v nc_attribute (canon_attr v) s.gatts parts.GlobalList (globals_from v 0 s.gatts) globals (globals_spell v 0 s.gatts)
    ∙ ap (λ xs. canon_list v nc_attribute (canon_attr v) s.gatts ++ xs) (vars_list_spells v s.vars)))

-- ---- ends

pub ends-append : (at : ℕ) (ps qs : List (Part × List ℕ)) → ends_from at (ps ++ qs) ≡ ends_from at ps ++ ends_from (at + length (spelling ps)) qs
ends-append at [] qs = ap (λ n. ends_from n qs) (omega arith)
ends-append at (p ∷ ps) qs =
    ap (λ es. record { part = p.0; end = at + length p.1 } ∷ es)
    (ends-append (at + length p.1) ps qs
    ∙ ap (λ n. ends_from (at + length p.1) ps ++ ends_from n qs) (omega (arith, length-append p.1 (spelling ps))))

-- where the parts of a variable end
pub var_ends : (v : Version) (n : ℕ) (x : Var) (at first end : ℕ) → first ≡ at + attrs_in v x → end ≡ at + length (canon_unplaced v x)
    → ends_from at (var_parts v n x no_place)
    ≡ record { part = parts.Var n; end = first - list_size v }
    ∷ record { part = parts.AttrList n; end = first }
    ∷ (ends_from first (attrs_from v n 0 x.attrs) ++ record { part = parts.Place n; end = end } ∷ [])
var_ends v n x at first end is_first is_end =
    let w = count_width_of v in
    let attrs = attrs_from v n 0 x.attrs in
    let fields = place_fields v x no_place in
    let head = at + length (canon_name v x.name ++ canon_dimids v x.dims) in
    let listed = head + length (canon_head v nc_attribute (length x.attrs)) in
    let last = listed + length (spelling attrs) + length fields in
    let all = λ (i j k : ℕ). record { part = parts.Var n; end = i } ∷ record { part = parts.AttrList n; end = j } ∷ (ends_from j attrs ++ record { part = parts.Place n; end = k } ∷ []) in
    let names = length-append (canon_name v x.name) (canon_dimids v x.dims) in
    let heads = length-canon_head v nc_attribute (length x.attrs) in
    let code = big_endian 4 (code_of x.xtype) in
    let long = length-append code (big_endian w 0 ++ big_endian (offset_width_of v) 0) in
    let longer = length-append (big_endian w 0) (big_endian (offset_width_of v) 0) in
    let width = length-big_endian w 0 in
    let wide = length-big_endian (offset_width_of v) 0 in
    let four = length-big_endian 4 (code_of x.xtype) in
    let size = length-canon_var v x no_place in
    let spelled = ap length (attrs_spell v n 0 x.attrs) in
    let e1 : head ≡ first - list_size v = omega (arith, is_first, names) in
    let e2 : listed ≡ first = omega (arith, is_first, names, heads) in
    let e3 : last ≡ end = omega (arith, is_end, names, heads, long, longer, width, wide, four, size, spelled) in
    ap (λ es. record { part = parts.Var n; end = head } ∷ record { part = parts.AttrList n; end = listed } ∷ es) (ends-append listed attrs ((parts.Place n, fields) ∷ []))
    ∙ ap (λ i. all i listed last) e1
    ∙ ap (λ j. all (first - list_size v) j last) e2
    ∙ ap (λ k. all (first - list_size v) first k) e3

-- pieces that were added one after the other
pub added : (old es : List Piece) (p q r : Piece) → (((old ++ p ∷ []) ++ q ∷ []) ++ es) ++ r ∷ [] ≡ old ++ p ∷ q ∷ (es ++ r ∷ [])
added old es p q r =
    append_assoc ((old ++ p ∷ []) ++ q ∷ []) es (r ∷ [])
    ∙ append_assoc (old ++ p ∷ []) (q ∷ []) (es ++ r ∷ [])
    ∙ append_assoc old (p ∷ []) (q ∷ (es ++ r ∷ []))

-- ---- variables, one more

pub vars_step : (v : Version) (at k : ℕ) (x : Var) (vars : List Var) → ends_from at (vars_from v k (x ∷ vars)) ≡ ends_from at (var_parts v k x no_place) ++ ends_from (at + length (canon_unplaced v x)) (vars_from v (suc k) vars)
vars_step v at k x vars =
    ends-append at (var_parts v k x no_place) (vars_from v (suc k) vars)
    ∙ ap (λ b. ends_from at (var_parts v k x no_place) ++ ends_from (at + length b) (vars_from v (suc k) vars)) (var_spells v k x no_place)

-- ---- the sections of a header

-- where its lists begin
abbrev pub dims_begin : Schema → ℕ
dims_begin s = 4 + count_width_of s.version + list_size s.version

abbrev pub globals_begin : Schema → ℕ
globals_begin s = dims_begin s + length (flat_map (canon_dim s.version) s.dims) + list_size s.version

abbrev pub vars_begin : Schema → ℕ
vars_begin s = globals_begin s + length (flat_map (canon_attr s.version) s.gatts) + list_size s.version

pub sections_fill : (s : Schema) (places : List Place) → length places ≡ length s.vars → length (canon s places) ≡ vars_begin s + length (flat_map (canon_unplaced s.version) s.vars)
sections_fill s places e =
    omega (arith, length-canon s places e, length-canon_list s.version nc_dimension (canon_dim s.version) s.dims, length-canon_list s.version nc_attribute (canon_attr s.version) s.gatts)

abbrev pub piece : Part → ℕ → Piece
piece part end = record { part = part; end = end }

pub all_ends : (s : Schema) → ends_from 0 (parts_of s)
    ≡ piece parts.Magic 4 ∷ piece parts.NumRecs (4 + count_width_of s.version) ∷ piece parts.DimList (dims_begin s)
    ∷ (ends_from (dims_begin s) (dims_from s.version 0 s.dims) ++ piece parts.GlobalList (globals_begin s)
    ∷ (ends_from (globals_begin s) (globals_from s.version 0 s.gatts) ++ piece parts.VarList (vars_begin s)
    ∷ ends_from (vars_begin s) (vars_from s.version 0 s.vars)))
all_ends s =
    let v = s.version in
    let w = count_width_of v in
    let dims = dims_from v 0 s.dims in
    let globals = globals_from v 0 s.gatts in
    let vars = vars_from v 0 s.vars in
    let vars_part = (parts.VarList, canon_head v nc_variable (length s.vars)) ∷ vars in
    let globals_part = (parts.GlobalList, canon_head v nc_attribute (length s.gatts)) ∷ (globals ++ vars_part) in
    let numbers = big_endian w (numrecs_word v s.count) in
    let width = length-big_endian w (numrecs_word v s.count) in
    let e1 : 4 + length numbers ≡ 4 + w = omega (arith, width) in
    let e2 : 4 + length numbers + length (canon_head v nc_dimension (length s.dims)) ≡ dims_begin s = omega (arith, width, length-canon_head v nc_dimension (length s.dims)) in
    let e3 : dims_begin s + length (spelling dims) + length (canon_head v nc_attribute (length s.gatts)) ≡ globals_begin s =
    omega (arith, ap length (dims_spell v 0 s.dims), length-canon_head v nc_attribute (length s.gatts)) in
    let e4 : globals_begin s + length (spelling globals) + length (canon_head v nc_variable (length s.vars)) ≡ vars_begin s =
    omega (arith, ap length (globals_spell v 0 s.gatts), length-canon_head v nc_variable (length s.vars)) in
    ap (λ n. piece parts.Magic 4 ∷ piece parts.NumRecs n ∷ ends_from n ((parts.DimList, canon_head v nc_dimension (length s.dims)) ∷ (dims ++ globals_part))) e1
    ∙ ap (λ n. piece parts.Magic 4 ∷ piece parts.NumRecs (4 + w) ∷ piece parts.DimList n ∷ ends_from n (dims ++ globals_part)) (omega (arith, e1, e2))
    ∙ ap (λ es. piece parts.Magic 4 ∷ piece parts.NumRecs (4 + w) ∷ piece parts.DimList (dims_begin s) ∷ es)
    (ends-append (dims_begin s) dims globals_part
    ∙ ap (λ n. ends_from (dims_begin s) dims ++ piece parts.GlobalList n ∷ ends_from n (globals ++ vars_part)) e3
    ∙ ap (λ es. ends_from (dims_begin s) dims ++ piece parts.GlobalList (globals_begin s) ∷ es)
    (ends-append (globals_begin s) globals vars_part
    ∙ ap (λ n. ends_from (globals_begin s) globals ++ piece parts.VarList n ∷ ends_from n vars) e4))

-- all pieces, as they were added
pub all_added : (ds gs xs : List Piece) (a b d g x : Piece) → ((((((([] ++ a ∷ []) ++ b ∷ []) ++ d ∷ []) ++ ds) ++ g ∷ []) ++ gs) ++ x ∷ []) ++ xs ≡ a ∷ b ∷ d ∷ (ds ++ g ∷ (gs ++ x ∷ xs))
all_added ds gs xs a b d g x =
    append_assoc (((a ∷ b ∷ d ∷ ds) ++ g ∷ []) ++ gs) (x ∷ []) xs
    ∙ append_assoc ((a ∷ b ∷ d ∷ ds) ++ g ∷ []) gs (x ∷ xs)
    ∙ append_assoc (a ∷ b ∷ d ∷ ds) (g ∷ []) (gs ++ x ∷ xs)
