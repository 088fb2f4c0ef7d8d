-- The parts of a header, one after the other, each with its bytes in the canonical spelling of a header whose variables
-- have no place yet: where a part ends doesn't depend on the places.
use Rattle.std.specs.Prelude.{ℕ, suc, ◌+◌, ◌-◌, ltb, List, [], ◌∷◌, ◌++◌, length, take, drop, Option, Some, None, if◌then◌else◌}
use Rattle.std.specs.List.{flat_map}
use Rattle.ncc_values.specs.Numbers.{big_endian}
use Rattle.ncc_values.specs.Version.{byte_of, count_width_of, offset_width_of}
use Rattle.ncc_values.specs.XType.{code_of}
use Rattle.ncc_values.specs.declared.version.Version.{Version}
use Rattle.ncc_schema.specs.declared.names.NameOf.{NameOf}
use Rattle.ncc_schema.specs.declared.names.NameOf.TheVariants as of
use Rattle.ncc_schema.specs.declared.schema.Attr.{Attr}
use Rattle.ncc_schema.specs.declared.schema.Dim.{Dim}
use Rattle.ncc_schema.specs.declared.schema.Schema.{Schema}
use Rattle.ncc_schema.specs.declared.schema.Var.{Var}
use Rattle.ncc_schema.specs.Schema.{Place}
use Rattle.ncc_schema.specs.Header.{nc_dimension, nc_attribute, nc_variable, numrecs_word, canon_name, canon_head, canon_dim, canon_attr, canon_dimids}
use Rattle.ncc_schema.specs.Names.{first_attrs, no_place}
use Rattle.ncc_header.specs.declared.part.Part.{Part}
use Rattle.ncc_header.specs.declared.part.Part.TheVariants as parts
use Rattle.ncc_parts.specs.declared.part.Piece.{Piece}

-- ---- the parts of lists, numbered from here on

abbrev pub dims_from : Version → (number : ℕ) → List Dim → List (Part × List ℕ)
dims_from v n [] = []
dims_from v n (d ∷ dims) = (parts.Dim n, canon_dim v d) ∷ dims_from v (suc n) dims

abbrev pub globals_from : Version → (number : ℕ) → List Attr → List (Part × List ℕ)
globals_from v n [] = []
globals_from v n (a ∷ attrs) = (parts.Global n, canon_attr v a) ∷ globals_from v (suc n) attrs

-- the attributes of a variable
abbrev pub attrs_from : Version → (var number : ℕ) → List Attr → List (Part × List ℕ)
attrs_from v var n [] = []
attrs_from v var n (a ∷ attrs) = (parts.Attr var n, canon_attr v a) ∷ attrs_from v var (suc n) attrs

-- nc_type, vsize and begin
abbrev pub place_fields : Version → Var → Place → List ℕ
place_fields v x p =
    big_endian 4 (code_of x.xtype) ++ (big_endian (count_width_of v) p.vsize ++ big_endian (offset_width_of v) p.begin)

-- a variable: its name and dimensions, its attributes, and its type, vsize and begin
abbrev pub var_parts : Version → (number : ℕ) → Var → Place → List (Part × List ℕ)
var_parts v n x p =
    (parts.Var n, canon_name v x.name ++ canon_dimids v x.dims)
    ∷ (parts.AttrList n, canon_head v nc_attribute (length x.attrs))
    ∷ (attrs_from v n 0 x.attrs ++ (parts.Place n, place_fields v x p) ∷ [])

abbrev pub vars_from : Version → (number : ℕ) → List Var → List (Part × List ℕ)
vars_from v n [] = []
vars_from v n (x ∷ vars) = var_parts v n x no_place ++ vars_from v (suc n) vars

-- ---- all parts

abbrev pub magic_bytes : Version → List ℕ
magic_bytes v = 0x43 ∷ 0x44 ∷ 0x46 ∷ big_endian 1 (byte_of v)

abbrev pub parts_of : Schema → List (Part × List ℕ)
parts_of s =
    (parts.Magic, magic_bytes s.version)
    ∷ (parts.NumRecs, big_endian (count_width_of s.version) (numrecs_word s.version s.count))
    ∷ (parts.DimList, canon_head s.version nc_dimension (length s.dims))
    ∷ (dims_from s.version 0 s.dims ++ (parts.GlobalList, canon_head s.version nc_attribute (length s.gatts))
    ∷ (globals_from s.version 0 s.gatts ++ (parts.VarList, canon_head s.version nc_variable (length s.vars))
    ∷ vars_from s.version 0 s.vars))

-- ---- offsets

-- each part with the offset of the first byte after it, where the first begins here
abbrev pub ends_from : (at : ℕ) → List (Part × List ℕ) → List Piece
ends_from at [] = []
ends_from at (p ∷ parts) = record { part = p.0; end = at + length p.1 } ∷ ends_from (at + length p.1) parts

-- the part that has the byte at this offset, counted from the first of them
abbrev pub part_at : (offset : ℕ) → List (Part × List ℕ) → Option Part
part_at offset [] = None
part_at offset (p ∷ parts) =
    if ltb offset (length p.1) then Some p.0 else part_at (offset - length p.1) parts

-- ---- names

-- the part that begins with this name
abbrev pub part_named : NameOf → Part
part_named (of.Dim i) = parts.Dim i
part_named (of.Global i) = parts.Global i
part_named (of.Var i) = parts.Var i
part_named (of.Attr i j) = parts.Attr i j

-- the bytes of that part
abbrev pub bytes_named : Schema → NameOf → List ℕ
bytes_named s (of.Dim i) = flat_map (canon_dim s.version) (take 1 (drop i s.dims))
bytes_named s (of.Global i) = flat_map (canon_attr s.version) (take 1 (drop i s.gatts))
bytes_named s (of.Var i) = flat_map (λ x. canon_name s.version x.name ++ canon_dimids s.version x.dims) (take 1 (drop i s.vars))
bytes_named s (of.Attr i j) = flat_map (canon_attr s.version) (take 1 (drop j (first_attrs (drop i s.vars))))
