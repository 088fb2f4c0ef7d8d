-- What `ncc list --json` says of a header: the members of its object, token by token.
use Rattle.std.specs.Prelude.{ℕ, ◌+◌, ◌==◌, true, List, [], ◌∷◌, ◌++◌, map, get_or, codes, if◌then◌else◌}
use Rattle.std.specs.List.{flat_map}
use Rattle.json.specs.Token.{Token, begin_object, boolean, end_array, end_object, key}
use Rattle.ncc_values.specs.Values.{type_of}
use Rattle.ncc_values.specs.Version.{byte_of}
use Rattle.ncc_values.specs.XType.{word_of}
use Rattle.ncc_values.specs.declared.version.Version.{Version}
use Rattle.ncc_values.specs.declared.xtype.XType.{XType}
use Rattle.ncc_schema.specs.declared.schema.Attr.{Attr}
use Rattle.ncc_schema.specs.declared.schema.Count.{Count}
use Rattle.ncc_schema.specs.declared.schema.Count.TheVariants.{Known, Streaming}
use Rattle.ncc_schema.specs.declared.schema.Dim.{Dim}
use Rattle.ncc_schema.specs.declared.schema.Header.{Header}
use Rattle.ncc_schema.specs.declared.schema.Var.{Var}
use Rattle.ncc_schema.specs.declared.schema.VarPlace.{VarPlace}
use Rattle.ncc_json.specs.Members.{bytes_member, list_start, number_member, text_member}
use Rattle.ncc_lines.specs.declared.style.FloatStyle.{FloatStyle}
use Rattle.ncc_listed.specs.Values.{unsigned_token, values_member}

-- ---- the version and the numbers of the header

abbrev pub count_member : Count → List Token
count_member (Known n) = number_member (codes "numrecs") n
count_member Streaming = text_member (codes "numrecs") (codes "streaming")

unfoldable pub version_member : Version → List Token
version_member v = number_member (codes "version") (byte_of v)

unfoldable pub length_member : (length : ℕ) → List Token
length_member n = number_member (codes "header_length") n

-- its version, the number of records, and how many bytes it has
unfoldable pub head_members : Header → List Token
head_members h = version_member h.schema.version ++ (count_member h.schema.count ++ length_member h.length)

-- ---- dimensions

-- something that is so
unfoldable pub mark_member : (name : List ℕ) → List Token
mark_member name = (key name ∷ []) ++ (boolean true ∷ [])

-- the record dimension has the length 0, and a mark
abbrev pub unlimited_member : (length : ℕ) → List Token
unlimited_member n = if n == 0 then mark_member (codes "unlimited") else []

unfoldable pub dim_object : Dim → List Token
dim_object d =
    (begin_object ∷ []) ++ (bytes_member (codes "name") d.name ++ (number_member (codes "length") d.length
    ++ (unlimited_member d.length ++ (end_object ∷ []))))

unfoldable pub dims_member : List Dim → List Token
dims_member dims = list_start (codes "dimensions") ++ (flat_map dim_object dims ++ (end_array ∷ []))

-- ---- attributes

unfoldable pub type_member : XType → List Token
type_member t = text_member (codes "type") (word_of t)

unfoldable pub attr_object : FloatStyle → Attr → List Token
attr_object style a =
    (begin_object ∷ []) ++ (bytes_member (codes "name") a.name ++ (type_member (type_of a.values)
    ++ (values_member style a.values ++ (end_object ∷ []))))

unfoldable pub attrs_member : FloatStyle → List Attr → List Token
attrs_member style attrs =
    list_start (codes "attributes") ++ (flat_map (attr_object style) attrs ++ (end_array ∷ []))

-- ---- variables

-- the numbers of its dimensions
unfoldable pub dim_numbers_member : List ℕ → List Token
dim_numbers_member numbers =
    list_start (codes "dimensions") ++ (map unsigned_token numbers ++ (end_array ∷ []))

-- what the header says of the place of a variable
unfoldable pub place_members : VarPlace → List Token
place_members p = number_member (codes "vsize") p.vsize ++ number_member (codes "begin") p.begin

unfoldable pub var_object : FloatStyle → VarPlace → Var → List Token
var_object style p x =
    (begin_object ∷ []) ++ (bytes_member (codes "name") x.name ++ (type_member x.xtype
    ++ (dim_numbers_member x.dims ++ (attrs_member style x.attrs ++ (place_members p ++ (end_object ∷ []))))))

-- A header has a place for each variable: where it hasn't, the place is all zeros.
abbrev pub no_place : VarPlace
no_place = record { vsize = 0; begin = 0; begin_at = 0 }

abbrev pub place_at : List VarPlace → (number : ℕ) → VarPlace
place_at places number = get_or places number no_place

-- variables that are numbered from here on
abbrev pub var_objects : FloatStyle → List VarPlace → (number : ℕ) → List Var → List Token
var_objects style places number [] = []
var_objects style places number (x ∷ vars) =
    var_object style (place_at places number) x ++ var_objects style places (number + 1) vars

unfoldable pub vars_member : FloatStyle → List VarPlace → List Var → List Token
vars_member style places vars =
    list_start (codes "variables") ++ (var_objects style places 0 vars ++ (end_array ∷ []))

-- ---- all members of a header, in its order

abbrev pub list_members : FloatStyle → Header → List Token
list_members style h =
    head_members h ++ (dims_member h.schema.dims ++ (attrs_member style h.schema.gatts
    ++ vars_member style h.places h.schema.vars))
