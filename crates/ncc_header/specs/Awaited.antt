-- Where in a header a decoder stands: the part that its next field is in, and what is known of that part's names.
use Rattle.std.specs.Prelude.{◌≡◌, ℕ, List, [], ◌∷◌, ◌++◌, length, map, Option, Some, None}
use Rattle.std.specs.List.{AllByRecursion}
use Rattle.ncc_schema.specs.declared.names.NameOf.{NameOf}
use Rattle.ncc_schema.specs.declared.names.NameOf.TheVariants as of
use Rattle.ncc_schema.specs.declared.schema.Schema.{Schema}
use Rattle.ncc_schema.specs.Names.{name_of}
use Rattle.ncc_header.specs.declared.partial.Partial.{Partial}
use Rattle.ncc_header.specs.declared.partial.Lists.{Lists}
use Rattle.ncc_header.specs.declared.partial.Named.{Named}
use Rattle.ncc_header.specs.declared.partial.Named.TheVariants as named
use Rattle.ncc_header.specs.declared.partial.Next.{Next}
use Rattle.ncc_header.specs.declared.partial.Next.TheVariants as nexts
use Rattle.ncc_header.specs.declared.partial.Owner.{Owner}
use Rattle.ncc_header.specs.declared.partial.Owner.TheVariants as owners
use Rattle.ncc_header.specs.declared.part.Part.{Part}
use Rattle.ncc_header.specs.declared.part.Part.TheVariants as parts
use Rattle.ncc_header.specs.declared.state.State.{State}
use Rattle.ncc_header.specs.declared.state.State.TheVariants as states
use Rattle.ncc_header.specs.declared.unfinished.Unfinished.{Unfinished}

-- ---- where a decoder stands

abbrev pub var_number : Lists → ℕ
var_number l = length l.vars.vars.items

abbrev pub attr_part : Owner → Lists → Part
attr_part owners.File l = parts.Global (length l.attrs.items)
attr_part owners.Variable l = parts.Attr (var_number l) (length l.attrs.items)

abbrev pub list_part : Owner → Lists → Part
list_part owners.File l = parts.GlobalList
list_part owners.Variable l = parts.AttrList (var_number l)

abbrev pub named_part : Named → Lists → Part
named_part named.Dim l = parts.Dim (length l.parts.dims.items)
named_part (named.Attr o) l = attr_part o l
named_part named.Var l = parts.Var (var_number l)

-- the part that the next field is in, if there is one
abbrev pub next_part : Next → Lists → Option Part
next_part nexts.Magic l = Some parts.Magic
next_part nexts.VersionByte l = Some parts.Magic
next_part nexts.NumRecs l = Some parts.NumRecs
next_part nexts.DimsTag l = Some parts.DimList
next_part (nexts.DimsCount t) l = Some parts.DimList
next_part (nexts.NameLength x) l = Some (named_part x l)
next_part (nexts.NameText x n) l = Some (named_part x l)
next_part (nexts.NamePadding x) l = Some (named_part x l)
next_part nexts.DimLength l = Some (named_part named.Dim l)
next_part (nexts.AttrsTag o) l = Some (list_part o l)
next_part (nexts.AttrsCount o t) l = Some (list_part o l)
next_part (nexts.AttrType o) l = Some (attr_part o l)
next_part (nexts.AttrCount o t) l = Some (attr_part o l)
next_part (nexts.AttrValues o k) l = Some (attr_part o l)
next_part (nexts.AttrPadding o n) l = Some (attr_part o l)
next_part nexts.VarsTag l = Some parts.VarList
next_part (nexts.VarsCount t) l = Some parts.VarList
next_part nexts.DimIdsCount l = Some (parts.Var (var_number l))
next_part (nexts.DimId k) l = Some (parts.Var (var_number l))
next_part nexts.VarType l = Some (parts.Place (var_number l))
next_part (nexts.Vsize t) l = Some (parts.Place (var_number l))
next_part (nexts.VarBegin t size) l = Some (parts.Place (var_number l))
next_part nexts.Whole l = None

-- ---- the names that are known there, one by one

-- that of the variable that has begun
abbrev pub var_names : Lists → List (NameOf × List ℕ)
var_names l = (of.Var (var_number l), l.var.name) ∷ []

abbrev pub names_around : Owner → Lists → List (NameOf × List ℕ)
names_around owners.File l = []
names_around owners.Variable l = var_names l

abbrev pub attr_name : Owner → Lists → NameOf
attr_name owners.File l = of.Global (length l.attrs.items)
attr_name owners.Variable l = of.Attr (var_number l) (length l.attrs.items)

-- that of the attribute that has begun, and what is known around it
abbrev pub attr_names : Owner → Lists → (name : List ℕ) → List (NameOf × List ℕ)
attr_names o l text = (attr_name o l, text) ∷ names_around o l

abbrev pub named_names : Named → Lists → List (NameOf × List ℕ)
named_names (named.Attr o) l = names_around o l
named_names _ l = []

-- those of the part that the next field is in
abbrev pub next_names : Next → Partial → List (NameOf × List ℕ)
next_names (nexts.NameLength x) b = named_names x b.lists
next_names (nexts.NameText x n) b = named_names x b.lists
next_names (nexts.NamePadding x) b = named_names x b.lists
next_names nexts.DimLength b = (of.Dim (length b.lists.parts.dims.items), b.name) ∷ []
next_names (nexts.AttrsTag o) b = names_around o b.lists
next_names (nexts.AttrsCount o t) b = names_around o b.lists
next_names (nexts.AttrType o) b = attr_names o b.lists b.name
next_names (nexts.AttrCount o t) b = attr_names o b.lists b.name
next_names (nexts.AttrValues o k) b = attr_names o b.lists b.name
next_names (nexts.AttrPadding o n) b = attr_names o b.lists b.name
next_names nexts.DimIdsCount b = var_names b.lists
next_names (nexts.DimId k) b = var_names b.lists
next_names nexts.VarType b = var_names b.lists
next_names (nexts.Vsize t) b = var_names b.lists
next_names (nexts.VarBegin t size) b = var_names b.lists
next_names _ b = []

-- the schema has these names
abbrev pub AreNamesOf : Schema → List (NameOf × List ℕ) → Type 0
AreNamesOf s names = AllByRecursion (λ x. name_of s x.0 ≡ x.1) names

-- ---- what is told of it

-- that of the dimension or the attribute, which is this once it is read, or of the variable, which is the second
abbrev pub next_name : Next → (name var : List ℕ) → Option (List ℕ)
next_name nexts.DimLength text var = Some text
next_name (nexts.AttrsTag owners.Variable) text var = Some var
next_name (nexts.AttrsCount owners.Variable t) text var = Some var
next_name (nexts.AttrType o) text var = Some text
next_name (nexts.AttrCount o t) text var = Some text
next_name (nexts.AttrValues o k) text var = Some text
next_name (nexts.AttrPadding o n) text var = Some text
next_name nexts.DimIdsCount text var = Some var
next_name (nexts.DimId k) text var = Some var
next_name nexts.VarType text var = Some var
next_name (nexts.Vsize t) text var = Some var
next_name (nexts.VarBegin t size) text var = Some var
next_name _ text var = None

abbrev pub owner_name : Owner → (var : List ℕ) → Option (List ℕ)
owner_name owners.File var = None
owner_name owners.Variable var = Some var

abbrev pub named_owner : Named → (var : List ℕ) → Option (List ℕ)
named_owner (named.Attr o) var = owner_name o var
named_owner _ var = None

-- that of the variable that has the attribute
abbrev pub next_owner : Next → (var : List ℕ) → Option (List ℕ)
next_owner (nexts.NameLength x) var = named_owner x var
next_owner (nexts.NameText x n) var = named_owner x var
next_owner (nexts.NamePadding x) var = named_owner x var
next_owner (nexts.AttrType o) var = owner_name o var
next_owner (nexts.AttrCount o t) var = owner_name o var
next_owner (nexts.AttrValues o k) var = owner_name o var
next_owner (nexts.AttrPadding o n) var = owner_name o var
next_owner _ var = None

abbrev pub unfinished_in : Option Part → (name owner : Option (List ℕ)) → Option Unfinished
unfinished_in None name owner = None
unfinished_in (Some p) name owner = Some (record { part = p; name = name; owner = owner })

abbrev pub unfinished_of : Next → Partial → Option Unfinished
unfinished_of next b = unfinished_in (next_part next b.lists) (next_name next b.name b.lists.var.name) (next_owner next b.lists.var.name)

-- a decoder that has failed stands nowhere
abbrev pub unfinished_at : State → Option Unfinished
unfinished_at (states.Reading r) = unfinished_of r.next r.partial
unfinished_at (states.Failed limit e) = None

-- the names that are told, one by one
abbrev pub item_of : Part → List NameOf
item_of (parts.Dim i) = of.Dim i ∷ []
item_of (parts.Global i) = of.Global i ∷ []
item_of (parts.Var i) = of.Var i ∷ []
item_of (parts.AttrList i) = of.Var i ∷ []
item_of (parts.Attr i j) = of.Attr i j ∷ []
item_of (parts.Place i) = of.Var i ∷ []
item_of _ = []

abbrev pub owner_of : Part → List NameOf
owner_of (parts.Attr i j) = of.Var i ∷ []
owner_of _ = []

abbrev pub with_name : List NameOf → Option (List ℕ) → List (NameOf × List ℕ)
with_name items None = []
with_name items (Some n) = map (λ x. (x, n)) items

abbrev pub names_told : Unfinished → List (NameOf × List ℕ)
names_told u = with_name (item_of u.part) u.name ++ with_name (owner_of u.part) u.owner
