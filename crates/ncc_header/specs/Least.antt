-- How many bytes are surely still to come of a header.
use Rattle.std.specs.Prelude.{ℕ, ◌+◌, ◌-◌, ◌*◌, min, ltb, if◌then◌else◌, Option, Some, None}
use Rattle.ncc_header.specs.declared.partial.Lists.{Lists}
use Rattle.ncc_header.specs.declared.partial.Owner.{Owner}
use Rattle.ncc_header.specs.declared.partial.Owner.TheVariants as owners
use Rattle.ncc_header.specs.declared.partial.Named.{Named}
use Rattle.ncc_header.specs.declared.partial.Named.TheVariants as named
use Rattle.ncc_header.specs.declared.partial.Next.{Next}
use Rattle.ncc_header.specs.declared.partial.Next.TheVariants as nexts

-- after the dimension that has begun: each has 8 bytes at least, and two lists follow
abbrev pub rest_of_dims : Lists → ℕ
rest_of_dims l = l.dims_left * 8 + 16

-- after the variable that has begun: each has 28 bytes at least
abbrev pub rest_of_vars : Lists → ℕ
rest_of_vars l = l.vars.left * 28

-- after a list of attributes: the list of variables, or the variable's type, size and offset
abbrev pub rest_of_owner : Owner → Lists → ℕ
rest_of_owner owners.File l = 8
rest_of_owner owners.Variable l = 12 + rest_of_vars l

-- after the attribute that has begun: each has 12 bytes at least
abbrev pub rest_of_attrs : Owner → Lists → ℕ
rest_of_attrs o l = l.attrs_left * 12 + rest_of_owner o l

-- after a name: a dimension's length, an attribute's type and number of values, a variable's rank,
-- list of attributes, type, size and offset
abbrev pub rest_of_named : Named → Lists → ℕ
rest_of_named named.Dim l = 4 + rest_of_dims l
rest_of_named (named.Attr o) l = 8 + rest_of_attrs o l
rest_of_named named.Var l = 24 + rest_of_vars l

-- after the next field
abbrev pub rest_of : Next → Lists → ℕ
rest_of nexts.Magic l = 29
rest_of nexts.VersionByte l = 28
rest_of nexts.NumRecs l = 24
rest_of nexts.DimsTag l = 20
rest_of (nexts.DimsCount t) l = 16
rest_of (nexts.NameLength x) l = rest_of_named x l
rest_of (nexts.NameText x n) l = rest_of_named x l
rest_of (nexts.NamePadding x) l = rest_of_named x l
rest_of nexts.DimLength l = rest_of_dims l
rest_of (nexts.AttrsTag o) l = 4 + rest_of_owner o l
rest_of (nexts.AttrsCount o t) l = rest_of_owner o l
rest_of (nexts.AttrType o) l = 4 + rest_of_attrs o l
rest_of (nexts.AttrCount o t) l = rest_of_attrs o l
rest_of (nexts.AttrValues o k) l = rest_of_attrs o l
rest_of (nexts.AttrPadding o n) l = rest_of_attrs o l
rest_of nexts.VarsTag l = 4
rest_of (nexts.VarsCount t) l = 0
rest_of nexts.DimIdsCount l = 20 + rest_of_vars l
rest_of (nexts.DimId k) l = k * 4 + 20 + rest_of_vars l
rest_of nexts.VarType l = 8 + rest_of_vars l
rest_of (nexts.Vsize t) l = 4 + rest_of_vars l
rest_of (nexts.VarBegin t size) l = rest_of_vars l
rest_of nexts.Whole l = 0

-- The bytes that are surely still to come: the next field has this size and so much follows it at least, and so many
-- bytes of it have come. There are none where it ends past the limit, and none lies past the limit.
abbrev pub expects_of : Option ℕ → (rest limit at held : ℕ) → ℕ
expects_of None rest limit at held = 0
expects_of (Some n) rest limit at held = if ltb limit (at + n) then 0 else min (n + rest) (limit - at) - held
