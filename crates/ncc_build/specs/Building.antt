-- Which call of a builder is refused, and with which answer, over the schema that the calls before gave.
use Rattle.std.specs.Prelude.{◌≡◌, ◌⊎◌, Result, Ok, Err, ℕ, zero, suc, ◌+◌, ◌<◌, ◌≤◌, ◌==◌, ◌&&◌, ◌||◌, ltb, leb, not, Bool, false, Option, Some, None, List, [], ◌∷◌, ◌++◌, length, map, get_or, if◌then◌else◌, is_none}
use Rattle.std.specs.List.{AllByRecursion, list_any}
use Rattle.ncc_values.specs.Name.{FitsAsName, is_name}
use Rattle.ncc_values.specs.Values.{type_of, count_of}
use Rattle.ncc_values.specs.XType.{code_of, type_of_code}
use Rattle.ncc_values.specs.declared.values.Values.{Values}
use Rattle.ncc_values.specs.declared.version.Version.{Version}
use Rattle.ncc_values.specs.declared.xtype.XType.{XType}
use Rattle.ncc_schema.specs.declared.schema.Count.TheVariants.{Known}
use Rattle.ncc_schema.specs.declared.schema.Dim.{Dim}
use Rattle.ncc_schema.specs.declared.schema.Attr.{Attr}
use Rattle.ncc_schema.specs.declared.schema.Var.{Var}
use Rattle.ncc_schema.specs.declared.schema.Schema.{Schema}
use Rattle.ncc_schema.specs.Schema.{count_limit, record_dims, is_record, with_count, Sound, IsTyped}
use Rattle.ncc_layout.specs.declared.plan_fault.PlanFault.TheVariants as plan
use Rattle.ncc_layout.specs.Plans.{PlanFails}
use Rattle.ncc_build.specs.declared.fault.WriteFault.{WriteFault}
use Rattle.ncc_build.specs.declared.fault.WriteFault.TheVariants.{BadName, DuplicateName, TwoRecordDims, BadDimId, RecordDimNotFirst, TypeForVersion, CountForVersion, OffsetForVersion, SizeForVersion, Memory}
use Rattle.ncc_build.specs.Fill.{same}
use Rattle.ncc_build.specs.Dataset.{with_version}

-- ---- judging in an order

-- the first refusal whose condition holds
abbrev pub first_refusal : List (Bool × WriteFault) → Option WriteFault
first_refusal [] = None
first_refusal (r ∷ rs) = if r.0 then Some r.1 else first_refusal rs

-- ---- conditions

-- the greatest length of a name
abbrev pub name_limit : ℕ
name_limit = 256

-- the name breaks the rule of names, or is too long
abbrev pub is_bad_name : (fits : Bool) → (name : List ℕ) → Bool
is_bad_name fits name = not fits || ltb name_limit (length name)

-- the name is one of these
abbrev pub is_duplicate_name : (name : List ℕ) → (names : List (List ℕ)) → Bool
is_duplicate_name name names = list_any (same name) names

-- a number that the version can't tell
abbrev pub is_past : Version → ℕ → Bool
is_past v n = leb (count_limit v) n

-- one more item than these, or one of the numbers, can't be told
abbrev pub list_exceeds_count_for_version : {A : Type 0} → Version → List A → (numbers : List ℕ) → Bool
list_exceeds_count_for_version v items numbers = is_past v (length items + 1) || list_any (is_past v) numbers

abbrev pub lacks_type_for_version : Version → XType → Bool
lacks_type_for_version v t = is_none (type_of_code v (code_of t))

abbrev pub has_bad_dim_id : List Dim → List ℕ → Bool
has_bad_dim_id dims ids = list_any (leb (length dims)) ids

-- the record dimension is one of those after the first
abbrev pub has_record_dim_not_first : List Dim → List ℕ → Bool
has_record_dim_not_first dims [] = false
has_record_dim_not_first dims (d ∷ ds) = list_any (is_record dims) ds

-- a second record dimension
abbrev pub makes_two_record_dims : List Dim → (length : ℕ) → Bool
makes_two_record_dims dims n = (n == 0) && ltb 0 (record_dims dims)

-- ---- names so far

abbrev pub dim_names : Schema → List (List ℕ)
dim_names s = map (λ d. d.name) s.dims

abbrev pub attr_names : List Attr → List (List ℕ)
attr_names attrs = map (λ a. a.name) attrs

abbrev pub var_names : Schema → List (List ℕ)
var_names s = map (λ x. x.name) s.vars

-- the attributes of a variable
abbrev pub attrs_of : Schema → (var : ℕ) → List Attr
attrs_of s n = get_or (map (λ x. x.attrs) s.vars) n []

-- ---- refusals; fits is the rule of names on the name

abbrev pub refuses_dim : (fits : Bool) → Schema → (name : List ℕ) → (length : ℕ) → Option WriteFault
refuses_dim fits s name n = first_refusal (
    (is_bad_name fits name, BadName)
    ∷ (is_duplicate_name name (dim_names s), DuplicateName)
    ∷ (makes_two_record_dims s.dims n, TwoRecordDims)
    ∷ (list_exceeds_count_for_version s.version s.dims (n ∷ []), CountForVersion) ∷ [])

-- an attribute after these
abbrev pub refuses_attr_of : (fits : Bool) → Version → List Attr → (name : List ℕ) → Values → Option WriteFault
refuses_attr_of fits v attrs name values = first_refusal (
    (is_bad_name fits name, BadName)
    ∷ (is_duplicate_name name (attr_names attrs), DuplicateName)
    ∷ (lacks_type_for_version v (type_of values), TypeForVersion)
    ∷ (list_exceeds_count_for_version v attrs (count_of values ∷ []), CountForVersion) ∷ [])

abbrev pub refuses_global : (fits : Bool) → Schema → (name : List ℕ) → Values → Option WriteFault
refuses_global fits s name values = refuses_attr_of fits s.version s.gatts name values

abbrev pub refuses_attr : (fits : Bool) → Schema → (var : ℕ) → (name : List ℕ) → Values → Option WriteFault
refuses_attr fits s n name values = refuses_attr_of fits s.version (attrs_of s n) name values

abbrev pub refuses_var : (fits : Bool) → Schema → (name : List ℕ) → XType → (dims : List ℕ) → Option WriteFault
refuses_var fits s name t ids = first_refusal (
    (is_bad_name fits name, BadName)
    ∷ (is_duplicate_name name (var_names s), DuplicateName)
    ∷ (has_bad_dim_id s.dims ids, BadDimId)
    ∷ (has_record_dim_not_first s.dims ids, RecordDimNotFirst)
    ∷ (lacks_type_for_version s.version t, TypeForVersion)
    ∷ (list_exceeds_count_for_version s.version s.vars (length ids ∷ []), CountForVersion) ∷ [])

-- the schema can't be built with so many records: their number, then the sizes, then the begins
abbrev pub BuildFails : Schema → (records : ℕ) → WriteFault → Type 0
BuildFails s records CountForVersion = count_limit s.version ≤ records
BuildFails s records SizeForVersion =
    (records < count_limit s.version) × PlanFails (with_count s records) records plan.SizeForVersion
BuildFails s records OffsetForVersion =
    (records < count_limit s.version) × PlanFails (with_count s records) records plan.OffsetForVersion
BuildFails s records _ = ⊥

-- ---- the schema with one more item

abbrev pub no_schema : Version → Schema
no_schema v = record { version = v; count = Known 0; dims = []; gatts = []; vars = [] }

abbrev pub with_dim : Schema → (name : List ℕ) → (length : ℕ) → Schema
with_dim s name n = record {
  version = s.version;
  count = s.count;
  dims = s.dims ++ record { name = name; length = n } ∷ [];
  gatts = s.gatts;
  vars = s.vars;
}

abbrev pub with_global : Schema → (name : List ℕ) → Values → Schema
with_global s name values = record {
  version = s.version;
  count = s.count;
  dims = s.dims;
  gatts = s.gatts ++ record { name = name; values = values } ∷ [];
  vars = s.vars;
}

abbrev pub with_var : Schema → (name : List ℕ) → XType → (dims : List ℕ) → Schema
with_var s name t ids = record {
  version = s.version;
  count = s.count;
  dims = s.dims;
  gatts = s.gatts;
  vars = s.vars ++ record { name = name; dims = ids; attrs = []; xtype = t } ∷ [];
}

-- a variable with one attribute more
abbrev pub var_with : Var → (name : List ℕ) → Values → Var
var_with x name values = record {
  name = x.name;
  dims = x.dims;
  attrs = x.attrs ++ record { name = name; values = values } ∷ [];
  xtype = x.xtype;
}

abbrev pub vars_with : List Var → (var : ℕ) → (name : List ℕ) → Values → List Var
vars_with [] n name values = []
vars_with (x ∷ vars) zero name values = var_with x name values ∷ vars
vars_with (x ∷ vars) (suc n) name values = x ∷ vars_with vars n name values

abbrev pub with_attr : Schema → (var : ℕ) → (name : List ℕ) → Values → Schema
with_attr s n name values = record {
  version = s.version;
  count = s.count;
  dims = s.dims;
  gatts = s.gatts;
  vars = vars_with s.vars n name values;
}

-- ---- what has been built

-- each name keeps the rule, and no two are the same
abbrev pub AreNames : List (List ℕ) → Type 0
AreNames [] = Unit {0}
AreNames (name ∷ names) = FitsAsName name × (is_duplicate_name name names ≡ false) × AreNames names

-- all names keep the rule, and differ from the others of their kind
pub record HasNames (s : Schema) : Type 0 where
  pub dims : AreNames (dim_names s)
  pub gatts : AreNames (attr_names s.gatts)
  pub vars : AreNames (var_names s)
  pub attrs : AllByRecursion (λ x. AreNames (attr_names x.attrs)) s.vars

abbrev pub AreShort : List (List ℕ) → Type 0
AreShort names = AllByRecursion (λ name. length name ≤ name_limit) names

pub record HasShortNames (s : Schema) : Type 0 where
  pub dims : AreShort (dim_names s)
  pub gatts : AreShort (attr_names s.gatts)
  pub vars : AreShort (var_names s)
  pub attrs : AllByRecursion (λ x. AreShort (attr_names x.attrs)) s.vars

-- no length of a dimension has its top bit set
abbrev pub HasLengths : Schema → Type 0
HasLengths s = AllByRecursion (λ d. d.length < count_limit s.version) s.dims

-- what the calls of a builder gave
pub record IsBuilt (s : Schema) : Type 0 where
  pub sound : Sound s
  pub typed : IsTyped s
  pub names : HasNames s
  pub short : HasShortNames s
  pub lengths : HasLengths s

-- ---- a whole schema, by the calls of a builder in the order of the header

-- the second where the first refuses nothing
abbrev pub or_else : Option WriteFault → Option WriteFault → Option WriteFault
or_else None later = later
or_else (Some f) later = Some f

-- the first refusal of these dimensions, after those of s
abbrev pub refuses_dims : Schema → List Dim → Option WriteFault
refuses_dims s [] = None
refuses_dims s (d ∷ dims) =
    or_else (refuses_dim (is_name d.name) s d.name d.length)
    (refuses_dims (with_dim s d.name d.length) dims)

abbrev pub refuses_globals : Schema → List Attr → Option WriteFault
refuses_globals s [] = None
refuses_globals s (a ∷ attrs) =
    or_else (refuses_global (is_name a.name) s a.name a.values)
    (refuses_globals (with_global s a.name a.values) attrs)

-- of these attributes of a variable
abbrev pub refuses_attrs : Schema → (var : ℕ) → List Attr → Option WriteFault
refuses_attrs s n [] = None
refuses_attrs s n (a ∷ attrs) =
    or_else (refuses_attr (is_name a.name) s n a.name a.values)
    (refuses_attrs (with_attr s n a.name a.values) n attrs)

-- with a variable and its attributes
abbrev pub with_whole : Schema → Var → Schema
with_whole s x = record {
  version = s.version;
  count = s.count;
  dims = s.dims;
  gatts = s.gatts;
  vars = s.vars ++ x ∷ [];
}

-- of these variables, each followed by its attributes
abbrev pub refuses_vars : Schema → List Var → Option WriteFault
refuses_vars s [] = None
refuses_vars s (x ∷ vars) =
    or_else (refuses_var (is_name x.name) s x.name x.xtype x.dims)
    (or_else (refuses_attrs (with_var s x.name x.xtype x.dims) (length s.vars) x.attrs)
    (refuses_vars (with_whole s x) vars))

-- of a schema in another version: its dimensions, its global attributes, and its variables with theirs
abbrev pub refuses_schema : Version → Schema → Option WriteFault
refuses_schema v s =
    or_else (refuses_dims (no_schema v) s.dims)
    (or_else
    (refuses_globals (record { version = v; count = Known 0; dims = s.dims; gatts = []; vars = [] }) s.gatts)
    (refuses_vars (record { version = v; count = Known 0; dims = s.dims; gatts = s.gatts; vars = [] }) s.vars))

-- a variable and its attributes
abbrev pub refuses_whole : Schema → Var → Option WriteFault
refuses_whole s x =
    or_else (refuses_var (is_name x.name) s x.name x.xtype x.dims)
    (refuses_attrs (with_var s x.name x.xtype x.dims) (length s.vars) x.attrs)

-- the schema with all these dimensions more
abbrev pub with_dims : Schema → List Dim → Schema
with_dims s dims = record {
  version = s.version;
  count = s.count;
  dims = s.dims ++ dims;
  gatts = s.gatts;
  vars = s.vars;
}

abbrev pub with_globals : Schema → List Attr → Schema
with_globals s attrs = record {
  version = s.version;
  count = s.count;
  dims = s.dims;
  gatts = s.gatts ++ attrs;
  vars = s.vars;
}

-- with these further attributes of a variable
abbrev pub with_attrs : Schema → (var : ℕ) → List Attr → Schema
with_attrs s n [] = s
with_attrs s n (a ∷ attrs) = with_attrs (with_attr s n a.name a.values) n attrs

-- with these variables, and their attributes, more
abbrev pub with_vars : Schema → List Var → Schema
with_vars s vars = record {
  version = s.version;
  count = s.count;
  dims = s.dims;
  gatts = s.gatts;
  vars = s.vars ++ vars;
}

-- ---- answers of a call

-- refused exactly so, unless memory was refused
abbrev pub IsJudged : {T : Type 0} → Option WriteFault → Result T WriteFault → Type 0
IsJudged None (Ok x) = Unit {0}
IsJudged (Some f) (Ok x) = ⊥
IsJudged None (Err e) = e ≡ Memory
IsJudged (Some f) (Err e) = (e ≡ f) ⊎ (e ≡ Memory)

-- the same of a schema's build, which a builder refuses
abbrev pub BuildFailsOr : Schema → (records : ℕ) → WriteFault → Type 0
BuildFailsOr s records e = (e ≡ Memory) ⊎ BuildFails s records e

-- a schema is built anew in the version, with so many records: a refused call is the first that is, and the build is
-- refused only where no call was
abbrev pub RebuildsAs : {T : Type 0} → Version → Schema → (records : ℕ) → Result T WriteFault → Type 0
RebuildsAs v s n (Ok b) =
    (refuses_schema v s ≡ None) × ((f : WriteFault) → BuildFails (with_version s v) n f → ⊥)
RebuildsAs v s n (Err e) =
    (e ≡ Memory) ⊎ ((refuses_schema v s ≡ Some e)
    ⊎ ((refuses_schema v s ≡ None) × BuildFails (with_version s v) n e))
