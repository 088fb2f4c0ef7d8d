-- The names of a schema that was built keep the rule, and differ from the others of their kind.
use Rattle.std.proofs.Common.{◌≡◌, ℕ, zero, suc, ◌<◌, true, false, List, [], ◌∷◌, map, length, drop, get_or, refl, sym, ap, subst, ◌∙◌, arith}
use Rattle.std.specs.Prelude.{◌==◌}
use Rattle.std.specs.List.{AllByRecursion}
use Rattle.std.proofs.lemmas.Bool.{eq-eqb, and_from, or_parts}
use Rattle.std.proofs.lemmas.List.{length-map}
use Rattle.ncc_values.specs.Name.{FitsAsName}
use Rattle.ncc_schema.specs.declared.names.NameOf.{NameOf}
use Rattle.ncc_schema.specs.declared.names.NameOf.TheVariants as of
use Rattle.ncc_schema.specs.declared.schema.Attr.{Attr}
use Rattle.ncc_schema.specs.declared.schema.Dim.{Dim}
use Rattle.ncc_schema.specs.declared.schema.Schema.{Schema}
use Rattle.ncc_schema.specs.declared.schema.Var.{Var}
use Rattle.ncc_schema.specs.Names.{first_dim, first_attr, first_var, first_attrs, HasName, name_of}
use Rattle.ncc_build.specs.Building.{is_duplicate_name, dim_names, attr_names, var_names, AreNames, HasNames}
use Rattle.ncc_build.specs.Fill.{same}
use Rattle.ncc_check.specs.Notes.{IsEarlier}

-- ---- lists of names

is_same : (name : List ℕ) → same name name ≡ true
is_same [] = refl
is_same (b ∷ name) = and_from (b == b) (same name name) (eq-eqb b b refl) (is_same name)

not_among : (name : List ℕ) (names : List (List ℕ)) (i : ℕ) → is_duplicate_name name names ≡ false → i < length names
    → name ≡ get_or names i [] → ⊥
not_among name [] i none below is = omega (arith, below)
not_among name (other ∷ names) zero none below is =
    let parts = or_parts (same name other) (is_duplicate_name name names) none in
    let yes : same name other ≡ true = ap (same name) (sym is) ∙ is_same name in
    cc
not_among name (other ∷ names) (suc i) none below is =
    not_among name names i (or_parts (same name other) (is_duplicate_name name names) none).1 (omega (arith, below)) is

names_fit : (names : List (List ℕ)) (i : ℕ) → AreNames names → i < length names → FitsAsName (get_or names i [])
names_fit [] i are below = absurd (omega (arith, below))
names_fit (name ∷ names) zero are below = are.0
names_fit (name ∷ names) (suc i) are below = names_fit names i are.2 (omega (arith, below))

names_differ : (names : List (List ℕ)) (i j : ℕ) → AreNames names → i < j → j < length names
    → get_or names i [] ≡ get_or names j [] → ⊥
names_differ [] i j are less below is = omega (arith, below)
names_differ (name ∷ names) i zero are less below is = omega (arith, less)
names_differ (name ∷ names) zero (suc j) are less below is = not_among name names j are.1 (omega (arith, below)) is
names_differ (name ∷ names) (suc i) (suc j) are less below is =
    names_differ names i j are.2 (omega (arith, less)) (omega (arith, below)) is

-- ---- the names of a schema

dim_at : (dims : List Dim) (i : ℕ) → first_dim (drop i dims) ≡ get_or (map (λ d. d.name) dims) i []
dim_at [] zero = refl
dim_at [] (suc i) = refl
dim_at (d ∷ dims) zero = refl
dim_at (d ∷ dims) (suc i) = dim_at dims i

attr_at : (attrs : List Attr) (i : ℕ) → first_attr (drop i attrs) ≡ get_or (attr_names attrs) i []
attr_at [] zero = refl
attr_at [] (suc i) = refl
attr_at (a ∷ attrs) zero = refl
attr_at (a ∷ attrs) (suc i) = attr_at attrs i

var_at : (vars : List Var) (i : ℕ) → first_var (drop i vars) ≡ get_or (map (λ x. x.name) vars) i []
var_at [] zero = refl
var_at [] (suc i) = refl
var_at (x ∷ vars) zero = refl
var_at (x ∷ vars) (suc i) = var_at vars i

attrs_at : (vars : List Var) (i : ℕ) → AllByRecursion (λ x. AreNames (attr_names x.attrs)) vars
    → AreNames (attr_names (first_attrs (drop i vars)))
attrs_at [] zero all = tt
attrs_at [] (suc i) all = tt
attrs_at (x ∷ vars) zero all = all.0
attrs_at (x ∷ vars) (suc i) all = attrs_at vars i all.1

-- the list that a name is in, and its number there
abbrev list_of : Schema → NameOf → List (List ℕ)
list_of s (of.Dim i) = dim_names s
list_of s (of.Global i) = attr_names s.gatts
list_of s (of.Var i) = var_names s
list_of s (of.Attr i j) = attr_names (first_attrs (drop i s.vars))

abbrev number_of : NameOf → ℕ
number_of (of.Dim i) = i
number_of (of.Global i) = i
number_of (of.Var i) = i
number_of (of.Attr i j) = j

name_is : (s : Schema) (of : NameOf) → name_of s of ≡ get_or (list_of s of) (number_of of) []
name_is s (of.Dim i) = dim_at s.dims i
name_is s (of.Global i) = attr_at s.gatts i
name_is s (of.Var i) = var_at s.vars i
name_is s (of.Attr i j) = attr_at (first_attrs (drop i s.vars)) j

is_there : (s : Schema) (of : NameOf) → HasName s of → number_of of < length (list_of s of)
is_there s (of.Dim i) h = omega (arith, h, length-map s.dims (λ d. d.name))
is_there s (of.Global i) h = omega (arith, h, length-map s.gatts (λ a. a.name))
is_there s (of.Var i) h = omega (arith, h, length-map s.vars (λ x. x.name))
is_there s (of.Attr i j) h = omega (arith, h.1, length-map (first_attrs (drop i s.vars)) (λ a. a.name))

are_names : (s : Schema) (of : NameOf) → HasNames s → AreNames (list_of s of)
are_names s (of.Dim i) names = names.dims
are_names s (of.Global i) names = names.gatts
are_names s (of.Var i) names = names.vars
are_names s (of.Attr i j) names = attrs_at s.vars i names.attrs

pub name_fits : (s : Schema) (of : NameOf) → HasNames s → HasName s of → FitsAsName (name_of s of)
name_fits s of names there = subst FitsAsName (sym (name_is s of))
    (names_fit (list_of s of) (number_of of) (are_names s of names) (is_there s of there))

-- an earlier name is in the same list
abbrev Earlier : Schema → NameOf → NameOf → Type 0
Earlier s a b = (list_of s a ≡ list_of s b) × (number_of a < number_of b)

earlier_is : (s : Schema) (a b : NameOf) → IsEarlier a b → Earlier s a b
earlier_is s (of.Dim i) (of.Dim j) h = (refl, h)
earlier_is s (of.Global i) (of.Global j) h = (refl, h)
earlier_is s (of.Var i) (of.Var j) h = (refl, h)
earlier_is s (of.Attr v i) (of.Attr w j) h = (ap (λ (n : ℕ). attr_names (first_attrs (drop n s.vars))) h.0, h.1)
earlier_is s (of.Dim i) (of.Global j) h = absurd h
earlier_is s (of.Dim i) (of.Var j) h = absurd h
earlier_is s (of.Dim i) (of.Attr w j) h = absurd h
earlier_is s (of.Global i) (of.Dim j) h = absurd h
earlier_is s (of.Global i) (of.Var j) h = absurd h
earlier_is s (of.Global i) (of.Attr w j) h = absurd h
earlier_is s (of.Var i) (of.Dim j) h = absurd h
earlier_is s (of.Var i) (of.Global j) h = absurd h
earlier_is s (of.Var i) (of.Attr w j) h = absurd h
earlier_is s (of.Attr v i) (of.Dim j) h = absurd h
earlier_is s (of.Attr v i) (of.Global j) h = absurd h
earlier_is s (of.Attr v i) (of.Var j) h = absurd h

pub name_differs : (s : Schema) (a b : NameOf) → HasNames s → HasName s b → IsEarlier a b → name_of s a ≡ name_of s b
    → ⊥
name_differs s a b names there ordered is =
    let e = earlier_is s a b ordered in
    names_differ (list_of s b) (number_of a) (number_of b) (are_names s b names) e.1 (is_there s b there)
    (ap (λ (l : List (List ℕ)). get_or l (number_of a) []) (sym e.0) ∙ sym (name_is s a) ∙ is ∙ name_is s b)
