-- Where a list has ended: what is left is what follows it.
use Rattle.std.proofs.Common.{◌≡◌, ℕ, List, [], ◌∷◌, ◌++◌, length, None, refl, sym, ap, subst, ◌∙◌, arith}
use Rattle.std.specs.Prelude.{zip}
use Rattle.std.proofs.lemmas.List.{length-map}
use Rattle.std.proofs.lemmas.Slice.Zip.{firsts-zip, seconds-zip}
use Rattle.ncc_schema.specs.declared.schema.Attr.{Attr}
use Rattle.ncc_schema.specs.declared.schema.Var.{Var}
use Rattle.ncc_schema.specs.declared.schema.VarPlace.{VarPlace}
use Rattle.ncc_header.specs.declared.partial.Begun.{Begun}
use Rattle.ncc_header.specs.declared.partial.Partial.{Partial}
use Rattle.ncc_header.specs.declared.partial.Lists.{Lists}
use Rattle.ncc_header.specs.declared.partial.Next.{Next}
use Rattle.ncc_header.specs.declared.partial.Next.TheVariants as nexts
use Rattle.ncc_header.specs.declared.partial.Owner.{Owner}
use Rattle.ncc_header.specs.declared.partial.Owner.TheVariants as owners
use Rattle.ncc_header.specs.declared.partial.Parts.{Parts}
use Rattle.ncc_header.specs.declared.partial.Vars.{Vars}
use Rattle.ncc_header.specs.Fields.{attrs, var}
use Rattle.ncc_header.specs.Grammar.{Grammar, done, ◌>>=◌, repeat}
use Rattle.ncc_schema.specs.Schema.{Place, place_of, places_of}
use Rattle.ncc_header.specs.Steps.{size_of}
use Rattle.ncc_header.specs.Left.{left_of, with_attrs, from_attrs, in_var, from_dimids, from_type, from_vars, before_of, ended, schema_of}
use Rattle.ncc_header.proofs.Exact.{join_assoc}

pub attrs_end : (o : Owner) (l : Lists) (notes : List Attr) (k : ℕ) → k ≡ 0 → with_attrs o l.parts l.vars l.var notes ≡ from_attrs o l notes k
attrs_end o l notes k h = subst (λ (n : ℕ). with_attrs o l.parts l.vars l.var notes ≡ from_attrs o l notes n) (sym h) refl

pub dimids_end : (p : Parts) (v : Vars) (x : Begun) (k : ℕ) → k ≡ 0 → (attrs p.version >>= with_attrs owners.Variable p v x) ≡ in_var p v (from_dimids p x.name x.dims.items k)
dimids_end p v x k h = subst (λ (n : ℕ). (attrs p.version >>= with_attrs owners.Variable p v x) ≡ in_var p v (from_dimids p x.name x.dims.items n)) (sym h) (sym
    (ap (λ (g : Grammar (List (Var × Place))). g >>= ended p p.gatts.items) (join_assoc (attrs p.version) (from_type p.version x.name x.dims.items) more)
    ∙ join_assoc (attrs p.version) (λ notes. from_type p.version x.name x.dims.items notes >>= more) (ended p p.gatts.items)))
  where
    more : Var × Place → Grammar (List (Var × Place))
    more y = repeat (λ before. var p.version p.dims.items) (before_of v ++ y ∷ []) v.left

pub vars_end : (p : Parts) (v : Vars) (k : ℕ) → k ≡ 0 → done (schema_of p p.gatts.items v.vars.items, places_of v.places.items) ≡ from_vars p (before_of v) k
vars_end p v k h =
    let paired : length (places_of v.places.items) ≡ length v.vars.items = length-map v.places.items place_of ∙ sym v.paired in
    let first = firsts-zip v.vars.items (places_of v.places.items) paired in
    let second = seconds-zip v.vars.items (places_of v.places.items) paired in
    subst (λ (n : ℕ). done (schema_of p p.gatts.items v.vars.items, places_of v.places.items) ≡ from_vars p (before_of v) n) (sym h)
    (λ i. done (schema_of p p.gatts.items (sym first i), sym second i))

-- one variable more, and its place
pub before_more : (vars : List Var) (places : List VarPlace) (x : Var) (p : VarPlace) → length vars ≡ length places → zip (vars ++ x ∷ []) (places_of (places ++ p ∷ [])) ≡ zip vars (places_of places) ++ (x, place_of p) ∷ []
before_more [] [] x p h = refl
before_more [] (q ∷ places) x p h = absurd (omega (arith, h))
before_more (y ∷ vars) [] x p h = absurd (omega (arith, h))
before_more (y ∷ vars) (q ∷ places) x p h = ap (λ (rest : List (Var × Place)). (y, place_of q) ∷ rest) (before_more vars places x p (omega (arith, h)))

-- where no field is left, all are behind
pub is_whole : (next : Next) (b : Partial) → size_of (left_of next b) ≡ None → next ≡ nexts.Whole
is_whole nexts.Magic b h = absurd cc
is_whole nexts.VersionByte b h = absurd cc
is_whole nexts.NumRecs b h = absurd cc
is_whole nexts.DimsTag b h = absurd cc
is_whole (nexts.DimsCount t) b h = absurd cc
is_whole (nexts.NameLength x) b h = absurd cc
is_whole (nexts.NameText x n) b h = absurd cc
is_whole (nexts.NamePadding x) b h = absurd cc
is_whole nexts.DimLength b h = absurd cc
is_whole (nexts.AttrsTag o) b h = absurd cc
is_whole (nexts.AttrsCount o t) b h = absurd cc
is_whole (nexts.AttrType o) b h = absurd cc
is_whole (nexts.AttrCount o t) b h = absurd cc
is_whole (nexts.AttrValues o k) b h = absurd cc
is_whole (nexts.AttrPadding o n) b h = absurd cc
is_whole nexts.VarsTag b h = absurd cc
is_whole (nexts.VarsCount t) b h = absurd cc
is_whole nexts.DimIdsCount b h = absurd cc
is_whole (nexts.DimId k) b h = absurd cc
is_whole nexts.VarType b h = absurd cc
is_whole (nexts.Vsize t) b h = absurd cc
is_whole (nexts.VarBegin t size) b h = absurd cc
is_whole nexts.Whole b h = refl
