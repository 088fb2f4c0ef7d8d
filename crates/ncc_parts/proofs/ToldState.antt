-- What is told of where a decoder stands is so in every header that can follow.
use Rattle.std.proofs.Common.{◌≡◌, ℕ, ◌<◌, List, ◌++◌, length, Option, Some, None, refl, sym, ap, subst, ◌∙◌}
use Rattle.std.specs.Prelude.{IfSome}
use Rattle.ncc_schema.specs.declared.schema.Header.{Header}
use Rattle.ncc_header.specs.declared.partial.Partial.{Partial}
use Rattle.ncc_header.specs.declared.partial.Named.TheVariants as named
use Rattle.ncc_header.specs.declared.partial.Next.{Next}
use Rattle.ncc_header.specs.declared.partial.Next.TheVariants as nexts
use Rattle.ncc_header.specs.declared.partial.Owner.TheVariants as owners
use Rattle.ncc_header.specs.declared.part.Part.{Part}
use Rattle.ncc_header.specs.declared.state.State.{State}
use Rattle.ncc_header.specs.declared.state.State.TheVariants as states
use Rattle.ncc_header.specs.declared.unfinished.Unfinished.{Unfinished}
use Rattle.ncc_header.specs.Answers.{Begins}
use Rattle.ncc_header.specs.Awaited.{AreNamesOf, names_told, next_names, next_part, unfinished_at, unfinished_in, unfinished_of}
use Rattle.ncc_header.specs.State.{TookAt, limit_at}
use Rattle.ncc_parts.specs.Parts.{part_at, parts_of}
use Rattle.ncc_parts.proofs.NextPart.{in_next_part, names_of_next}

same_told : (v u : Unfinished) → Some v ≡ Some u → v ≡ u
same_told v u e = cc

-- the names that are told are those that are known
told_names : (next : Next) (b : Partial) (u : Unfinished) → unfinished_of next b ≡ Some u → names_told u ≡ next_names next b
told_names nexts.Magic b u e = sym (ap names_told (same_told _ u e))
told_names nexts.VersionByte b u e = sym (ap names_told (same_told _ u e))
told_names nexts.NumRecs b u e = sym (ap names_told (same_told _ u e))
told_names nexts.DimsTag b u e = sym (ap names_told (same_told _ u e))
told_names (nexts.DimsCount t) b u e = sym (ap names_told (same_told _ u e))
told_names (nexts.NameLength named.Dim) b u e = sym (ap names_told (same_told _ u e))
told_names (nexts.NameLength named.Var) b u e = sym (ap names_told (same_told _ u e))
told_names (nexts.NameLength (named.Attr owners.File)) b u e = sym (ap names_told (same_told _ u e))
told_names (nexts.NameLength (named.Attr owners.Variable)) b u e = sym (ap names_told (same_told _ u e))
told_names (nexts.NameText named.Dim n) b u e = sym (ap names_told (same_told _ u e))
told_names (nexts.NameText named.Var n) b u e = sym (ap names_told (same_told _ u e))
told_names (nexts.NameText (named.Attr owners.File) n) b u e = sym (ap names_told (same_told _ u e))
told_names (nexts.NameText (named.Attr owners.Variable) n) b u e = sym (ap names_told (same_told _ u e))
told_names (nexts.NamePadding named.Dim) b u e = sym (ap names_told (same_told _ u e))
told_names (nexts.NamePadding named.Var) b u e = sym (ap names_told (same_told _ u e))
told_names (nexts.NamePadding (named.Attr owners.File)) b u e = sym (ap names_told (same_told _ u e))
told_names (nexts.NamePadding (named.Attr owners.Variable)) b u e = sym (ap names_told (same_told _ u e))
told_names nexts.DimLength b u e = sym (ap names_told (same_told _ u e))
told_names (nexts.AttrsTag owners.File) b u e = sym (ap names_told (same_told _ u e))
told_names (nexts.AttrsCount owners.File t) b u e = sym (ap names_told (same_told _ u e))
told_names (nexts.AttrType owners.File) b u e = sym (ap names_told (same_told _ u e))
told_names (nexts.AttrCount owners.File t) b u e = sym (ap names_told (same_told _ u e))
told_names (nexts.AttrValues owners.File k) b u e = sym (ap names_told (same_told _ u e))
told_names (nexts.AttrPadding owners.File n) b u e = sym (ap names_told (same_told _ u e))
told_names (nexts.AttrsTag owners.Variable) b u e = sym (ap names_told (same_told _ u e))
told_names (nexts.AttrsCount owners.Variable t) b u e = sym (ap names_told (same_told _ u e))
told_names (nexts.AttrType owners.Variable) b u e = sym (ap names_told (same_told _ u e))
told_names (nexts.AttrCount owners.Variable t) b u e = sym (ap names_told (same_told _ u e))
told_names (nexts.AttrValues owners.Variable k) b u e = sym (ap names_told (same_told _ u e))
told_names (nexts.AttrPadding owners.Variable n) b u e = sym (ap names_told (same_told _ u e))
told_names nexts.VarsTag b u e = sym (ap names_told (same_told _ u e))
told_names (nexts.VarsCount t) b u e = sym (ap names_told (same_told _ u e))
told_names nexts.DimIdsCount b u e = sym (ap names_told (same_told _ u e))
told_names (nexts.DimId k) b u e = sym (ap names_told (same_told _ u e))
told_names nexts.VarType b u e = sym (ap names_told (same_told _ u e))
told_names (nexts.Vsize t) b u e = sym (ap names_told (same_told _ u e))
told_names (nexts.VarBegin t size) b u e = sym (ap names_told (same_told _ u e))
told_names nexts.Whole b u e = absurd cc

-- the part that is told is that of the next field
told_part : (o : Option Part) (name owner : Option (List ℕ)) (u : Unfinished) → unfinished_in o name owner ≡ Some u → o ≡ Some u.part
told_part None name owner u e = absurd cc
told_part (Some p) name owner u e = ap (λ (v : Unfinished). Some v.part) (same_told _ u e)

if_some : {A : Type 0} (o : Option A) (P : A → Type 0) → ((a : A) → o ≡ Some a → P a) → IfSome o P
if_some None P h = tt
if_some (Some a) P h = h a refl

pub told_is_there : (s : State) (taken more : List ℕ) (h : Header) → TookAt s taken → Begins (taken ++ more) (limit_at s) h → length taken < h.length
    → IfSome (unfinished_at s) (λ u. part_at (length taken) (parts_of h.schema) ≡ Some u.part)
told_is_there (states.Reading r) taken more h t b lt =
    if_some (unfinished_of r.next r.partial) (λ u. part_at (length taken) (parts_of h.schema) ≡ Some u.part)
    (λ u e. in_next_part r taken more h t b lt ∙ told_part (next_part r.next r.partial.lists) _ _ u e)
told_is_there (states.Failed limit e) taken more h t b lt = tt

pub told_is_named : (s : State) (taken more : List ℕ) (h : Header) → TookAt s taken → Begins (taken ++ more) (limit_at s) h
    → IfSome (unfinished_at s) (λ u. AreNamesOf h.schema (names_told u))
told_is_named (states.Reading r) taken more h t b =
    if_some (unfinished_of r.next r.partial) (λ u. AreNamesOf h.schema (names_told u))
    (λ u e. subst (AreNamesOf h.schema) (sym (told_names r.next r.partial u e)) (names_of_next r taken more h t b))
told_is_named (states.Failed limit e) taken more h t b = tt
