-- A schema is refused for nothing of values or of a device.
use Rattle.std.proofs.Common.{ℕ, Bool, true, false, cond, Option, Some, None, List, [], ◌∷◌, Err, inl, inr, sym, subst, length}
use Rattle.ncc_values.specs.Name.{is_name}
use Rattle.ncc_values.specs.declared.version.Version.{Version}
use Rattle.ncc_schema.specs.declared.schema.Attr.{Attr}
use Rattle.ncc_schema.specs.declared.schema.Dim.{Dim}
use Rattle.ncc_schema.specs.declared.schema.Schema.{Schema}
use Rattle.ncc_schema.specs.declared.schema.Var.{Var}
use Rattle.ncc_build.specs.declared.fault.WriteFault.{WriteFault}
use Rattle.ncc_build.specs.declared.fault.WriteFault.TheVariants.{BadName, DuplicateName, TwoRecordDims, BadDimId, RecordDimNotFirst, TypeForVersion, CountForVersion, OffsetForVersion, SizeForVersion, WrongType, TooManyValues, Unfinished, Failed, Complete, Device, Memory}
use Rattle.ncc_build.specs.Building.{BuildFails, RebuildsAs, or_else, refuses_attr, refuses_attrs, refuses_dim, refuses_dims, refuses_global, refuses_globals, refuses_schema, refuses_var, refuses_vars, with_attr, with_dim, with_global, with_var, with_whole}
use Rattle.ncc_build.specs.Dataset.{with_version}
use Rattle.ncc_plan.specs.Plans.{IsOfSchema}

-- what is refused, if anything is, is refused for the schema
abbrev Judges : Option WriteFault → Type 0
Judges None = Unit {0}
Judges (Some f) = IsOfSchema f

record IsRight (o : Option WriteFault) : Type 0 where
  is : Judges o

nothing : IsRight None
nothing = record { is = tt }

by_test : (b : Bool) (f : WriteFault) (later : Option WriteFault) → IsOfSchema f → IsRight later → IsRight (cond b (Some f) later)
by_test true f later is rest = record { is = is }
by_test false f later is rest = rest

or_later : (o later : Option WriteFault) → IsRight o → IsRight later → IsRight (or_else o later)
or_later None later is rest = rest
or_later (Some f) later is rest = record { is = is.is }

-- ---- the calls of a builder

of_dim : (fits : Bool) (s : Schema) (name : List ℕ) (n : ℕ) → IsRight (refuses_dim fits s name n)
of_dim fits s name n = by_test _ BadName _ tt (by_test _ DuplicateName _ tt (by_test _ TwoRecordDims _ tt (by_test _ CountForVersion _ tt nothing)))

of_global : (fits : Bool) (s : Schema) (a : Attr) → IsRight (refuses_global fits s a.name a.values)
of_global fits s a = by_test _ BadName _ tt (by_test _ DuplicateName _ tt (by_test _ TypeForVersion _ tt (by_test _ CountForVersion _ tt nothing)))

of_attr : (fits : Bool) (s : Schema) (n : ℕ) (a : Attr) → IsRight (refuses_attr fits s n a.name a.values)
of_attr fits s n a = by_test _ BadName _ tt (by_test _ DuplicateName _ tt (by_test _ TypeForVersion _ tt (by_test _ CountForVersion _ tt nothing)))

of_var : (fits : Bool) (s : Schema) (x : Var) → IsRight (refuses_var fits s x.name x.xtype x.dims)
of_var fits s x = by_test _ BadName _ tt (by_test _ DuplicateName _ tt (by_test _ BadDimId _ tt (by_test _ RecordDimNotFirst _ tt (by_test _ TypeForVersion _ tt (by_test _ CountForVersion _ tt nothing)))))

of_dims : (s : Schema) (dims : List Dim) → IsRight (refuses_dims s dims)
of_dims s [] = nothing
of_dims s (d ∷ dims) = or_later _ _ (of_dim (is_name d.name) s d.name d.length) (of_dims (with_dim s d.name d.length) dims)

of_globals : (s : Schema) (attrs : List Attr) → IsRight (refuses_globals s attrs)
of_globals s [] = nothing
of_globals s (a ∷ attrs) = or_later _ _ (of_global (is_name a.name) s a) (of_globals (with_global s a.name a.values) attrs)

of_attrs : (s : Schema) (n : ℕ) (attrs : List Attr) → IsRight (refuses_attrs s n attrs)
of_attrs s n [] = nothing
of_attrs s n (a ∷ attrs) = or_later _ _ (of_attr (is_name a.name) s n a) (of_attrs (with_attr s n a.name a.values) n attrs)

of_vars : (s : Schema) (vars : List Var) → IsRight (refuses_vars s vars)
of_vars s [] = nothing
of_vars s (x ∷ vars) =
    or_later _ _ (of_var (is_name x.name) s x)
    (or_later _ _ (of_attrs (with_var s x.name x.xtype x.dims) (length s.vars) x.attrs) (of_vars (with_whole s x) vars))

of_items : (v : Version) (s : Schema) → IsRight (refuses_schema v s)
of_items v s = or_later _ _ (of_dims _ s.dims) (or_later _ _ (of_globals _ s.gatts) (of_vars _ s.vars))

-- ---- the build

of_build : (s : Schema) (n : ℕ) (f : WriteFault) → BuildFails s n f → IsOfSchema f
of_build s n BadName fails = tt
of_build s n DuplicateName fails = tt
of_build s n TwoRecordDims fails = tt
of_build s n BadDimId fails = tt
of_build s n RecordDimNotFirst fails = tt
of_build s n TypeForVersion fails = tt
of_build s n CountForVersion fails = tt
of_build s n OffsetForVersion fails = tt
of_build s n SizeForVersion fails = tt
of_build s n WrongType fails = absurd fails
of_build s n TooManyValues fails = absurd fails
of_build s n Unfinished fails = absurd fails
of_build s n Failed fails = absurd fails
of_build s n Complete fails = absurd fails
of_build s n Device fails = absurd fails
of_build s n Memory fails = tt

pub of_schema : (T : Type 0) (v : Version) (s : Schema) (n : ℕ) (f : WriteFault) → RebuildsAs {T = T} v s n (Err f) → IsOfSchema f
of_schema T v s n f (inl is) = subst IsOfSchema (sym is) tt
of_schema T v s n f (inr (inl is)) = subst Judges is (of_items v s).is
of_schema T v s n f (inr (inr (none, fails))) = of_build (with_version s v) n f fails
