-- How much of a header is left, wherever a decoder stands in it.
use Rattle.std.proofs.Common.{◌≡◌, ℕ, ◌+◌, List, [], ◌∷◌, ◌++◌, length, map, refl, sym, ap, ◌∙◌, append_assoc, length-append, arith}
use Rattle.std.specs.List.{flat_map}
use Rattle.std.proofs.lemmas.List.{map-append, length-map}
use Rattle.std.proofs.lemmas.Slice.Zip.{firsts-zip}
use Rattle.ncc_values.specs.declared.version.Version.{Version}
use Rattle.ncc_schema.specs.declared.schema.Attr.{Attr}
use Rattle.ncc_schema.specs.declared.schema.Count.{Count}
use Rattle.ncc_schema.specs.declared.schema.Dim.{Dim}
use Rattle.ncc_schema.specs.declared.schema.Var.{Var}
use Rattle.ncc_schema.specs.Header.{nc_variable, canon_attr, canon_var}
use Rattle.ncc_schema.specs.Names.{canon_unplaced, list_size, no_place}
use Rattle.ncc_schema.specs.Schema.{Place, places_of, place_of}
use Rattle.ncc_schema.proofs.Sizes.{length-canon_var}
use Rattle.ncc_header.specs.declared.partial.Parts.{Parts}
use Rattle.ncc_header.specs.declared.partial.Vars.{Vars}
use Rattle.ncc_header.specs.Fields.{attrs, list, var}
use Rattle.ncc_header.specs.Grammar.{Grammar, done, ◌>>=◌, repeat}
use Rattle.ncc_header.specs.Left.{Given, before_of, ended, in_var, schema_of, var_list, with_dims}
use Rattle.ncc_parts.proofs.Runs.{AllItems, MoreItems, Runs, in_attrs, in_items, in_list, in_var as run_var, join, weaken}

abbrev pub firsts : List (Var × Place) → List Var
firsts ys = map (λ y. y.0) ys

-- the places take no part in sizes
same_sizes : (v : Version) (ys : List (Var × Place)) → length (flat_map (canon_var v) ys) ≡ length (flat_map (canon_unplaced v) (firsts ys))
same_sizes v [] = refl
same_sizes v (y ∷ ys) =
    omega (
      arith,
      length-append (canon_var v y) (flat_map (canon_var v) ys),
      length-append (canon_unplaced v y.0) (flat_map (canon_unplaced v) (firsts ys)),
      length-canon_var v y.0 y.1,
      length-canon_var v y.0 no_place,
      same_sizes v ys,
    )

-- ---- the variables

-- the schema has these variables and more, which take the rest
abbrev pub MoreVars : Parts → (gatts : List Attr) → (before : List Var) → (n : ℕ) → Given → ℕ → Type 0
MoreVars p gatts before n x m = (vars : List Var) × (x.0 ≡ schema_of p gatts (before ++ vars)) × (m ≡ n + length (flat_map (canon_unplaced p.version) vars))

pub rest_of_vars : (p : Parts) (gatts : List Attr) (before : List (Var × Place)) (k n : ℕ)
    → Runs (repeat (λ _. var p.version p.dims.items) before k >>= ended p gatts) n (MoreVars p gatts (firsts before) n)
rest_of_vars p gatts before k n =
    join (repeat (λ _. var p.version p.dims.items) before k) (ended p gatts) n (MoreItems (canon_var p.version) n before) (MoreVars p gatts (firsts before) n)
    (in_items (λ _. var p.version p.dims.items) (canon_var p.version) (λ _. run_var p.version p.dims.items) before k n)
    (λ all m more. (
      firsts more.0,
      ap (λ ys. schema_of p gatts ys) (ap firsts more.1 ∙ map-append (λ (y : Var × Place). y.0) before more.0),
      omega (arith, more.2, same_sizes p.version more.0),
    ))

-- the variable that has begun is this one, and more take the rest
abbrev pub ThisVar : Parts → Vars → (Var × Place → ℕ → Type 0) → Given → ℕ → Type 0
ThisVar p v Q x m = (y : Var × Place) × (k : ℕ) × Q y k × ((vars : List Var) × (x.0 ≡ schema_of p p.gatts.items (v.vars.items ++ y.0 ∷ vars)) × (m ≡ k + length (flat_map (canon_unplaced p.version) vars)))

vars_before : (v : Vars) → firsts (before_of v) ≡ v.vars.items
vars_before v = firsts-zip v.vars.items (places_of v.places.items) (length-map v.places.items place_of ∙ sym v.paired)

abbrev Both : Parts → Vars → (Var × Place → ℕ → Type 0) → List (Var × Place) → ℕ → Type 0
Both p v Q all m = (y : Var × Place) × (k : ℕ) × Q y k × MoreItems (canon_var p.version) k (before_of v ++ y ∷ []) all m

pub rest_of_var : (p : Parts) (v : Vars) (g : Grammar (Var × Place)) (n : ℕ) (Q : Var × Place → ℕ → Type 0) → Runs g n Q → Runs (in_var p v g) n (ThisVar p v Q)
rest_of_var p v g n Q h =
    let item = λ (_ : List (Var × Place)). var p.version p.dims.items in
    join (g >>= λ y. repeat item (before_of v ++ y ∷ []) v.left) (ended p p.gatts.items) n (Both p v Q) (ThisVar p v Q)
    (join g (λ y. repeat item (before_of v ++ y ∷ []) v.left) n Q (Both p v Q) h
    (λ y k q. weaken (repeat item (before_of v ++ y ∷ []) v.left) k (MoreItems (canon_var p.version) k (before_of v ++ y ∷ [])) (Both p v Q)
    (λ all m more. (y, k, q, more))
    (in_items item (canon_var p.version) (λ _. run_var p.version p.dims.items) (before_of v ++ y ∷ []) v.left k)))
    (λ all m both. (
      both.0,
      both.1,
      both.2,
      (
        firsts both.3.0,
        ap (λ ys. schema_of p p.gatts.items ys)
            (ap firsts both.3.1 ∙ map-append (λ (y : Var × Place). y.0) (before_of v ++ both.0 ∷ []) both.3.0
            ∙ ap (λ ys. ys ++ firsts both.3.0) (map-append (λ (y : Var × Place). y.0) (before_of v) (both.0 ∷ []) ∙ ap (λ ys. ys ++ both.0.0 ∷ []) (vars_before v))
            ∙ append_assoc v.vars.items (both.0.0 ∷ []) (firsts both.3.0)),
        omega (arith, both.3.2, same_sizes p.version both.3.0),
      ),
    ))

-- ---- the list of variables

abbrev pub AllVars : Parts → (gatts : List Attr) → (n : ℕ) → Given → ℕ → Type 0
AllVars p gatts n x m = (vars : List Var) × (x.0 ≡ schema_of p gatts vars) × (m ≡ n + length (flat_map (canon_unplaced p.version) vars))

pub rest_of_all_vars : (p : Parts) (gatts : List Attr) (k n : ℕ) → Runs (repeat (λ _. var p.version p.dims.items) [] k >>= ended p gatts) n (AllVars p gatts n)
rest_of_all_vars p gatts k n = rest_of_vars p gatts [] k n

pub rest_of_var_list : (p : Parts) (gatts : List Attr) (n : ℕ) → Runs (var_list p gatts) n (AllVars p gatts (n + list_size p.version))
rest_of_var_list p gatts n =
    let item = λ (_ : List (Var × Place)). var p.version p.dims.items in
    join (list p.version nc_variable item) (ended p gatts) n (AllItems (canon_var p.version) (n + list_size p.version)) (AllVars p gatts (n + list_size p.version))
    (in_list p.version nc_variable item (canon_var p.version) (λ _. run_var p.version p.dims.items) n)
    (λ all m q. (firsts all, refl, omega (arith, q, same_sizes p.version all)))

-- ---- what follows the dimensions

-- the schema has this version and these dimensions, and its other lists take the rest
abbrev pub HasDims : Version → List Dim → (n : ℕ) → Given → ℕ → Type 0
HasDims v dims n x m =
    (x.0.version ≡ v) × (x.0.dims ≡ dims)
    × (m ≡ n + (list_size v + length (flat_map (canon_attr v) x.0.gatts)) + (list_size v + length (flat_map (canon_unplaced v) x.0.vars)))

pub rest_of_dims : (v : Version) (c : Count) (dims : List Dim) (n : ℕ) → Runs (with_dims v c dims) n (HasDims v dims n)
rest_of_dims v c dims n =
    let item = λ (_ : List (Var × Place)). var v dims in
    join (attrs v) (λ gatts. list v nc_variable item >>= λ vars. done (record { version = v; count = c; dims = dims; gatts = gatts; vars = firsts vars }, map (λ y. y.1) vars)) n
    (AllItems (canon_attr v) (n + list_size v)) (HasDims v dims n) (in_attrs v n)
    (λ gatts m q. join (list v nc_variable item) (λ vars. done (record { version = v; count = c; dims = dims; gatts = gatts; vars = firsts vars }, map (λ y. y.1) vars)) m
    (AllItems (canon_var v) (m + list_size v)) (HasDims v dims n)
    (in_list v nc_variable item (canon_var v) (λ _. run_var v dims) m)
    (λ all k r. (refl, refl, omega (arith, q, r, same_sizes v all))))
