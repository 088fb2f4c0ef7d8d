-- An index of what was found.
use Rattle.std.proofs.Common.{◌≡◌, ℕ, suc, ◌+◌, ◌<◌, ◌⊎◌, List, [], ◌∷◌, ◌++◌, length, take, inl, inr, Result, Ok, Err, refl, sym, ap, subst, ◌∙◌, append_assoc, arith}
use Rattle.std.specs.Prelude.{IfOk, IfErr}
use Rattle.std.proofs.Math.Seq.{take-append_seam}
use Rattle.std.proofs.lemmas.List.{length-append}
use Rattle.ncc_schema.specs.declared.schema.Dim.{Dim}
use Rattle.ncc_schema.specs.declared.schema.Header.{Header}
use Rattle.ncc_schema.specs.declared.schema.Schema.{Schema}
use Rattle.ncc_schema.specs.declared.schema.Var.{Var}
use Rattle.ncc_schema.specs.Names.{StandsAt, list_size, vars_at}
use Rattle.ncc_schema.specs.Schema.{Place, places_of}
use Rattle.ncc_layout.specs.declared.placed_file.Placed.{Placed}
use Rattle.ncc_layout.specs.declared.placed_var.PlacedVar.{PlacedVar}
use Rattle.ncc_layout.specs.Elements.{placed_from}
use Rattle.ncc_layout.specs.Extents.{record_count}
use Rattle.ncc_layout.specs.Placed.{vars_of}
use Rattle.ncc_front.specs.declared.judging.Found.{Found}
use Rattle.ncc_front.specs.declared.judging.FrontRefusal.{FrontRefusal}
use Rattle.ncc_front.specs.Judging.{FindsOf, RefusesFront}
use Rattle.ncc_c.specs.declared.index.Indexed.{Indexed}
use Rattle.ncc_c.specs.Rows.{AllStand, Examines, HasCounts, IsShort, all_var_rows}
use Rattle.ncc_c.specs.Selecting.{AreVars}
use Rattle.ncc_c.proofs.Codes.{rows_are}
use Rattle.ncc_c.proofs.NamesStand.{all_stand}

-- two parts of an array, and what is after them
pub joined : {R : Type 0} (g m : ℕ) (xs ds ys es : List R) → length xs ≡ g → length ys ≡ m → take (g + m) (take g (xs ++ ds) ++ (ys ++ es)) ≡ xs ++ ys
joined g m xs ds ys es x y =
    let first : take g (xs ++ ds) ≡ xs = ap (λ (n : ℕ). take n (xs ++ ds)) (sym x) ∙ take-append_seam xs ds in
    let both : g + m ≡ length (xs ++ ys) = omega (arith, x, y, length-append xs ys) in
    ap (λ zs. take (g + m) (zs ++ (ys ++ es))) first
    ∙ ap (take (g + m)) (sym (append_assoc xs ys es))
    ∙ ap (λ (n : ℕ). take n ((xs ++ ys) ++ es)) both
    ∙ take-append_seam (xs ++ ys) es

pub short_as : (s : Schema) (x : Indexed) (dims attrs vars ids : ℕ) → HasCounts s x
    → (dims < x.dims) ⊎ ((attrs < x.attrs) ⊎ ((vars < x.vars) ⊎ (ids < x.ids))) → IsShort s dims attrs vars ids
short_as s x dims attrs vars ids h (inl e) = inl (omega (arith, h.dims, e))
short_as s x dims attrs vars ids h (inr (inl e)) = inr (inl (omega (arith, h.attrs, e)))
short_as s x dims attrs vars ids h (inr (inr (inl e))) = inr (inr (inl (omega (arith, h.vars, e))))
short_as s x dims attrs vars ids h (inr (inr (inr e))) = inr (inr (inr (omega (arith, h.ids, e))))

length-placed_from : (dims : List Dim) (records n : ℕ) (vars : List Var) (places : List Place) → length places ≡ length vars → length (placed_from dims records n vars places) ≡ length vars
length-placed_from dims records n [] places e = refl
length-placed_from dims records n (x ∷ vars) [] e = absurd (omega (arith, e))
length-placed_from dims records n (x ∷ vars) (p ∷ places) e = omega (arith, length-placed_from dims records (suc n) vars places (omega (arith, e)))

module _ (front : List ℕ) (file limit : ℕ) (h : Header) (p : Placed) (found : FindsOf front file limit h p) where
  abbrev places : List Place
  places = places_of h.places

  number : length places ≡ length h.schema.vars
  number = found.begins.is_header.legal.number

  pub placed_long : length (vars_of p) ≡ length h.schema.vars
  placed_long =
      ap length found.holds.vars_are ∙ length-placed_from h.schema.dims (record_count h.schema places file) 0 h.schema.vars places number

  pub found_stand : AllStand front h.schema (vars_of p)
  found_stand =
      let b = found.begins in
      let there : StandsAt front b.front 0 = record { front = []; rest = b.rest; joined = b.joined; long = refl } in
      all_stand h.schema places b.front front (vars_of p) b.is_header placed_long there

  found_vars : AreVars (all_var_rows h.schema (vars_of p)) (vars_of p)
  found_vars =
      subst (λ (l : List PlacedVar). AreVars (all_var_rows h.schema l) l) (sym found.holds.vars_are)
      (rows_are h.schema.version h.schema.dims (record_count h.schema places file) 0 (vars_at h.schema + list_size h.schema.version) h.schema.vars places number)

-- ---- an answer

pub examined : (front : List ℕ) (file limit : ℕ) (answer : Result Found FrontRefusal) → IfOk answer (λ x. FindsOf front file limit x.header x.placed) → IfErr answer (RefusesFront front file limit) → Examines front file limit answer
examined front file limit (Ok f) finds refuses = finds
examined front file limit (Err e) finds refuses = refuses

pub answer_stands : (front : List ℕ) (file limit : ℕ) (answer : Result Found FrontRefusal) → Examines front file limit answer → IfOk answer (λ f. AllStand front f.header.schema (vars_of f.placed))
answer_stands front file limit (Ok f) is = found_stand front file limit f.header f.placed is
answer_stands front file limit (Err e) is = tt

pub answer_vars : (front : List ℕ) (file limit : ℕ) (answer : Result Found FrontRefusal) → Examines front file limit answer → IfOk answer (λ f. AreVars (all_var_rows f.header.schema (vars_of f.placed)) (vars_of f.placed))
answer_vars front file limit (Ok f) is = found_vars front file limit f.header f.placed is
answer_vars front file limit (Err e) is = tt

pub answer_long : (front : List ℕ) (file limit : ℕ) (answer : Result Found FrontRefusal) (f : Found) → answer ≡ Ok f → Examines front file limit answer → length (vars_of f.placed) ≡ length f.header.schema.vars
answer_long front file limit answer f is e = placed_long front file limit f.header f.placed (subst (Examines front file limit) is e)
