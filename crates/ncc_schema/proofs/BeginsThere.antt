-- The begins of a canonical header stand where they are told to.
use Rattle.std.proofs.Common.{◌≡◌, ℕ, zero, suc, ◌+◌, ◌-◌, ◌≤◌, List, [], ◌∷◌, ◌++◌, length, take, drop, ap, ◌∙◌, append_assoc, append-nil, length-append, arith}
use Rattle.std.specs.List.{flat_map}
use Rattle.std.specs.Prelude.{zip, slice_get, Some}
use Rattle.ncc_values.specs.Numbers.{big_endian}
use Rattle.ncc_values.specs.BigEndian.{length-big_endian}
use Rattle.ncc_values.specs.Version.{count_width_of, offset_width_of}
use Rattle.ncc_values.specs.XType.{code_of}
use Rattle.ncc_values.specs.declared.version.Version.{Version}
use Rattle.ncc_schema.specs.declared.schema.Var.{Var}
use Rattle.ncc_schema.specs.declared.schema.Schema.{Schema}
use Rattle.ncc_schema.specs.Schema.{Place}
use Rattle.ncc_schema.specs.Header.{canon_name, canon_list, canon_attr, canon_dimids, canon_var, canon}
use Rattle.ncc_schema.specs.Names.{list_size, before, vars_at, begin_at, StandsAt}
use Rattle.ncc_schema.proofs.NamesThere.{inside, moved, in_item, vars_there}

-- the variable of this place
abbrev PlaceAt : List Var → List Place → ℕ → Place → Type 0
PlaceAt vars places i p = (x : Var) × (more : List (Var × Place)) × (drop i (zip vars places) ≡ (x, p) ∷ more)

place_there : (vars : List Var) (places : List Place) (i : ℕ) (p : Place) → length places ≡ length vars → slice_get places i ≡ Some p → PlaceAt vars places i p
place_there vars [] i p e is = absurd cc
place_there [] (q ∷ places) i p e is = absurd (omega (arith, e))
place_there (x ∷ vars) (q ∷ places) zero p e is =
    let same : q ≡ p = cc in
    (x, zip vars places, ap (λ r. (x, r) ∷ zip vars places) same)
place_there (x ∷ vars) (q ∷ places) (suc i) p e is = place_there vars places i p (omega (arith, e)) is

before_next : {A : Type 0} (item : A → List ℕ) (items : List A) (i : ℕ) (x : A) (more : List A) → drop i items ≡ x ∷ more → before item (suc i) items ≡ before item i items + length (item x)
before_next item [] zero x more e = absurd cc
before_next item [] (suc i) x more e = absurd cc
before_next item (y ∷ items) zero x more e =
    let same : y ≡ x = cc in
    ap length (append-nil (item y)) ∙ ap (λ z. length (item z)) same ∙ omega arith
before_next item (y ∷ items) (suc i) x more e =
    omega (arith, length-append (item y) (flat_map item (take (suc i) items)), length-append (item y) (flat_map item (take i items)), before_next item items i x more e)

-- the begin is the last field of a variable
at_end : (v : Version) (x : Var) (p : Place) → StandsAt (canon_var v (x, p)) (big_endian (offset_width_of v) p.begin) (length (canon_var v (x, p)) - offset_width_of v)
at_end v x p =
    let begin = big_endian (offset_width_of v) p.begin in
    let front = canon_name v x.name ++ (canon_dimids v x.dims ++ (canon_list v 12 (canon_attr v) x.attrs ++ (big_endian 4 (code_of x.xtype) ++ big_endian (count_width_of v) p.vsize))) in
    let joined : canon_var v (x, p) ≡ front ++ (begin ++ []) = simp (append_assoc, append-nil) in
    record {
      front = front;
      rest = [];
      joined = joined;
      long = omega (arith, ap length joined, length-append front (begin ++ []), length-append begin [], length-big_endian (offset_width_of v) p.begin);
    }

ends_at : (start before size width next : ℕ) → width ≤ size → next ≡ before + size → start + before + (size - width) ≡ start + next - width
ends_at start before size width next wide e = omega arith

pub begin_is_there : (s : Schema) (places : List Place) (i : ℕ) (p : Place) → length places ≡ length s.vars → slice_get places i ≡ Some p → StandsAt (canon s places) (big_endian (offset_width_of s.version) p.begin) (begin_at s places i)
begin_is_there s places i p e is =
    let v = s.version in
    let begin = big_endian (offset_width_of v) p.begin in
    let t = place_there s.vars places i p e is in
    let x = t.0 in
    let size = length (canon_var v (x, p)) in
    let at = vars_at s + list_size v + before (canon_var v) i (zip s.vars places) in
    let var = in_item (canon s places) v 11 (canon_var v) (zip s.vars places) i (x, p) t.1 (vars_at s) t.2 (vars_there s places) in
    let within = at_end v x p in
    let wide : offset_width_of v ≤ size = omega (arith, ap length within.joined, length-append within.front (begin ++ within.rest), length-append begin within.rest, length-big_endian (offset_width_of v) p.begin) in
    let next = before_next (canon_var v) (zip s.vars places) i (x, p) t.1 t.2 in
    moved (canon s places) begin (at + (size - offset_width_of v)) (begin_at s places i) (ends_at (vars_at s + list_size v) (before (canon_var v) i (zip s.vars places)) size (offset_width_of v) _ wide next)
    (inside (canon s places) (canon_var v (x, p)) begin at (size - offset_width_of v) var within)
