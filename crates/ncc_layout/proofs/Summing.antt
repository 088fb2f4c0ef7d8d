-- Sums over variables, with one variable more.
use Rattle.std.proofs.Common.{◌≡◌, ℕ, ◌+◌, ◌≤◌, Bool, true, false, cond, not, List, [], ◌∷◌, ◌++◌, map, Some, None, refl, sym, ap, ◌∙◌, arith}
use Rattle.std.specs.Prelude.{sum_by, ltb, if◌then◌else◌}
use Rattle.std.specs.List.{AllByRecursion}
use Rattle.std.proofs.lemmas.List.Elements.{filter-append}
use Rattle.std.proofs.lemmas.List.Sums.{sum_by-cons, sum_by_push}
use Rattle.std.proofs.lemmas.Bool.{ltb-false}
use Rattle.ncc_schema.specs.declared.schema.Dim.{Dim}
use Rattle.ncc_schema.specs.declared.schema.Var.{Var}
use Rattle.ncc_layout.specs.declared.sizing.Totals.{Totals}
use Rattle.ncc_schema.specs.Schema.{is_record_var}
use Rattle.ncc_layout.specs.Sizes.{up, slab, rounded, record_vars, record_sum, record_bytes, room, NoneTooLarge, Sums, Adds, is_nil, in_room, with_slab}

-- ---- sizes

pub up_in_room : (n : ℕ) → n ≤ room → up n ≤ room
up_in_room n h = omega arith

-- ---- lists with one item more

all_more : {A : Type 0} (P : A → Type 0) (xs : List A) (x : A) → AllByRecursion P xs → P x → AllByRecursion P (xs ++ x ∷ [])
all_more P [] x all h = (h, tt)
all_more P (y ∷ xs) x all h = (all.0, all_more P xs x all.1 h)

-- the padded sizes are those of the slabs
pub sum_of_slabs : (dims : List Dim) (vars : List Var) → sum_by up (map (slab dims) vars) ≡ sum_by (rounded dims) vars
sum_of_slabs dims [] = refl
sum_of_slabs dims (x ∷ vars) =
    sum_by-cons up (slab dims x) (map (slab dims) vars) ∙ ap (λ (n : ℕ). rounded dims x + n) (sum_of_slabs dims vars) ∙ sym (sum_by-cons (rounded dims) x vars)

-- ---- the record variables with one variable more

module _ (dims : List Dim) (xs : List Var) (x : Var) where
  with_record : is_record_var dims x ≡ true → record_vars dims (xs ++ x ∷ []) ≡ record_vars dims xs ++ x ∷ []
  with_record is = filter-append (is_record_var dims) xs (x ∷ []) ∙ ap (λ (b : Bool). record_vars dims xs ++ cond b (x ∷ []) []) is

  sum_with_record : is_record_var dims x ≡ true → record_sum dims (xs ++ x ∷ []) ≡ record_sum dims xs + rounded dims x
  sum_with_record is = ap (sum_by (rounded dims)) (with_record is) ∙ sum_by_push (rounded dims) (record_vars dims xs) x

  -- ---- what fits

  pub fits_with_record : is_record_var dims x ≡ true → slab dims x ≤ room → record_sum dims xs + rounded dims x ≤ room → NoneTooLarge dims xs → NoneTooLarge dims (xs ++ x ∷ [])
  fits_with_record is h sum_h fit = record {
    each = all_more (λ y. rounded dims y ≤ room) xs x fit.each (up_in_room (slab dims x) h);
    together = omega (arith, sum_with_record is, sum_h);
  }

  -- ---- the sums

  not_nil : (ys : List Var) → is_nil (ys ++ x ∷ []) ≡ false
  not_nil [] = refl
  not_nil (y ∷ ys) = refl

  bytes_more : (ys : List Var) → record_bytes (map (slab dims) (ys ++ x ∷ [])) ≡ (if not (is_nil ys) then sum_by (rounded dims) ys + rounded dims x else slab dims x)
  bytes_more [] = refl
  bytes_more (y ∷ []) = sum_of_slabs dims (y ∷ x ∷ []) ∙ sum_by_push (rounded dims) (y ∷ []) x
  bytes_more (y ∷ z ∷ ys) = sum_of_slabs dims (y ∷ z ∷ (ys ++ x ∷ [])) ∙ sum_by_push (rounded dims) (y ∷ z ∷ ys) x

  pub sums_with_record : is_record_var dims x ≡ true → (t u : Totals) → Sums dims xs t → u.any ≡ true → u.sum ≡ t.sum + rounded dims x → u.size ≡ (if t.any then u.sum else slab dims x) → Sums dims (xs ++ x ∷ []) u
  sums_with_record is t u sums any sum_is size_is = record {
    any = any ∙ ap not (sym (ap is_nil (with_record is) ∙ not_nil (record_vars dims xs)));
    sum_is = sum_is ∙ ap (λ (n : ℕ). n + rounded dims x) sums.sum_is ∙ sym (sum_with_record is);
    size_is =
        let total : u.sum ≡ sum_by (rounded dims) (record_vars dims xs) + rounded dims x = sum_is ∙ ap (λ (n : ℕ). n + rounded dims x) sums.sum_is in
        size_is ∙ ap (λ (b : Bool). if b then u.sum else slab dims x) sums.any ∙ ap (λ (n : ℕ). if not (is_nil (record_vars dims xs)) then n else slab dims x) total
        ∙ sym (ap (λ (ys : List Var). record_bytes (map (slab dims) ys)) (with_record is) ∙ bytes_more (record_vars dims xs));
  }

-- ---- what the tests of the program say

in_room_by : (n k : ℕ) (b : Bool) → ltb room n ≡ b → Some k ≡ (if b then None else Some n) → (k ≡ n) × (n ≤ room)
in_room_by n k true test e = absurd cc
in_room_by n k false test e = (cc, ltb-false room n test)

in_room_is : (n k : ℕ) → Some k ≡ in_room n → (k ≡ n) × (n ≤ room)
in_room_is n k e = in_room_by n k (ltb room n) refl e

abbrev more_totals : Totals → ℕ → Totals
more_totals t n = record { any = true; sum = t.sum + up n; size = if t.any then t.sum + up n else n }

with_slab_by : (t u : Totals) (n : ℕ) (b : Bool) → ltb room (t.sum + up n) ≡ b → Some u ≡ (if b then None else Some (more_totals t n)) → (u ≡ more_totals t n) × (t.sum + up n ≤ room)
with_slab_by t u n true test e = absurd cc
with_slab_by t u n false test e = (cc, ltb-false room (t.sum + up n) test)

with_slab_is : (t u : Totals) (n : ℕ) → Some u ≡ with_slab t n → (u ≡ more_totals t n) × (t.sum + up n ≤ room)
with_slab_is t u n e = with_slab_by t u n (ltb room (t.sum + up n)) refl e

-- a record variable is added
pub adds_record : (dims : List Dim) (x : Var) (t u : Totals) (n : ℕ) → is_record_var dims x ≡ true → Some n ≡ in_room (slab dims x) → Some u ≡ with_slab t n → (before : List Var) → Sums dims before t → NoneTooLarge dims before → Adds dims before x (Some (n, u))
adds_record dims x t u n is small added before sums fit =
    let s = in_room_is (slab dims x) n small in
    let w = with_slab_is t u n added in
    let size : up n ≡ rounded dims x = ap up s.0 in
    let total : u.sum ≡ t.sum + rounded dims x = omega (arith, ap (λ (v : Totals). v.sum) w.0, size) in (
      s.0,
      omega (arith, s),
      omega (arith, w.1, total, size),
      sums_with_record dims before x is t u sums (ap (λ (v : Totals). v.any) w.0) total
          (ap (λ (v : Totals). v.size) w.0 ∙ ap (λ (m : ℕ). if t.any then m else n) (sym (ap (λ (v : Totals). v.sum) w.0)) ∙ ap (λ (m : ℕ). if t.any then u.sum else m) s.0),
      fits_with_record dims before x is s.1 (omega (arith, sums.sum_is, w.1, size)) fit,
    )
