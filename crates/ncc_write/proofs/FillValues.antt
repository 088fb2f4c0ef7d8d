-- The attribute that gives a fill value, and the value.
use Rattle.std.proofs.Common.{◌≡◌, ℕ, suc, ◌+◌, ◌*◌, ◌<◌, Bool, true, false, cond, ◌&&◌, eqb, List, ◌∷◌, length, get_or, take, drop, Some, refl, sym, ap, ◌∙◌, add-one, drop-cons, arith}
use Rattle.std.specs.Prelude.{◌==◌}
use Rattle.std.specs.Cmp.Lexicographic.{pointwise}
use Rattle.std.proofs.lemmas.Bool.{eq-eqb}
use Rattle.std.proofs.lemmas.List.{take_all}
use Rattle.ncc_values.specs.Fill.{fill_of}
use Rattle.ncc_values.specs.Values.{type_of, count_of, bytes_of}
use Rattle.ncc_values.specs.XType.{code_of, size_of}
use Rattle.ncc_values.specs.declared.values.Values.{Values}
use Rattle.ncc_values.specs.declared.xtype.XType.{XType}
use Rattle.ncc_values.proofs.ValuesLemmas.{length-bytes_of}
use Rattle.ncc_schema.specs.declared.schema.Attr.{Attr}
use Rattle.ncc_build.specs.Fill.{same_type, named, fill_by}
use Rattle.ncc_build.proofs.Tables.{same_is}

next_item : {A : Type 0} (xs : List A) (i : ℕ) (x d : A) → i < length xs → x ≡ get_or xs i d → drop i xs ≡ x ∷ drop (i + 1) xs
next_item {A = A} xs i x d h e = rw (add-one, drop-cons xs i d) (ap (λ (y : A). y ∷ drop (suc i) xs) (sym e))

pub named_next : (attrs : List Attr) (i : ℕ) (a d : Attr) (b : Bool) (name : List ℕ) → i < length attrs → a ≡ get_or attrs i d → b ≡ pointwise eqb a.name name
    → named name (drop i attrs) ≡ cond b (Some a) (named name (drop (i + 1) attrs))
named_next attrs i a d b name less is e =
    ap (named name) (next_item attrs i a d less is)
    ∙ ap (λ (x : Bool). cond x (Some a) (named name (drop (i + 1) attrs))) (sym (e ∙ same_is a.name name))

pub chosen : {A : Type 0} (x y : A) (b : Bool) → b ≡ true → cond b x y ≡ x
chosen x y b is = ap (λ (c : Bool). cond c x y) is

pub others : {A : Type 0} (x y : A) (b : Bool) → b ≡ false → cond b x y ≡ y
others x y b is = ap (λ (c : Bool). cond c x y) is

-- ---- the value

is_one : (t : XType) (values : Values) → type_of values ≡ t → count_of values ≡ 1 → (same_type (type_of values) t && (count_of values == 1)) ≡ true
is_one t values of one = ap (λ (u : XType). same_type u t && (count_of values == 1)) of ∙ ap (λ (n : ℕ). same_type t t && (n == 1)) one ∙ ap (λ (b : Bool). b && true) (eq-eqb (code_of t) (code_of t) refl)

pub fill_is : (t : XType) (a : Attr) (out new : List ℕ) → length out ≡ size_of t → type_of a.values ≡ t → count_of a.values ≡ 1
    → new ≡ take (length out) (drop (0 * size_of (type_of a.values)) (bytes_of a.values)) → new ≡ fill_by t (Some a)
fill_is t a out new long of one e =
    let whole : length (bytes_of a.values) ≡ size_of t = length-bytes_of a.values ∙ ap (λ (n : ℕ). n * size_of (type_of a.values)) one ∙ ap (λ (u : XType). 1 * size_of u) of ∙ (let single : 1 * size_of t ≡ size_of t = omega arith in single) in
    let none : 0 * size_of (type_of a.values) ≡ 0 = omega arith in
    e ∙ ap (λ (n : ℕ). take (length out) (drop n (bytes_of a.values))) none
    ∙ take_all (length out) (bytes_of a.values) (omega (arith, whole, long))
    ∙ sym (chosen (bytes_of a.values) (fill_of t) (same_type (type_of a.values) t && (count_of a.values == 1)) (is_one t a.values of one))
