-- A header has one begin field for each variable.
use Rattle.std.proofs.Common.{◌≡◌, ℕ, zero, suc, ◌+◌, Bool, true, false, List, [], ◌∷◌, ◌++◌, length, map, refl, sym, ap, subst, ◌∙◌, length-append, arith}
use Rattle.std.specs.Prelude.{◌==◌, if◌then◌else◌}
use Rattle.std.proofs.lemmas.List.{length-map}
use Rattle.ncc_values.specs.Numbers.{number_of}
use Rattle.ncc_values.specs.declared.version.Version.{Version}
use Rattle.ncc_schema.specs.declared.schema.Dim.{Dim}
use Rattle.ncc_schema.specs.declared.schema.Attr.{Attr}
use Rattle.ncc_schema.specs.declared.schema.Var.{Var}
use Rattle.ncc_schema.specs.declared.schema.Schema.{Schema}
use Rattle.ncc_schema.specs.declared.schema.Count.{Count}
use Rattle.ncc_header.specs.Grammar.{Label, Plain, Padding, CountOfTagged, Begin, Grammar, done, field, Spells, fields, ◌>>=◌, repeat}
use Rattle.ncc_schema.specs.Schema.{Place}
use Rattle.ncc_header.specs.Fields.{name, list_head, list, dim, attr, attrs, dimid, dimids, nc_type, vsize, begin, var, header}
use Rattle.ncc_header.specs.Marks.{begin_of, begins, header_begins}
use Rattle.ncc_header.proofs.FieldsLaws.{fields_first}

-- one more behind a begin field
abbrev more : Label → ℕ → ℕ
more Begin n = suc n
more _ n = n

more-begin_of : (label : Label) (n at : ℕ) → n + length (begin_of label at) ≡ more label n
more-begin_of Begin n at = omega arith
more-begin_of Plain n at = omega arith
more-begin_of Padding n at = omega arith
more-begin_of CountOfTagged n at = omega arith

-- behind n begin fields, these fields bring them to what their value tells
abbrev pub HasBegins : {A : Type 0} → Grammar A → (n : ℕ) → (A → ℕ) → Type 0
HasBegins (done a) n told = n ≡ told a
HasBegins (field label size wrong next) n told = (b : List ℕ) → HasBegins (next b) (more label n) told

count_begins : {A : Type 0} (g : Grammar A) (n at : ℕ) (told : A → ℕ) (a : A) (b : List ℕ) → HasBegins g n told → Spells g a b → n + length (begins (fields g at b)) ≡ told a
unfolding fields
count_begins (done x) n at told a b h sp = omega (arith, h, ap told sp.0)
count_begins (field label size wrong next) n at told a b h sp =
    let onward = fields (next sp.0) (at + size) sp.1 in
    let split : length (begins (fields (field label size wrong next) at b)) ≡ length (begin_of label at) + length (begins onward) =
    ap (λ fs. length (begins fs)) (ap (fields (field label size wrong next) at) sp.2 ∙ fields_first label size wrong next at sp.0 sp.1 sp.3) ∙ length-append (begin_of label at) (begins onward) in
    let rest = count_begins (next sp.0) (more label n) (at + size) told a sp.1 (h sp.0) sp.6 in
    omega (arith, split, rest, more-begin_of label n at)

join_begins : {A B : Type 0} (g : Grammar A) (f : A → Grammar B) (n : ℕ) (told : A → ℕ) (all : B → ℕ) → HasBegins g n told → ((a : A) → HasBegins (f a) (told a) all) → HasBegins (g >>= f) n all
join_begins (done x) f n told all h rest = subst (λ (m : ℕ). HasBegins (f x) m all) (sym h) (rest x)
join_begins (field label size wrong next) f n told all h rest = λ b. join_begins (next b) f (more label n) told all (h b) rest

-- ---- rules without begin fields

none_in_items : {A : Type 0} (item : List A → Grammar A) → ((before : List A) (n : ℕ) → HasBegins (item before) n (λ _. n)) → (before : List A) (k n : ℕ) → HasBegins (repeat item before k) n (λ _. n)
none_in_items item one before zero n = refl
none_in_items item one before (suc k) n =
    join_begins (item before) (λ a. repeat item (before ++ a ∷ []) k) n (λ _. n) (λ _. n) (one before n) (λ a. none_in_items item one (before ++ a ∷ []) k n)

none_in_head : (v : Version) (own n : ℕ) → HasBegins (list_head v own) n (λ _. n)
none_in_head v own n = λ tag count. by_label (number_of tag == 0)
  where
    by_label : (z : Bool) → more (if z then Plain else CountOfTagged) n ≡ n
    by_label true = refl
    by_label false = refl

none_in_list : {A : Type 0} (v : Version) (own : ℕ) (item : List A → Grammar A) → ((before : List A) (n : ℕ) → HasBegins (item before) n (λ _. n)) → (n : ℕ) → HasBegins (list v own item) n (λ _. n)
none_in_list v own item one n = join_begins (list_head v own) (λ k. repeat item [] k) n (λ _. n) (λ _. n) (none_in_head v own n) (λ k. none_in_items item one [] k n)

none_in_dim : (v : Version) (before : List Dim) (n : ℕ) → HasBegins (dim v before) n (λ _. n)
none_in_dim v before n = λ count text zeros size. refl

none_in_attr : (v : Version) (n : ℕ) → HasBegins (attr v) n (λ _. n)
none_in_attr v n = λ count text zeros code number vs more_zeros. refl

none_in_attrs : (v : Version) (n : ℕ) → HasBegins (attrs v) n (λ _. n)
none_in_attrs v n = none_in_list v 12 (λ _. attr v) (λ _. none_in_attr v) n

none_in_dimids : (v : Version) (dims : List Dim) (n : ℕ) → HasBegins (dimids v dims) n (λ _. n)
none_in_dimids v dims n = λ count. none_in_items (dimid v dims) (λ before m id. refl) [] (number_of count) n

-- ---- variables

abbrev from_type : Version → List ℕ → List ℕ → List Attr → Grammar (Var × Place)
from_type v text ids notes = do
  t ← nc_type v
  size ← vsize v
  at ← begin v
  done (record { name = text; dims = ids; attrs = notes; xtype = t }, record { vsize = size; begin = at })

one_in_var : (v : Version) (dims : List Dim) (n : ℕ) → HasBegins (var v dims) n (λ _. suc n)
one_in_var v dims n = join_begins (name v) (λ text. dimids v dims >>= λ ids. attrs v >>= λ notes. from_type v text ids notes) n (λ _. n) (λ _. suc n) (λ count text zeros. refl)
    (λ text. join_begins (dimids v dims) (λ ids. attrs v >>= λ notes. from_type v text ids notes) n (λ _. n) (λ _. suc n) (none_in_dimids v dims n)
    (λ ids. join_begins (attrs v) (λ notes. from_type v text ids notes) n (λ _. n) (λ _. suc n) (none_in_attrs v n) (λ notes code size at. refl)))

one_in_each : (v : Version) (dims : List Dim) (before : List (Var × Place)) (k : ℕ) → HasBegins (repeat (λ _. var v dims) before k) (length before) (λ vars. length vars)
one_in_each v dims before zero = refl
one_in_each v dims before (suc k) =
    join_begins (var v dims) (λ x. repeat (λ _. var v dims) (before ++ x ∷ []) k) (length before) (λ _. suc (length before)) (λ vars. length vars) (one_in_var v dims (length before))
    (λ x. subst (λ (n : ℕ). HasBegins (repeat (λ _. var v dims) (before ++ x ∷ []) k) n (λ vars. length vars)) (omega (arith, length-append before (x ∷ []))) (one_in_each v dims (before ++ x ∷ []) k))

-- ---- the header

abbrev ended : Version → Count → List Dim → List Attr → List (Var × Place) → Grammar (Schema × List Place)
ended v c dims gatts vars = done (record { version = v; count = c; dims = dims; gatts = gatts; vars = map (λ x. x.0) vars }, map (λ x. x.1) vars)

abbrev from_gatts : Version → Count → List Dim → Grammar (Schema × List Place)
from_gatts v c dims = attrs v >>= λ gatts. list v 11 (λ _. var v dims) >>= λ vars. ended v c dims gatts vars

one_for_each_place : (v : Version) (c : Count) → HasBegins (list v 10 (dim v) >>= λ dims. from_gatts v c dims) 0 (λ x. length x.1)
one_for_each_place v c = join_begins (list v 10 (dim v)) (λ dims. from_gatts v c dims) 0 (λ _. 0) (λ x. length x.1) (none_in_list v 10 (dim v) (none_in_dim v) 0)
    (λ dims. join_begins (attrs v) (λ gatts. list v 11 (λ _. var v dims) >>= λ vars. ended v c dims gatts vars) 0 (λ _. 0) (λ x. length x.1) (none_in_attrs v 0)
    (λ gatts. join_begins (list v 11 (λ _. var v dims)) (λ vars. ended v c dims gatts vars) 0 (λ vars. length vars) (λ x. length x.1)
    (join_begins (list_head v 11) (λ k. repeat (λ _. var v dims) [] k) 0 (λ _. 0) (λ vars. length vars) (none_in_head v 11 0) (λ k. one_in_each v dims [] k))
    (λ vars. sym (length-map vars (λ x. x.1)))))

pub length-header_begins : (s : Schema) (places : List Place) (b : List ℕ) → Spells header (s, places) b → length (header_begins b) ≡ length places
length-header_begins s places b sp = omega (arith, count_begins header 0 0 (λ x. length x.1) (s, places) b (λ letters byte word. one_for_each_place _ _) sp)
