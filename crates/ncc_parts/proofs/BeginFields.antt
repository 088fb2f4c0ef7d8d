-- The begin fields of a header stand one after the other, so that an offset is that of one variable at most.
use Rattle.std.proofs.Common.{◌≡◌, ℕ, zero, suc, ◌+◌, ◌<◌, ◌≤◌, Bool, true, false, List, [], ◌∷◌, ◌++◌, length, map, take, drop, Some, None, sym, ap, subst, ◌∙◌, arith}
use Rattle.std.specs.Prelude.{◌==◌, not, get_or, position, if◌then◌else◌, cond}
use Rattle.std.specs.List.{position_or_len}
use Rattle.std.proofs.lemmas.List.{length-map}
use Rattle.std.proofs.lemmas.Bool.{eq-eqb, ne_eqb, lt-ltb}
use Rattle.ncc_values.specs.Numbers.{number_of}
use Rattle.ncc_values.specs.Version.{count_width_of, offset_width_of}
use Rattle.ncc_values.specs.declared.version.Version.{Version}
use Rattle.ncc_values.specs.declared.version.Version.TheVariants.{V1, V2, V5}
use Rattle.ncc_schema.specs.declared.schema.Attr.{Attr}
use Rattle.ncc_schema.specs.declared.schema.Count.{Count}
use Rattle.ncc_schema.specs.declared.schema.Dim.{Dim}
use Rattle.ncc_schema.specs.declared.schema.Schema.{Schema}
use Rattle.ncc_schema.specs.declared.schema.Var.{Var}
use Rattle.ncc_schema.specs.declared.schema.VarPlace.{VarPlace}
use Rattle.ncc_schema.specs.Schema.{Place}
use Rattle.ncc_header.specs.Fields.{attr, attrs, begin, dim, dimid, dimids, header, list, list_head, name, nc_type, var, vsize}
use Rattle.ncc_header.specs.Grammar.{Label, Plain, Padding, CountOfTagged, Begin, Grammar, done, field, fields, ◌>>=◌, repeat}
use Rattle.ncc_header.specs.Marks.{begin_of, begins, header_begins}

-- ---- each begin field has bytes

abbrev HasBytes : Label → (size : ℕ) → Type 0
HasBytes Begin size = 0 < size
HasBytes _ size = Unit {0}

abbrev HaveBytes : {A : Type 0} → Grammar A → Type 0
HaveBytes (done a) = Unit {0}
HaveBytes (field label size wrong next) = HasBytes label size × ((b : List ℕ) → HaveBytes (next b))

joined : {A B : Type 0} (g : Grammar A) (f : A → Grammar B) → HaveBytes g → ((a : A) → HaveBytes (f a)) → HaveBytes (g >>= f)
joined (done x) f h rest = rest x
joined (field label size wrong next) f h rest = (h.0, λ b. joined (next b) f (h.1 b) rest)

in_items : {A : Type 0} (item : List A → Grammar A) → ((before : List A) → HaveBytes (item before)) → (before : List A) (k : ℕ) → HaveBytes (repeat item before k)
in_items item one before zero = tt
in_items item one before (suc k) = joined (item before) (λ a. repeat item (before ++ a ∷ []) k) (one before) (λ a. in_items item one (before ++ a ∷ []) k)

in_head : (v : Version) (own : ℕ) → HaveBytes (list_head v own)
in_head v own = (tt, λ tag. (by_label (number_of tag == 0), λ count. tt))
  where
    by_label : (z : Bool) → HasBytes (if z then Plain else CountOfTagged) (count_width_of v)
    by_label true = tt
    by_label false = tt

in_list : {A : Type 0} (v : Version) (own : ℕ) (item : List A → Grammar A) → ((before : List A) → HaveBytes (item before)) → HaveBytes (list v own item)
in_list v own item one = joined (list_head v own) (λ k. repeat item [] k) (in_head v own) (λ k. in_items item one [] k)

in_name : (v : Version) → HaveBytes (name v)
in_name v = (tt, λ count. (tt, λ text. (tt, λ zeros. tt)))

in_dim : (v : Version) (before : List Dim) → HaveBytes (dim v before)
in_dim v before = (tt, λ count. (tt, λ text. (tt, λ zeros. (tt, λ size. tt))))

in_attr : (v : Version) → HaveBytes (attr v)
in_attr v = (tt, λ count. (tt, λ text. (tt, λ zeros. (tt, λ code. (tt, λ number. (tt, λ vs. (tt, λ more. tt)))))))

in_attrs : (v : Version) → HaveBytes (attrs v)
in_attrs v = in_list v 12 (λ _. attr v) (λ _. in_attr v)

in_dimids : (v : Version) (dims : List Dim) → HaveBytes (dimids v dims)
in_dimids v dims = (tt, λ count. in_items (dimid v dims) (λ before. (tt, λ id. tt)) [] (number_of count))

wide : (v : Version) → 0 < offset_width_of v
wide V1 = omega arith
wide V2 = omega arith
wide V5 = omega arith

-- what follows the attributes of a variable
abbrev from_type : Version → List ℕ → List ℕ → List Attr → Grammar (Var × Place)
from_type v text ids notes = do
  t ← nc_type v
  size ← vsize v
  at ← begin v
  done (record { name = text; dims = ids; attrs = notes; xtype = t }, record { vsize = size; begin = at })

in_var : (v : Version) (dims : List Dim) → HaveBytes (var v dims)
in_var v dims = joined (name v) (λ text. dimids v dims >>= λ ids. attrs v >>= λ notes. from_type v text ids notes) (in_name v)
    (λ text. joined (dimids v dims) (λ ids. attrs v >>= λ notes. from_type v text ids notes) (in_dimids v dims)
    (λ ids. joined (attrs v) (λ notes. from_type v text ids notes) (in_attrs v) (λ notes. (tt, λ code. (tt, λ size. (wide v, λ at. tt))))))

-- what follows the number of records
abbrev ended : Version → Count → List Dim → List Attr → List (Var × Place) → Grammar (Schema × List Place)
ended v c dims gatts vars = done (record { version = v; count = c; dims = dims; gatts = gatts; vars = map (λ x. x.0) vars }, map (λ x. x.1) vars)

abbrev from_gatts : Version → Count → List Dim → Grammar (Schema × List Place)
from_gatts v c dims = attrs v >>= λ gatts. list v 11 (λ _. var v dims) >>= λ vars. ended v c dims gatts vars

in_lists : (v : Version) (c : Count) → HaveBytes (list v 10 (dim v) >>= λ dims. from_gatts v c dims)
in_lists v c = joined (list v 10 (dim v)) (λ dims. from_gatts v c dims) (in_list v 10 (dim v) (in_dim v))
    (λ dims. joined (attrs v) (λ gatts. list v 11 (λ _. var v dims) >>= λ vars. ended v c dims gatts vars) (in_attrs v)
    (λ gatts. joined (list v 11 (λ _. var v dims)) (λ vars. ended v c dims gatts vars) (in_list v 11 (λ _. var v dims) (λ _. in_var v dims)) (λ vars. tt)))

in_header : HaveBytes header
in_header = (tt, λ letters. (tt, λ byte. (tt, λ word. in_lists _ _)))

-- ---- so they ascend

-- each is behind the one before it, and the first is not before this offset
abbrev Ascend : (from : ℕ) → List ℕ → Type 0
Ascend from [] = Unit {0}
Ascend from (x ∷ xs) = (from ≤ x) × Ascend (suc x) xs

from_before : (low from : ℕ) (xs : List ℕ) → low ≤ from → Ascend from xs → Ascend low xs
from_before low from [] le a = tt
from_before low from (x ∷ xs) le a = (omega (arith, le, a.0), a.1)

next_begin : (label : Label) (at size : ℕ) (xs : List ℕ) → HasBytes label size → Ascend (at + size) xs → Ascend at (begin_of label at ++ xs)
next_begin Begin at size xs h a = (omega arith, from_before (suc at) (at + size) xs (omega (arith, h)) a)
next_begin Plain at size xs h a = from_before at (at + size) xs (omega arith) a
next_begin Padding at size xs h a = from_before at (at + size) xs (omega arith) a
next_begin CountOfTagged at size xs h a = from_before at (at + size) xs (omega arith) a

ascend : {A : Type 0} (g : Grammar A) (at : ℕ) (b : List ℕ) → HaveBytes g → Ascend at (begins (fields g at b))
unfolding fields
ascend (done a) at b h = tt
ascend (field label size wrong next) at b h =
    next_begin label at size (begins (fields (next (take size b)) (at + size) (drop size b))) h.0
    (ascend (next (take size b)) (at + size) (drop size b) (h.1 (take size b)))

-- ---- so an offset is that of one variable

at_least : (from : ℕ) (xs : List ℕ) (n : ℕ) → Ascend from xs → n < length xs → from ≤ get_or xs n 0
at_least from [] n a there = absurd (omega (arith, there))
at_least from (x ∷ xs) zero a there = a.0
at_least from (x ∷ xs) (suc n) a there = omega (arith, a.0, at_least (suc x) xs n a.1 (omega (arith, there)))

first_at : (from : ℕ) (places : List VarPlace) (n at : ℕ) → Ascend from (map (λ p. p.begin_at) places) → n < length places
    → at ≡ get_or (map (λ p. p.begin_at) places) n 0 → position_or_len (λ p. p.begin_at == at) places ≡ n
first_at from [] n at a there is = absurd (omega (arith, there))
first_at from (p ∷ places) zero at a there is =
    ap (λ t. cond (not t) (1 + position_or_len (λ q. q.begin_at == at) places) 0) (eq-eqb p.begin_at at (sym is))
first_at from (p ∷ places) (suc n) at a there is =
    let later = at_least (suc p.begin_at) (map (λ q. q.begin_at) places) n a.1 (omega (arith, there, length-map places (λ q. q.begin_at))) in
    ap (λ t. cond (not t) (1 + position_or_len (λ q. q.begin_at == at) places) 0) (ne_eqb p.begin_at at (λ e. omega (arith, later, is, e)))
    ∙ omega (arith, first_at (suc p.begin_at) places n at a.1 (omega (arith, there)) is)

pub found : (front : List ℕ) (places : List VarPlace) (n at : ℕ) → map (λ p. p.begin_at) places ≡ header_begins front → n < length places
    → at ≡ get_or (map (λ p. p.begin_at) places) n 0 → position (λ p. p.begin_at == at) places ≡ Some n
found front places n at are there is =
    let a : Ascend 0 (map (λ p. p.begin_at) places) = subst (Ascend 0) (sym are) (ascend header 0 front in_header) in
    let k = position_or_len (λ (p : VarPlace). p.begin_at == at) places in
    let first : k ≡ n = first_at 0 places n at a there is in
    ap (λ (t : Bool). cond t (Some k) None) (lt-ltb k (length places) (omega (arith, first, there))) ∙ ap Some first
