-- How many bytes whatever a grammar gives takes: one predicate over grammars, and each rule of the header.
use Rattle.std.proofs.Common.{◌≡◌, ℕ, zero, suc, ◌+◌, ◌-◌, ◌*◌, ◌≤◌, List, [], ◌∷◌, ◌++◌, length, take, drop, Option, Some, None, refl, sym, ap, subst, ◌∙◌, append_assoc, append-nil, length-append, arith, inl, inr}
use Rattle.std.specs.Prelude.{unwrap_or}
use Rattle.std.specs.List.{flat_map}
use Rattle.std.proofs.lemmas.Bool.{cases_lt, le-ltb, lt-ltb}
use Rattle.std.proofs.lemmas.List.{length-replicate, length-take-le}
use Rattle.ncc_values.specs.BigEndian.{length-big_endian}
use Rattle.ncc_values.specs.Numbers.{big_endian, number_of}
use Rattle.ncc_values.specs.Padding.{padding_of}
use Rattle.ncc_values.specs.Values.{type_of, count_of, values_of}
use Rattle.ncc_values.specs.Version.{count_width_of, offset_width_of}
use Rattle.ncc_values.specs.XType.{size_of, type_of_code}
use Rattle.ncc_values.specs.declared.version.Version.{Version}
use Rattle.ncc_values.specs.declared.xtype.XType.{XType}
use Rattle.ncc_values.specs.declared.xtype.XType.TheVariants.{Byte}
use Rattle.ncc_schema.specs.declared.schema.Attr.{Attr}
use Rattle.ncc_schema.specs.declared.schema.Dim.{Dim}
use Rattle.ncc_schema.specs.declared.schema.Var.{Var}
use Rattle.ncc_schema.specs.Header.{nc_attribute, zeros, canon_name, canon_dim, canon_attr, canon_dimids, canon_var}
use Rattle.ncc_schema.specs.Names.{list_size}
use Rattle.ncc_schema.specs.Schema.{Place}
use Rattle.ncc_values.proofs.ValuesLemmas.{type_of-values_of, count_of-values_of}
use Rattle.ncc_schema.proofs.Sizes.{length-canon_attr, length-canon_dim, length-canon_var}
use Rattle.ncc_header.specs.declared.fault.FaultKind.{FaultKind}
use Rattle.ncc_header.specs.declared.fault.FaultKind.TheVariants.{HeaderTooLong, EndsEarly}
use Rattle.ncc_header.specs.declared.fault.Wrong.{Wrong}
use Rattle.ncc_header.specs.Grammar.{Grammar, done, field, reads, stops, read, unless_wrong, ◌>>=◌, repeat}
use Rattle.ncc_header.specs.declared.partial.Parts.{Parts}
use Rattle.ncc_header.specs.Left.{from_vsize, from_type, from_dims_of_var, from_dimids, from_rank}
use Rattle.ncc_header.specs.Fields.{name, dim, dim_length, nc_type, nelems, values, padding, attr, attrs, list_head, list, dimid, dimids, var}

-- Whatever is read after n bytes, and how many bytes there are then, is so.
abbrev pub Runs : {A : Type 0} → Grammar A → (n : ℕ) → (A → ℕ → Type 0) → Type 0
Runs (done a) n P = P a n
Runs (field label size wrong next) n P = (b : List ℕ) → length b ≡ size → Runs (next b) (n + size) P

pub weaken : {A : Type 0} (g : Grammar A) (n : ℕ) (P Q : A → ℕ → Type 0) → ((a : A) (m : ℕ) → P a m → Q a m) → Runs g n P → Runs g n Q
weaken (done a) n P Q to h = to a n h
weaken (field label size wrong next) n P Q to h = λ b e. weaken (next b) (n + size) P Q to (h b e)

pub join : {A B : Type 0} (g : Grammar A) (f : A → Grammar B) (n : ℕ) (Q : A → ℕ → Type 0) (P : B → ℕ → Type 0) → Runs g n Q → ((a : A) (m : ℕ) → Q a m → Runs (f a) m P) → Runs (g >>= f) n P
join (done x) f n Q P h rest = rest x n h
join (field label size wrong next) f n Q P h rest = λ b e. join (next b) f (n + size) Q P (h b e) rest

-- ---- what is read

-- a stop is no value
apart : {A B : Type 0} (offset : ℕ) (kind : FaultKind) (a : A) (end : ℕ) (rest : List ℕ) → stops offset kind ≡ reads a end rest → B
apart offset kind a end rest e = absurd cc

-- so it is of what is read of an input, by its end
pub of_read : {A : Type 0} (g : Grammar A) (limit at n : ℕ) (input : List ℕ) (a : A) (end : ℕ) (rest : List ℕ) (P : A → ℕ → Type 0)
    → Runs g n P → read g limit at input ≡ reads a end rest → (at ≤ end) × P a (n + (end - at))
unfolding read
of_read (done x) limit at n input a end rest P h e =
    let value : x ≡ a = cc in
    let ended : at ≡ end = cc in
    (omega (arith, ended), subst (λ (m : ℕ). P a m) (omega (arith, ended)) (subst (λ y. P y n) value h))
of_read {A = A} (field label size wrong next) limit at n input a end rest P h e =
    elim (cases_lt limit (at + size)) [
      | inl past ↦ apart at HeaderTooLong a end rest (rw (lt-ltb limit (at + size) past) at e)
      | inr within ↦ elim (cases_lt (length input) size) [
        | inl short ↦ apart at EndsEarly a end rest (rw (le-ltb limit (at + size) within, lt-ltb (length input) size short) at e)
        | inr long ↦
            let len = length-take-le size input long in
            by_wrong (wrong (take size input)) (rw (le-ltb limit (at + size) within, le-ltb (length input) size long) at e)
            (of_read (next (take size input)) limit (at + size) (n + size) (drop size input) a end rest P (h (take size input) len))
      ]
    ]
  where
    by_wrong : (w : Option Wrong) → unless_wrong w at (read (next (take size input)) limit (at + size) (drop size input)) ≡ reads a end rest
        → (read (next (take size input)) limit (at + size) (drop size input) ≡ reads a end rest → (at + size ≤ end) × P a (n + size + (end - (at + size))))
        → (at ≤ end) × P a (n + (end - at))
    by_wrong None onward rec =
        let r = rec onward in
        (omega (arith, r.0), subst (λ (m : ℕ). P a m) (omega (arith, r.0)) r.1)
    by_wrong (Some w) onward rec = apart (at - w.back) w.kind a end rest onward

-- ---- names, dimensions and attributes

pub length-canon_name : (v : Version) (text : List ℕ) → length (canon_name v text) ≡ count_width_of v + (length text + padding_of (length text))
length-canon_name v text =
    let w = count_width_of v in
    let pad = zeros (padding_of (length text)) in
    omega (arith, length-append (big_endian w (length text)) (text ++ pad), length-append text pad, length-big_endian w (length text), length-replicate {A = ℕ} (padding_of (length text)) 0)

pub in_name : (v : Version) (n : ℕ) → Runs (name v) n (λ text m. m ≡ n + length (canon_name v text))
in_name v n = λ count e text f zeros g. omega (arith, length-canon_name v text, ap padding_of f, f)

pub in_dim : (v : Version) (before : List Dim) (n : ℕ) → Runs (dim v before) n (λ d m. m ≡ n + length (canon_dim v d))
in_dim v before n =
    join (name v) (λ text. dim_length v before >>= λ k. done (record { name = text; length = k })) n (λ text m. m ≡ n + length (canon_name v text)) (λ d m. m ≡ n + length (canon_dim v d)) (in_name v n)
    (λ text m q. λ b e. omega (arith, q, length-canon_dim v (record { name = text; length = number_of b })))

-- the values of an attribute, and their padding
abbrev pub attr_of : (text : List ℕ) → XType → List ℕ → Attr
attr_of text t b = record { name = text; values = values_of t b }

pub in_attr : (v : Version) (n : ℕ) → Runs (attr v) n (λ a m. m ≡ n + length (canon_attr v a))
in_attr v n =
    join (name v) (λ text. after_name text) n (λ text m. m ≡ n + length (canon_name v text)) (λ a m. m ≡ n + length (canon_attr v a)) (in_name v n)
    (λ text m q. λ code e number f vs g zeros h. sized text (unwrap_or (type_of_code v (number_of code)) Byte) (number_of number) vs m q g)
  where
    after_name : List ℕ → Grammar Attr
    after_name text = nc_type v >>= λ t. nelems v >>= λ k. values t k >>= λ vs. padding (k * size_of t) >>= λ zeros. done (record { name = text; values = vs })

    sized : (text : List ℕ) (t : XType) (k : ℕ) (vs : List ℕ) (m : ℕ) → m ≡ n + length (canon_name v text) → length vs ≡ k * size_of t
        → m + 4 + count_width_of v + k * size_of t + padding_of (k * size_of t) ≡ n + length (canon_attr v (attr_of text t vs))
    sized text t k vs m q g =
        let number : count_of (values_of t vs) ≡ k = count_of-values_of t k vs g in
        let size : count_of (values_of t vs) * size_of (type_of (values_of t vs)) ≡ k * size_of t = ap (λ (x : XType). count_of (values_of t vs) * size_of x) (type_of-values_of t vs) ∙ ap (λ (j : ℕ). j * size_of t) number in
        omega (arith, q, length-canon_attr v (attr_of text t vs), size, ap padding_of size)

-- ---- lists

-- k more items are these
abbrev pub MoreItems : {A : Type 0} → (A → List ℕ) → (n : ℕ) → (before : List A) → List A → ℕ → Type 0
MoreItems {A = A} canon n before all m = (items : List A) × (all ≡ before ++ items) × (m ≡ n + length (flat_map canon items))

pub in_items : {A : Type 0} (item : List A → Grammar A) (canon : A → List ℕ) → ((before : List A) (n : ℕ) → Runs (item before) n (λ a m. m ≡ n + length (canon a)))
    → (before : List A) (k n : ℕ) → Runs (repeat item before k) n (MoreItems canon n before)
in_items item canon one before zero n = ([], sym (append-nil before), omega arith)
in_items item canon one before (suc k) n =
    join (item before) (λ a. repeat item (before ++ a ∷ []) k) n (λ a m. m ≡ n + length (canon a)) (MoreItems canon n before) (one before n)
    (λ a m q. weaken (repeat item (before ++ a ∷ []) k) m (MoreItems canon m (before ++ a ∷ [])) (MoreItems canon n before)
    (λ all end more. (a ∷ more.0, more.1 ∙ append_assoc before (a ∷ []) more.0, omega (arith, q, more.2, length-append (canon a) (flat_map canon more.0))))
    (in_items item canon one (before ++ a ∷ []) k m))

pub in_head : (v : Version) (own n : ℕ) → Runs (list_head v own) n (λ k m. m ≡ n + list_size v)
in_head v own n = λ tag e count f. omega arith

-- the items behind a head
abbrev pub AllItems : {A : Type 0} → (A → List ℕ) → (n : ℕ) → List A → ℕ → Type 0
AllItems canon n all m = m ≡ n + length (flat_map canon all)

pub in_all : {A : Type 0} (item : List A → Grammar A) (canon : A → List ℕ) → ((before : List A) (n : ℕ) → Runs (item before) n (λ a m. m ≡ n + length (canon a)))
    → (k n : ℕ) → Runs (repeat item [] k) n (AllItems canon n)
in_all item canon one k n =
    weaken (repeat item [] k) n (MoreItems canon n []) (AllItems canon n) (λ all m more. omega (arith, more.2, ap (λ xs. length (flat_map canon xs)) more.1)) (in_items item canon one [] k n)

pub in_list : {A : Type 0} (v : Version) (own : ℕ) (item : List A → Grammar A) (canon : A → List ℕ) → ((before : List A) (n : ℕ) → Runs (item before) n (λ a m. m ≡ n + length (canon a)))
    → (n : ℕ) → Runs (list v own item) n (AllItems canon (n + list_size v))
in_list v own item canon one n =
    join (list_head v own) (λ k. repeat item [] k) n (λ k m. m ≡ n + list_size v) (AllItems canon (n + list_size v)) (in_head v own n)
    (λ k m q. weaken (repeat item [] k) m (AllItems canon m) (AllItems canon (n + list_size v)) (λ all end more. omega (arith, q, more)) (in_all item canon one k m))

pub in_attrs : (v : Version) (n : ℕ) → Runs (attrs v) n (AllItems (canon_attr v) (n + list_size v))
in_attrs v n = in_list v nc_attribute (λ before. attr v) (canon_attr v) (λ before. in_attr v) n

-- ---- variables

-- nc_type, vsize and begin
abbrev pub fields_size : Version → ℕ
fields_size v = 4 + count_width_of v + offset_width_of v

-- the list of its attributes, and these
abbrev pub behind_dims : Version → Var → ℕ
behind_dims v x = list_size v + length (flat_map (canon_attr v) x.attrs) + fields_size v

pub in_vsize : (v : Version) (x : Var) (n : ℕ) → Runs (from_vsize v x) n (λ y m. (y.0 ≡ x) × (m ≡ n + count_width_of v + offset_width_of v))
in_vsize v x n = λ b e c f. (refl, refl)

abbrev pub IsVar : Version → (name : List ℕ) → (dims : List ℕ) → List Attr → (n : ℕ) → Var × Place → ℕ → Type 0
IsVar v text ids notes n y m = (y.0.name ≡ text) × (y.0.dims ≡ ids) × (y.0.attrs ≡ notes) × (m ≡ n + fields_size v)

pub in_type : (v : Version) (text ids : List ℕ) (notes : List Attr) (n : ℕ) → Runs (from_type v text ids notes) n (IsVar v text ids notes n)
in_type v text ids notes n = λ b e c f d g. (refl, refl, refl, omega arith)

-- a variable of this name and with these dimensions
abbrev pub HasDims : Version → (name : List ℕ) → (dims : List ℕ) → (n : ℕ) → Var × Place → ℕ → Type 0
HasDims v text ids n y m = (y.0.name ≡ text) × (y.0.dims ≡ ids) × (m ≡ n + behind_dims v y.0)

pub in_attrs_of : (v : Version) (text ids : List ℕ) (n : ℕ) → Runs (from_dims_of_var v text ids) n (HasDims v text ids n)
in_attrs_of v text ids n =
    join (attrs v) (λ notes. from_type v text ids notes) n (AllItems (canon_attr v) (n + list_size v)) (HasDims v text ids n) (in_attrs v n)
    (λ notes m q. weaken (from_type v text ids notes) m (IsVar v text ids notes m) (HasDims v text ids n)
    (λ y k is. (is.0, is.1, omega (arith, q, is.3, ap (λ xs. length (flat_map (canon_attr v) xs)) is.2)))
    (in_type v text ids notes m))

in_id : (v : Version) (dims : List Dim) (before : List ℕ) (n : ℕ) → Runs (dimid v dims before) n (λ id m. m ≡ n + length (big_endian (count_width_of v) id))
in_id v dims before n = λ b e. omega (arith, length-big_endian (count_width_of v) (number_of b))

-- a variable of this name, of which the numbers of dimensions begin with these
abbrev pub HasFirstDims : Version → (name : List ℕ) → (before : List ℕ) → (n : ℕ) → Var × Place → ℕ → Type 0
HasFirstDims v text before n y m =
    (y.0.name ≡ text) × ((ids : List ℕ) × (y.0.dims ≡ before ++ ids) × (m ≡ n + length (flat_map (big_endian (count_width_of v)) ids) + behind_dims v y.0))

pub in_dimids : (p : Parts) (text before : List ℕ) (k n : ℕ) → Runs (from_dimids p text before k) n (HasFirstDims p.version text before n)
in_dimids p text before k n =
    let v = p.version in
    let dims = p.dims.items in
    join (repeat (dimid v dims) before k) (λ ids. from_dims_of_var v text ids) n (MoreItems (big_endian (count_width_of v)) n before) (HasFirstDims v text before n)
    (in_items (dimid v dims) (big_endian (count_width_of v)) (in_id v dims) before k n)
    (λ ids m q. weaken (from_dims_of_var v text ids) m (HasDims v text ids m) (HasFirstDims v text before n)
    (λ y end is. (is.0, (q.0, is.1 ∙ q.1, omega (arith, q.2, is.2))))
    (in_attrs_of v text ids m))

-- a variable of this name, where its rank comes next
abbrev pub HasName : Version → (name : List ℕ) → (n : ℕ) → Var × Place → ℕ → Type 0
HasName v text n y m = (y.0.name ≡ text) × (m ≡ n + length (canon_dimids v y.0.dims) + behind_dims v y.0)

pub in_rank : (p : Parts) (text : List ℕ) (n : ℕ) → Runs (from_rank p text) n (HasName p.version text n)
in_rank p text n =
    let v = p.version in
    let w = count_width_of v in
    let dims = p.dims.items in
    λ b e. weaken (from_dimids p text [] (number_of b)) (n + w) (HasFirstDims v text [] (n + w)) (HasName v text n)
    (λ y m is. (is.0, omega (arith, is.1.2, ap (λ ids. length (flat_map (big_endian w) ids)) is.1.1, length-append (big_endian w (length y.0.dims)) (flat_map (big_endian w) y.0.dims), length-big_endian w (length y.0.dims))))
    (in_dimids p text [] (number_of b) (n + w))

pub in_var : (v : Version) (dims : List Dim) (n : ℕ) → Runs (var v dims) n (λ y m. m ≡ n + length (canon_var v y))
in_var v dims n =
    join (name v) (λ text. dimids v dims >>= λ ids. from_dims_of_var v text ids) n (λ text m. m ≡ n + length (canon_name v text)) (λ y m. m ≡ n + length (canon_var v y)) (in_name v n)
    (λ text m q. ranked text m q)
  where
    sized : (text ids : List ℕ) (m k end : ℕ) (y : Var × Place) → m ≡ n + length (canon_name v text) → k ≡ m + count_width_of v + length (flat_map (big_endian (count_width_of v)) ids) → HasDims v text ids k y end → end ≡ n + length (canon_var v y)
    sized text ids m k end y q r is =
        let w = count_width_of v in
        omega (
          arith,
          q,
          r,
          is.2,
          length-canon_var v y.0 y.1,
          ap (λ t. length (canon_name v t)) is.0,
          ap (λ xs. length (canon_dimids v xs)) is.1,
          length-append (big_endian w (length ids)) (flat_map (big_endian w) ids),
          length-big_endian w (length ids),
        )

    ranked : (text : List ℕ) (m : ℕ) → m ≡ n + length (canon_name v text) → Runs (dimids v dims >>= λ ids. from_dims_of_var v text ids) m (λ y k. k ≡ n + length (canon_var v y))
    ranked text m q =
        let w = count_width_of v in
        λ b e. join (repeat (dimid v dims) [] (number_of b)) (λ ids. from_dims_of_var v text ids) (m + w) (AllItems (big_endian w) (m + w)) (λ y k. k ≡ n + length (canon_var v y))
        (in_all (dimid v dims) (big_endian w) (in_id v dims) (number_of b) (m + w))
        (λ ids k r. weaken (from_dims_of_var v text ids) k (HasDims v text ids k) (λ y end. end ≡ n + length (canon_var v y))
        (λ y end is. sized text ids m k end y q r is)
        (in_attrs_of v text ids k))
