-- Attributes and variables: their rules are exact.
use Rattle.std.proofs.Common.{◌≡◌, ℕ, ◌*◌, ◌^◌, ◌<◌, Bool, true, false, List, [], ◌∷◌, ◌++◌, length, Option, Some, None, refl, sym, ap, subst, ◌∙◌, append-nil, arith}
use Rattle.std.specs.List.{AllByRecursion}
use Rattle.std.specs.Prelude.{◌==◌, if◌then◌else◌, is_some, unwrap_or}
use Rattle.std.proofs.lemmas.Bool.{eqb-true}
use mathlib.Core.Path.{fun_ext}
use Rattle.ncc_values.specs.Values.{type_of, count_of, bytes_of, values_of, AreInRange}
use Rattle.ncc_values.specs.Version.{count_width_of, offset_width_of}
use Rattle.ncc_values.specs.XType.{code_of, size_of, coded, types_of, type_of_code}
use Rattle.ncc_values.specs.declared.values.Values.{Values}
use Rattle.ncc_values.specs.declared.version.Version.{Version}
use Rattle.ncc_values.specs.declared.xtype.XType.{XType}
use Rattle.ncc_values.specs.declared.xtype.XType.TheVariants.{Byte, Char, Short, Int, Float, Double, UByte, UShort, UInt, Int64, UInt64}
use Rattle.ncc_values.proofs.ValuesLemmas.{type_of-values_of, count_of-values_of, length-bytes_of, bytes-bytes_of, bytes_of-values_of, values_of-bytes_of, in_range-values_of}
use Rattle.ncc_header.specs.declared.fault.FaultKind.TheVariants.{BadType, NegativeOffset}
use Rattle.ncc_schema.specs.declared.schema.Dim.{Dim}
use Rattle.ncc_schema.specs.declared.schema.Attr.{Attr}
use Rattle.ncc_schema.specs.declared.schema.Var.{Var}
use Rattle.ncc_header.specs.Grammar.{Plain, Begin, done, ◌>>=◌, ◌into◌}
use Rattle.ncc_schema.specs.Schema.{count_limit, offset_limit, Place, IsTypeOf, LegalAttr, LegalVar, LegalPlace, IsTypedAttr, IsTypedVar}
use Rattle.ncc_schema.specs.Header.{exactly}
use Rattle.ncc_schema.specs.Header as spelled
use Rattle.ncc_header.specs.Fields.{nc_type_wrong, begin_wrong, name, nc_type, values, attr, attrs, dimids, vsize, begin, var}
use Rattle.ncc_header.proofs.Exact.{Exact, exact_then, exact_into, exact_fits, ◌then◌, flat, exact_as, exact_number, exact_padding}
use Rattle.ncc_header.proofs.Judgements.{unless-none, below-none, none-below, offset_limit-fits}
use Rattle.ncc_header.proofs.ExactLists.{exact_nelems, exact_name, exact_list, all_after, after_all, all_both, both_all}
use Rattle.ncc_header.proofs.ExactDims.{exact_dimids}

-- ---- types

-- a code that is one of these types' is that of the type that it gives, and gives it again
coded-code : (types : List XType) (n : ℕ) → is_some (coded types n) ≡ true → code_of (unwrap_or (coded types n) Byte) ≡ n
coded-code [] n h = absurd cc
coded-code (t ∷ types) n h = go (code_of t == n) refl (coded-code types n) h
  where
    go : (b : Bool) → (code_of t == n) ≡ b → (is_some (coded types n) ≡ true → code_of (unwrap_or (coded types n) Byte) ≡ n) → is_some (if b then Some t else coded types n) ≡ true → code_of (unwrap_or (if b then Some t else coded types n) Byte) ≡ n
    go true e rest h = eqb-true (code_of t) n e
    go false e rest h = rest h

some-unwrap_or : (o : Option XType) → is_some o ≡ true → o ≡ Some (unwrap_or o Byte)
some-unwrap_or (Some t) h = refl
some-unwrap_or None h = absurd cc

code_small : (t : XType) → code_of t < 256 ^ 4
code_small Byte = omega arith
code_small Char = omega arith
code_small Short = omega arith
code_small Int = omega arith
code_small Float = omega arith
code_small Double = omega arith
code_small UByte = omega arith
code_small UShort = omega arith
code_small UInt = omega arith
code_small Int64 = omega arith
code_small UInt64 = omega arith

pub exact_type : (v : Version) → Exact (nc_type v) (IsTypeOf v) spelled.nc_type
exact_type v = exact_fits (exact_into (λ n. unwrap_or (type_of_code v n) Byte) code_of (exact_number Plain 4 (nc_type_wrong v))
    (λ n f. coded-code (types_of v) n (unless-none _ BadType f.1)))
    (λ t f. some-unwrap_or (type_of_code v (code_of t)) (unless-none _ BadType f.0.1) ∙ ap (λ (x : XType). Some x) f.1)
    (λ t f. ((code_small t, rw f refl), rw f refl))

-- ---- attributes

abbrev pub FitValues : XType → ℕ → Values → Type 0
FitValues t k x = (type_of x ≡ t) × (count_of x ≡ k) × AreInRange x

pub exact_values : (t : XType) (k : ℕ) → Exact (values t k) (FitValues t k) (λ x. exactly (bytes_of x))
exact_values t k = record {
  takes = λ x b sp.
      let whole : b ≡ sp.0 = sp.2 ∙ ap (λ (z : List ℕ). sp.0 ++ z) sp.6.1 ∙ append-nil sp.0 in
      subst (λ (y : Values). FitValues t k y × exactly (bytes_of y) b) sp.6.0
      ((type_of-values_of t sp.0, count_of-values_of t k sp.0 sp.3, in_range-values_of t k sp.0 sp.4 sp.3), whole ∙ sym (bytes_of-values_of t k sp.0 sp.4 sp.3));
  gives = λ x b f s.
      let long : length (bytes_of x) ≡ k * size_of t = length-bytes_of x ∙ ap (λ (m : ℕ). m * size_of (type_of x)) f.1 ∙ ap (λ (y : XType). k * size_of y) f.0 in
      let same : values_of t (bytes_of x) ≡ x = subst (λ (y : XType). values_of y (bytes_of x) ≡ x) f.0 (values_of-bytes_of x f.2) in
      (b, [], sym (append-nil b), ap length s ∙ long, rw s (bytes-bytes_of x), refl, (ap (values_of t) s ∙ same, refl));
}

pub exact_attr : (v : Version) → Exact (attr v) (λ a. LegalAttr v a × IsTypedAttr a) (spelled.attr v)
exact_attr v = exact_fits (exact_into (λ x. record { name = x.0; values = x.1.1.1.0 }) (λ a. (a.name, (type_of a.values, (count_of a.values, (a.values, tt)))))
    (exact_then (exact_name v) (λ _ _. exact_then (exact_type v) (λ t _. exact_then (exact_nelems v) (λ k _. exact_then (exact_values t k) (λ _ _. exact_padding (k * size_of t))))))
    (λ a f i. (a.0, (f.1.1.1.0.0 i, (f.1.1.1.0.1 i, (a.1.1.1.0, tt))))))
    (λ a f. (record { name = f.0.0.0; xtype = f.0.1.0; number = f.0.1.1.0 }, record { name = f.0.0.1; values = f.0.1.1.1.0.2 }))
    (λ a f. (((f.0.name, f.1.name), (f.0.xtype, (f.0.number, ((refl, refl, f.1.values), tt)))), refl))

pub exact_attrs : (v : Version) → Exact (attrs v) (λ items. (length items < count_limit v) × AllByRecursion (LegalAttr v) items × AllByRecursion IsTypedAttr items) (spelled.list v 12 (spelled.attr v))
exact_attrs v = exact_fits (exact_list v 12 (omega arith) (omega arith) (λ _. exact_attr v))
    (λ items f. let both = all_both (LegalAttr v) IsTypedAttr items (all_after (λ a. LegalAttr v a × IsTypedAttr a) [] items f.1) in (f.0, both.0, both.1))
    (λ items f. (f.0, after_all (λ a. LegalAttr v a × IsTypedAttr a) [] items (both_all (LegalAttr v) IsTypedAttr items f.1 f.2)))

-- ---- variables

abbrev pub VarParts : Type 0
VarParts = List ℕ × (List ℕ × (List Attr × (XType × (ℕ × ℕ))))

abbrev pub var_of : VarParts → Var × Place
var_of x = (record { name = x.0; dims = x.1.0; attrs = x.1.1.0; xtype = x.1.1.1.0 }, record { vsize = x.1.1.1.1.0; begin = x.1.1.1.1.1 })

abbrev pub var_parts : Var × Place → VarParts
var_parts x = (x.0.name, (x.0.dims, (x.0.attrs, (x.0.xtype, (x.1.vsize, x.1.begin)))))

pub var_flat : (v : Version) (dims : List Dim) → ((name v then λ _. dimids v dims then λ _. attrs v then λ _. nc_type v then λ _. vsize v then λ _. begin v) into var_of) ≡ var v dims
var_flat v dims = flat (name v) (λ _. dimids v dims then λ _. attrs v then λ _. nc_type v then λ _. vsize v then λ _. begin v) (λ x. done (var_of x))
    ∙ ap (λ q. name v >>= q) (fun_ext (λ n. flat (dimids v dims) (λ _. attrs v then λ _. nc_type v then λ _. vsize v then λ _. begin v) (λ x. done (var_of (n, x)))
    ∙ ap (λ q. dimids v dims >>= q) (fun_ext (λ ids. flat (attrs v) (λ _. nc_type v then λ _. vsize v then λ _. begin v) (λ x. done (var_of (n, (ids, x))))))))

pub exact_var : (v : Version) (dims : List Dim) → length dims < count_limit v → Exact (var v dims) (λ x. (LegalVar v dims x.0 × IsTypedVar x.0) × LegalPlace v x.1) (spelled.var v)
exact_var v dims few = exact_fits (exact_as (var_flat v dims) (exact_into var_of var_parts
    (exact_then (exact_name v) (λ _ _. exact_then (exact_dimids v dims few) (λ _ _. exact_then (exact_attrs v) (λ _ _. exact_then (exact_type v)
    (λ _ _. exact_then (exact_number Plain (count_width_of v) (λ n. None)) (λ _ _. exact_number Begin (offset_width_of v) (begin_wrong v)))))))
    (λ a f. refl)))
    (λ x f. (
      (
        record { name = f.0.0.0; rank = f.0.1.0.0; dimids = f.0.1.0.1; attrs_number = f.0.1.1.0.0; attrs = f.0.1.1.0.1; xtype = f.0.1.1.1.0 },
        record { name = f.0.0.1; attrs = f.0.1.1.0.2 },
      ),
      record { vsize = f.0.1.1.1.1.0.0; begin = below-none x.1.begin (offset_limit v) NegativeOffset f.0.1.1.1.1.1.1 },
    ))
    (λ x f.
    let legal = f.0.0 in
    let typed = f.0.1 in
    let begin_fits : x.1.begin < 256 ^ offset_width_of v = omega (arith, f.1.begin, offset_limit-fits v) in (
      ((legal.name, typed.name), ((legal.rank, legal.dimids), ((legal.attrs_number, legal.attrs, typed.attrs), (legal.xtype, ((f.1.vsize, refl), (begin_fits, none-below x.1.begin (offset_limit v) NegativeOffset f.1.begin)))))),
      refl,
    ))
