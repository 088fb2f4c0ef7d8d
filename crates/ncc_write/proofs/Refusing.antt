-- What a call of a writer answers where it stands.
use Rattle.std.proofs.Common.{◌≡◌, ◌<◌, ◌≤◌, Bool, true, false, not, Option, Some, None, Result, Ok, Err, refl, sym, ap, subst, ◌∙◌}
use Rattle.std.specs.Prelude.{ltb, if◌then◌else◌}
use Rattle.std.proofs.lemmas.Bool.{eq-eqb, le-ltb, lt-ltb}
use Rattle.ncc_values.specs.Values.{type_of, count_of}
use Rattle.ncc_values.specs.XType.{code_of}
use Rattle.ncc_values.specs.declared.values.Values.{Values}
use Rattle.ncc_values.specs.declared.xtype.XType.{XType}
use Rattle.ncc_build.specs.Fill.{same_type}
use Rattle.ncc_build.specs.declared.fault.WriteFault.{WriteFault}
use Rattle.ncc_build.specs.declared.fault.WriteFault.TheVariants.{WrongType, TooManyValues, Unfinished, Failed, Complete, Device}
use Rattle.ncc_write.specs.Writing.{WriterState, Next, next_of, told, expected, refuses_next, refuses_put, refuses_fill, refuses_unfinished, refuses_finish, IsAnswer, IsExactly}
use Rattle.ncc_write.proofs.Paddings.{type_is}

-- ---- types

pub is_same : (t u : XType) → t ≡ u → same_type t u ≡ true
is_same t u e = ap (λ (v : XType). same_type v u) e ∙ eq-eqb (code_of u) (code_of u) refl

by_types : (t u : XType) (b : Bool) → same_type t u ≡ b → (t ≡ u → ⊥) → same_type t u ≡ false
by_types t u true is not_same = absurd (not_same (type_is t u is))
by_types t u false is not_same = is

is_other : (t u : XType) → (t ≡ u → ⊥) → same_type t u ≡ false
is_other t u not_same = by_types t u (same_type t u) refl not_same

-- ---- put

abbrev judged : (same many : Bool) → Option WriteFault
judged same many = if not same then Some WrongType else if many then Some TooManyValues else None

judges : (n : Next) (values : Values) (same many : Bool) → same_type (type_of values) n.slab.var.xtype ≡ same → ltb n.left (count_of values) ≡ many → refuses_next (Some n) values ≡ judged same many
judges n values same many is room = ap (λ (b : Bool). judged b (ltb n.left (count_of values))) is ∙ ap (judged same) room

-- of a writer that hasn't failed
by_next : (w : WriterState) (values : Values) (o : Option Next) → w.failed ≡ false → next_of w.schema w.taken ≡ o → refuses_put w values ≡ refuses_next o values
by_next w values o stands next = ap (λ (b : Bool). if b then Some Failed else refuses_next (next_of w.schema w.taken) values) stands ∙ ap (λ (p : Option Next). refuses_next p values) next

module _ (w : WriterState) (values : Values) (stands : w.failed ≡ false) where
  abbrev Answer : Option WriteFault → Result (Unit {0}) WriteFault → Type 0
  Answer refusal result = IsAnswer (λ (e : WriteFault). e) refusal result

  pub complete : next_of w.schema w.taken ≡ None → Answer (refuses_put w values) (Err Complete)
  complete none = subst (λ (o : Option WriteFault). Answer o (Err Complete)) (sym (by_next w values None stands none)) refl

  module _ (n : Next) (next : next_of w.schema w.taken ≡ Some n) where
    pub wrong_type : (type_of values ≡ n.slab.var.xtype → ⊥) → Answer (refuses_put w values) (Err WrongType)
    wrong_type other =
        subst (λ (o : Option WriteFault). Answer o (Err WrongType))
        (sym (by_next w values (Some n) stands next ∙ judges n values false (ltb n.left (count_of values)) (is_other (type_of values) n.slab.var.xtype other) refl)) refl

    pub too_many : type_of values ≡ n.slab.var.xtype → n.left < count_of values → Answer (refuses_put w values) (Err TooManyValues)
    too_many same many =
        subst (λ (o : Option WriteFault). Answer o (Err TooManyValues))
        (sym (by_next w values (Some n) stands next ∙ judges n values true true (is_same (type_of values) n.slab.var.xtype same) (lt-ltb n.left (count_of values) many))) refl

    pub taken : type_of values ≡ n.slab.var.xtype → count_of values ≤ n.left → refuses_put w values ≡ None
    taken same room = by_next w values (Some n) stands next ∙ judges n values true false (is_same (type_of values) n.slab.var.xtype same) (le-ltb n.left (count_of values) room)

    pub takes : type_of values ≡ n.slab.var.xtype → count_of values ≤ n.left → (x : Unit {0}) → Answer (refuses_put w values) (Ok x)
    takes same room x = subst (λ (o : Option WriteFault). Answer o (Ok x)) (sym (taken same room)) tt

    pub fails : type_of values ≡ n.slab.var.xtype → count_of values ≤ n.left → Answer (refuses_put w values) (Err Device)
    fails same room = subst (λ (o : Option WriteFault). Answer o (Err Device)) (sym (taken same room)) refl

-- ---- what is expected

pub expected_by : (w : WriterState) (o : Option Next) → w.failed ≡ false → next_of w.schema w.taken ≡ o → expected w ≡ told o
expected_by w o stands next = ap (λ (b : Bool). if b then None else told (next_of w.schema w.taken)) stands ∙ ap told next

pub failed_expects_nothing : (w : WriterState) → w.failed ≡ true → expected w ≡ None
failed_expects_nothing w failed = ap (λ (b : Bool). if b then None else told (next_of w.schema w.taken)) failed

-- ---- filling

pub fill_failed : (w : WriterState) → w.failed ≡ true → IsAnswer {T = Unit {0}} (λ (e : WriteFault). e) (refuses_fill w) (Err Failed)
fill_failed w failed = subst (λ (o : Option WriteFault). IsAnswer {T = Unit {0}} (λ (e : WriteFault). e) o (Err Failed)) (sym (ap (λ (b : Bool). if b then Some Failed else None) failed)) refl

-- ---- finishing

pub finish_by : (w : WriterState) (o : Option Next) → w.failed ≡ false → next_of w.schema w.taken ≡ o → refuses_finish w ≡ refuses_unfinished o
finish_by w o stands next = ap (λ (b : Bool). if b then Some Failed else refuses_unfinished (next_of w.schema w.taken)) stands ∙ ap refuses_unfinished next

pub unfinished : (T : Type 0) {E : Type 0} (w : WriterState) (n : Next) (fault_of : E → WriteFault) (e : E) → w.failed ≡ false → next_of w.schema w.taken ≡ Some n → fault_of e ≡ Unfinished → IsExactly {T = T} fault_of (refuses_finish w) (Err e)
unfinished T w n fault_of e stands next is = subst (λ (o : Option WriteFault). IsExactly {T = T} fault_of o (Err e)) (sym (finish_by w (Some n) stands next)) is

pub finished : {T E : Type 0} (w : WriterState) (fault_of : E → WriteFault) (x : T) → w.failed ≡ false → next_of w.schema w.taken ≡ None → IsExactly fault_of (refuses_finish w) (Ok x)
finished w fault_of x stands none = subst (λ (o : Option WriteFault). IsExactly fault_of o (Ok x)) (sym (finish_by w None stands none)) tt
